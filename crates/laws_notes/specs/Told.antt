-- Diagnostics as a run reports them: those of the steps in the order of their ends, then those of
-- no step.
use Rattle.std.specs.Prelude.{◌≡◌, ◌≢◌, ℕ, List, [], ◌∷◌, ◌++◌, All, slice_get, Bool, true, ⊤, IfSome, Option, Some, None}
use Rattle.std.specs.List.{Contains, filter_map}
use Rattle.apply_model.specs.declared.details.note.Note.{Note}
use Rattle.apply_model.specs.declared.details.note.Severity.{Severity}
use Rattle.apply_model.specs.declared.details.note.Severity.TheVariants.{Error, Warning}
use Rattle.stream_record_steps.specs.declared.begun_step.BegunStep.{BegunStep}
use Rattle.stream_record_steps.specs.declared.begun_step.EndResult.{EndResult}
use Rattle.stream_record_steps.specs.declared.begun_step.EndResult.TheVariants.{Completed, Failed}
use Rattle.stream_record_steps.specs.declared.begun_step.StepEnd.{StepEnd}
use Rattle.stream_record_steps.specs.Begun.{Begun, begun_at}
use Rattle.stream_record_steps.specs.Steps.{PlannedStep}
use Rattle.stream_record_outcomes.specs.Assignment.{Assignment, Fit, fit_of, fits, loose_notes, note_of_step}

-- A step that failed has a diagnostic that fits it. One that completed has one that fits, or none.
abbrev pub FitsStep : (fit : Option Fit) → EndResult → Option Note → Type 0
FitsStep fit Failed None = ⊥
FitsStep fit Failed (Some note) = IfSome fit (λ fit. fits fit note ≡ true) × (fit ≢ None)
FitsStep fit (Completed id_key id) None = ⊤
FitsStep fit (Completed id_key id) (Some note) = IfSome fit (λ fit. fits fit note ≡ true) × (fit ≢ None)

-- The step at a place ended, and has this diagnostic.
pub record HasNote (is_default_form : Bool) (begun : Begun) (place : ℕ) (note : Option Note) : Type 0 where
  pub step : PlannedStep
  pub known : BegunStep
  pub end : StepEnd
  pub planned : slice_get begun.planned place ≡ Some step
  pub began : begun_at begun.by_step place ≡ Some known
  pub ended : known.end ≡ Some end
  pub fits_step : FitsStep (fit_of is_default_form step known) end.result note

-- The severity of a step's diagnostic.
abbrev pub severity_of_end : EndResult → Severity
severity_of_end (Completed id_key id) = Warning
severity_of_end Failed = Error

-- The diagnostics of the steps at these places.
abbrev pub HaveNotes : (is_default_form : Bool) → Begun → (places : List ℕ) → List (Option Note) → Type 0
HaveNotes is_default_form begun [] [] = ⊤
HaveNotes is_default_form begun [] (own ∷ notes) = ⊥
HaveNotes is_default_form begun (place ∷ places) [] = ⊥
HaveNotes is_default_form begun (place ∷ places) (own ∷ notes) =
    HasNote is_default_form begun place own × HaveNotes is_default_form begun places notes

-- No place stands twice.
abbrev pub AreDistinct : List ℕ → Type 0
AreDistinct [] = ⊤
AreDistinct (place ∷ places) = (Contains places place → ⊥) × AreDistinct places

-- Each step that began ended, once. The steps told these diagnostics in the order of their ends.
-- Others came after them.
pub record AreNotesTold (is_default_form : Bool) (begun : Begun) (told : List (Option Note)) (loose notes : List Note) : Type 0 where
  pub distinct : AreDistinct begun.ends
  pub ended : All (λ place. Contains begun.ends place) begun.begins
  pub have : HaveNotes is_default_form begun begun.ends told
  pub are : notes ≡ filter_map (λ note. note) told ++ loose

-- Each failed step has a diagnostic, and each diagnostic of a step fits it. Those of the steps, in
-- the order of their ends, and then those of no step are the same list.
pub record AreNotesToldAgain (is_default_form : Bool) (begun : Begun) (told : List (Option Note)) (notes : List Note) (assignment : Assignment) : Type 0 where
  pub fit : All (λ place. HasNote is_default_form begun place (note_of_step notes assignment place)) begun.ends
  pub same : filter_map (note_of_step notes assignment) begun.ends ++ loose_notes notes assignment ≡ notes
  -- without others, none is of no step
  pub none_loose : notes ≡ filter_map (λ note. note) told → loose_notes notes assignment ≡ []
