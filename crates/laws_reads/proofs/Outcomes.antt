-- The outcomes of the steps of a whole stream.
use Rattle.std.proofs.Common.{◌≡◌, ℕ, zero, suc, ◌+◌, ℤ, List, [], ◌∷◌, length, Option, Some, None, refl, ap, ◌∙◌, arith}
use Rattle.std.specs.Prelude.{slice_get, option_map}
use Rattle.apply_model.specs.declared.details.note.Note.{Note}
use Rattle.apply_model.specs.Plan.ResourceChange.{ResourceChange}
use Rattle.stream_record_steps.specs.Begun.{Begun, begun_at}
use Rattle.stream_record_steps.specs.Steps.{PlannedStep, planned_steps}
use Rattle.stream_record_outcomes.specs.declared.circumstances.Circumstances.{Circumstances}
use Rattle.stream_record_outcomes.specs.declared.recorded_step.RecordedStep.{RecordedStep}
use Rattle.stream_record_outcomes.specs.Assignment.{Assignment, assignment_of, considered, note_of_step}
use Rattle.stream_record_outcomes.specs.Recording.{notes_of_no_step, recorded_from, recorded_step, recorded_steps}
use Rattle.laws_reads.specs.Outcomes.{AreRecorded}

-- ---- the step at a place

module _ (cut_off_at : Option ℤ) (begun : Begun) (notes : List Note) (assignment : Assignment) where
  abbrev recorded_at : (place : ℕ) → PlannedStep → Option RecordedStep
  recorded_at place step = option_map (recorded_step cut_off_at step (note_of_step notes assignment place)) (begun_at begun.by_step place)

  recorded_of_each : (steps : List PlannedStep) (first k : ℕ) (step : PlannedStep) → slice_get steps k ≡ Some step
      → slice_get (recorded_from cut_off_at begun notes assignment first steps) k ≡ Some (recorded_at (first + k) step)
  recorded_of_each [] first k step at = absurd cc
  recorded_of_each (one ∷ steps) first zero step at =
      let same : one ≡ step = cc in
      ap (λ (s : PlannedStep). Some (recorded_at first s)) same ∙ ap (λ (n : ℕ). Some (recorded_at n step)) (omega arith)
  recorded_of_each (one ∷ steps) first (suc k) step at =
      let counted : (first + 1) + k ≡ first + suc k = omega arith in
      recorded_of_each steps (first + 1) k step at ∙ ap (λ (n : ℕ). Some (recorded_at n step)) counted

  recorded_as_many : (steps : List PlannedStep) (first : ℕ) → length (recorded_from cut_off_at begun notes assignment first steps) ≡ length steps
  recorded_as_many [] first = refl
  recorded_as_many (one ∷ steps) first = ap suc (recorded_as_many steps (first + 1))

-- ---- all steps

module _ (changes : List ResourceChange) (circumstances : Circumstances) (begun : Begun) (notes : List Note) where
  pub whole_recording : begun.planned ≡ planned_steps changes → circumstances.cut_off_at ≡ None
      → AreRecorded changes begun (considered circumstances notes) circumstances.is_default_form (recorded_steps circumstances begun notes) (notes_of_no_step circumstances begun notes)
  whole_recording planned whole =
      let known = considered circumstances notes in
      let assignment = assignment_of circumstances.is_default_form begun known in
      let steps_are : recorded_steps circumstances begun notes ≡ recorded_from None begun known assignment 0 (planned_steps changes) =
      ap (λ (at : Option ℤ). recorded_from at begun known assignment 0 begun.planned) whole
      ∙ ap (recorded_from None begun known assignment 0) planned in
      record {
        planned = planned;
        as_many = ap length steps_are ∙ recorded_as_many None begun known assignment (planned_steps changes) 0;
        each = λ place step at.
            ap (λ (l : List (Option RecordedStep)). slice_get l place) steps_are
            ∙ recorded_of_each None begun known assignment (planned_steps changes) 0 place step at
            ∙ ap (λ (n : ℕ). Some (recorded_at None begun known assignment n step)) (omega arith);
        others = refl;
      }
