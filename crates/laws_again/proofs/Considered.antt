-- Which diagnostics of a stream of our own `record` considers.
use Rattle.std.proofs.Common.{◌≡◌, ◌∙◌, ◌-◌, ℕ, List, [], ◌∷◌, ◌++◌, append-nil, cond, filter, length, map, slice_get, take, Bool, true, false, not, Option, Some, None, refl, sym, ap, arith}
use Rattle.std.specs.Prelude.{◌&&◌, IfSome}
use Rattle.std.specs.List.{AllByRecursion}
use Rattle.std.specs.Option.{option_map_or}
use Rattle.std.proofs.Math.Seq.{take-append_seam}
use Rattle.std.proofs.lemmas.List.{append_assoc, length-append, map-append}
use Rattle.apply_events.specs.declared.event.Event.{Event}
use Rattle.apply_model.specs.declared.details.note.Note.{Note}
use Rattle.apply_model.specs.Plan.SavedPlan.{SavedPlan}
use Rattle.apply_model.specs.Script.OutcomeMap.{OutcomeMap}
use Rattle.apply_plan_terraform.specs.declared.plan_notes.PlanNote.{PlanNote}
use Rattle.apply_plan_terraform.specs.declared.plan_notes.PlanNote.TheVariants.{Partial, Unfinished}
use Rattle.apply_plan_terraform.specs.Notes.{note_of_plan, written_notes}
use Rattle.apply_run.specs.Read.{is_unfinished}
use Rattle.apply_text.specs.Order.{hook_messages_of}
use Rattle.stream_record_outcomes.specs.declared.circumstances.Circumstances.{Circumstances}
use Rattle.stream_record_outcomes.specs.Assignment.{considered, is_of_errored_plan, is_of_partial_plan, without_partial}
use Rattle.stream_record_script.specs.Recordings.{circumstances_of}
use Rattle.stream_record_stream.specs.Streams.{StreamRead}
use Rattle.laws_check.proofs.Given.{held_at}
use Rattle.laws_own_streams.specs.Runs.{notes_read_by_ends, shown_in_form}
use Rattle.laws_own_streams.proofs.ShownWhole.{ends_hold}
use Rattle.laws_texts.specs.Notes.{ends_of}
use Rattle.laws_texts.specs.Streams.{plain_address, without_place}
use Rattle.laws_texts.specs.TimeLines.{notes_by_ends}

-- ---- diagnostics with an address

-- The diagnostic is not of the plan as a whole.
abbrev IsOfNoPlan : Note → Type 0
IsOfNoPlan note = (is_of_partial_plan note ≡ false) × (is_of_errored_plan note ≡ false)

not_both : (b : Bool) → not (b && false) ≡ true
not_both true = refl
not_both false = refl

all_kept : (errored : Bool) (notes : List Note) → AllByRecursion IsOfNoPlan notes → filter (λ note. not (errored && is_of_errored_plan note)) notes ≡ notes
all_kept errored [] none = refl
all_kept errored (note ∷ notes) none =
    let kept = filter (λ note. not (errored && is_of_errored_plan note)) notes in
    ap (λ (b : Bool). cond (not (errored && b)) (note ∷ kept) kept) none.0.1
    ∙ ap (λ (b : Bool). cond b (note ∷ kept) kept) (not_both errored)
    ∙ ap (λ (l : List Note). note ∷ l) (all_kept errored notes none.1)

last_kept : (last : Option Note) → IfSome last IsOfNoPlan → option_map_or is_of_partial_plan last false ≡ false
last_kept None none = refl
last_kept (Some note) none = none.0

all_considered : (circumstances : Circumstances) (notes : List Note) → AllByRecursion IsOfNoPlan notes → considered circumstances notes ≡ notes
all_considered circumstances notes none =
    ap (filter (λ note. not (circumstances.is_errored && is_of_errored_plan note))) (others circumstances.is_partial)
    ∙ all_kept circumstances.is_errored notes none
  where
    others : (partial : Bool) → cond partial (without_partial notes) notes ≡ notes
    others true =
        ap (λ (b : Bool). cond b (take (length notes - 1) notes) notes) (last_kept (slice_get notes (length notes - 1)) (held_at IsOfNoPlan notes (length notes - 1) none))
    others false = refl

placed : (notes : List Note) → AllByRecursion IsOfNoPlan notes → AllByRecursion IsOfNoPlan (map without_place notes)
placed [] none = tt
placed (note ∷ notes) none = (none.0, placed notes none.1)

-- In the default form each diagnostic of a step has an address: `record` considers all.
pub considered_are : (circumstances : Circumstances) (plan : SavedPlan) (steps : OutcomeMap) (events : List Event)
    → considered circumstances (notes_read_by_ends plan steps events) ≡ notes_read_by_ends plan steps events
considered_are circumstances plan steps events =
    all_considered circumstances (notes_read_by_ends plan steps events) (placed (notes_by_ends plain_address plan steps events)
    (ends_hold IsOfNoPlan plain_address plan steps (λ change kind c k. (refl, refl)) (λ change kind c k. (refl, refl)) (ends_of (hook_messages_of events))))

-- ---- the diagnostic of a plan that Terraform finished

pub with_last : (note : Option PlanNote) → is_unfinished note ≡ false → (script : List Note) → script ++ written_notes note [] ≡ written_notes note script
with_last None finished script = append-nil script
with_last (Some Partial) finished script = refl
with_last (Some Unfinished) finished script = absurd cc

pub shown_last : (note : Option PlanNote) → is_unfinished note ≡ false → (script : List Note)
    → map shown_in_form (written_notes note script) ≡ written_notes note (map shown_in_form script)
shown_last None finished script = refl
shown_last (Some Partial) finished script = map-append shown_in_form script (note_of_plan Partial ∷ [])
shown_last (Some Unfinished) finished script = absurd cc

none_errored : (notes : List Note) → filter (λ note. not (false && is_of_errored_plan note)) notes ≡ notes
none_errored [] = refl
none_errored (note ∷ notes) = ap (λ (l : List Note). note ∷ l) (none_errored notes)

at_end : (notes : List Note) (last : Note) → slice_get (notes ++ last ∷ []) (length notes) ≡ Some last
at_end [] last = refl
at_end (note ∷ notes) last = at_end notes last

-- The warning of a partial plan is the last diagnostic.
last_left_out : (notes : List Note) → without_partial (notes ++ note_of_plan Partial ∷ []) ≡ notes
last_left_out notes =
    let last = note_of_plan Partial in
    let all = notes ++ last ∷ [] in
    let before : length all - 1 ≡ length notes = (let longer = length-append notes (last ∷ []) in omega (arith, longer)) in
    ap (λ (n : ℕ). cond (option_map_or is_of_partial_plan (slice_get all n) false) (take n all) all) before
    ∙ ap (λ (o : Option Note). cond (option_map_or is_of_partial_plan o false) (take (length notes) all) all) (at_end notes last)
    ∙ take-append_seam notes (last ∷ [])

module _ (note : Option PlanNote) (finished : is_unfinished note ≡ false) (stream : StreamRead) (told script : List Note) where
  -- `record` considers the diagnostics of the steps and those of the script.
  pub left_out : considered (circumstances_of note stream) (told ++ written_notes note script) ≡ told ++ script
  left_out = of_note note finished
    where
      of_note : (note : Option PlanNote) → is_unfinished note ≡ false → considered (circumstances_of note stream) (told ++ written_notes note script) ≡ told ++ script
      of_note None finished = none_errored (told ++ script)
      of_note (Some Partial) finished =
          ap (considered (circumstances_of (Some Partial) stream)) (sym (append_assoc told script (note_of_plan Partial ∷ [])))
          ∙ ap (filter (λ note. not (false && is_of_errored_plan note))) (last_left_out (told ++ script))
          ∙ none_errored (told ++ script)
      of_note (Some Unfinished) finished = absurd cc

  -- With that of the plan these are all.
  pub with_left_out : considered (circumstances_of note stream) (told ++ written_notes note script) ++ written_notes note [] ≡ told ++ written_notes note script
  with_left_out =
      ap (λ (l : List Note). l ++ written_notes note []) left_out
      ∙ append_assoc told script (written_notes note [])
      ∙ ap (λ (l : List Note). told ++ l) (with_last note finished script)
