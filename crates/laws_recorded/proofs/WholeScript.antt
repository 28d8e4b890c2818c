-- What is recorded of a stream may be written.
use Rattle.std.proofs.Common.{◌≡◌, ◌∙◌, ◌+◌, ◌≤◌, ℕ, ℤ, zero, suc, List, [], ◌∷◌, length, Option, None, Some, sym, ap, arith, subst}
use Rattle.std.specs.Prelude.{IfSome, option_map, slice_get, sum_by}
use Rattle.std.specs.List.{AllByRecursion}
use Rattle.apply_model.specs.declared.details.note.Note.{Note}
use Rattle.apply_model.specs.Plan.ResourceChange.{ResourceChange}
use Rattle.stream_record_outcomes.specs.declared.circumstances.Circumstances.{Circumstances}
use Rattle.stream_record_outcomes.specs.declared.recorded_step.RecordedStep.{RecordedStep}
use Rattle.stream_record_outcomes.specs.Assignment.{Assignment, assignment_of, considered, note_of_step}
use Rattle.stream_record_outcomes.specs.Recording.{recorded_from, recorded_step, recorded_steps}
use Rattle.stream_record_outcomes.proofs.Allowed.{all_allowed}
use Rattle.stream_record_steps.specs.declared.begun_step.BegunStep.{BegunStep}
use Rattle.stream_record_steps.specs.Begun.{Begun, begun_at}
use Rattle.stream_record_steps.specs.Steps.{PlannedStep, planned_steps}
use Rattle.stream_record_waits.specs.declared.choices.Choices.{Choices}
use Rattle.stream_record_waits.specs.Graph.{count_of}
use Rattle.stream_record_waits.specs.Recorded.{AreRecordedWaits, AreSoundWaits, max_waits}
use Rattle.stream_record_waits.specs.States.{states_of}
use Rattle.stream_record_script.specs.Runs.{recorded_at, steps_of_plan}
use Rattle.stream_record_script.specs.Steps.{script_of}
use Rattle.laws_recorded.specs.Begins.{BeginInOrder}
use Rattle.laws_recorded.specs.Graphs.{IsRankedGraph}
use Rattle.laws_recorded.specs.Texts.{IsWritableRecording}
use Rattle.laws_record.specs.Writable.{IsWritable, IsWritableChange, NamesEachObjectOnce}
use Rattle.laws_recorded.proofs.RecordedEntries.{script_is_writable}
use Rattle.laws_recorded.proofs.PlaceRanks.{AreRanked, ranks_with, ranks_without}
use Rattle.laws_recorded.proofs.RunOrder.{HaveOutcomes, has_ranks, runs_in_order}

-- a step that began has an outcome
outcome_from : (cut_off_at : Option ℤ) (begun : Begun) (notes : List Note) (assignment : Assignment) (place : ℕ) (steps : List PlannedStep) (i : ℕ) (own : PlannedStep) (known : BegunStep)
    → slice_get steps i ≡ Some own → begun_at begun.by_step (place + i) ≡ Some known
    → (found : RecordedStep) × (recorded_at (recorded_from cut_off_at begun notes assignment place steps) i ≡ Some found)
outcome_from cut_off_at begun notes assignment place [] i own known at began = absurd cc
outcome_from cut_off_at begun notes assignment place (step ∷ steps) zero own known at began =
    let same : place ≡ place + 0 = omega arith in
    let make = recorded_step cut_off_at step (note_of_step notes assignment place) in
    (make known, ap (λ (p : ℕ). option_map make (begun_at begun.by_step p)) same ∙ ap (option_map make) began)
outcome_from cut_off_at begun notes assignment place (step ∷ steps) (suc i) own known at began =
    let same : place + 1 + i ≡ place + suc i = omega arith in
    outcome_from cut_off_at begun notes assignment (place + 1) steps i own known at (ap (begun_at begun.by_step) same ∙ began)

module _ (circumstances : Circumstances) (begun : Begun) (notes : List Note) where
  pub have_outcomes : HaveOutcomes begun (recorded_steps circumstances begun notes)
  have_outcomes i own known at began =
      let kept = considered circumstances notes in
      let zeroth : 0 + i ≡ i = omega arith in
      outcome_from circumstances.cut_off_at begun kept (assignment_of circumstances.is_default_form begun kept) 0 begun.planned i own known at (ap (begun_at begun.by_step) zeroth ∙ began)

  module _ (changes : List ResourceChange) (each : AllByRecursion IsWritableChange changes) (once : NamesEachObjectOnce changes)
      (planned_is : begun.planned ≡ planned_steps changes) (order : BeginInOrder begun) (writable : AllByRecursion IsWritableRecording (recorded_steps circumstances begun notes))
      (choices : Choices) (after early : List (List ℕ)) (sound : AreSoundWaits (steps_of_plan begun (recorded_steps circumstances begun notes)) after) (few : count_of after early ≤ max_waits) where
    ranks_of : (graph : Option (List (List ℕ))) → IfSome graph (IsRankedGraph (planned_steps changes))
        → AreRecordedWaits (steps_of_plan begun (recorded_steps circumstances begun notes)) graph choices after early → AreRanked (steps_of_plan begun (recorded_steps circumstances begun notes)) after
    ranks_of None ranked are =
        let recorded = recorded_steps circumstances begun notes in
        ranks_without (steps_of_plan begun recorded) choices after early are sound (runs_in_order begun order recorded have_outcomes)
    ranks_of (Some graph) ranked are =
        let recorded = recorded_steps circumstances begun notes in
        ranks_with (steps_of_plan begun recorded) graph choices after early are sound (runs_in_order begun order recorded have_outcomes)
        (has_ranks begun order recorded have_outcomes graph (subst (λ (steps : List PlannedStep). IsRankedGraph steps graph) (sym planned_is) ranked))

    pub may_be_written : (graph : Option (List (List ℕ))) → IfSome graph (IsRankedGraph (planned_steps changes))
        → AreRecordedWaits (steps_of_plan begun (recorded_steps circumstances begun notes)) graph choices after early
        → IsWritable changes (script_of changes (recorded_steps circumstances begun notes) (states_of (steps_of_plan begun (recorded_steps circumstances begun notes)) after) after)
    may_be_written graph ranked are =
        let kept = considered circumstances notes in
        let fewer : sum_by length after ≤ max_waits = omega (arith, few) in
        script_is_writable changes begun planned_is (recorded_steps circumstances begun notes) after each once
        (all_allowed circumstances.cut_off_at begun kept (assignment_of circumstances.is_default_form begun kept) 0 begun.planned)
        writable fewer (ranks_of graph ranked are)
