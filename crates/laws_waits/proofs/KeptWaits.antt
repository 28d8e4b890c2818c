-- Waits that a stream kept come again.
use Rattle.std.proofs.Common.{◌≡◌, ◌∙◌, ◌<◌, ℕ, Bool, true, false, cond, List, [], length, replicate, Option, None, Some, refl, sym, ap, arith, subst}
use Rattle.std.specs.List.{Contains}
use Rattle.std.proofs.lemmas.List.{ext_get_or, get_or-replicate, length-replicate}
use Rattle.std.proofs.lemmas.List.Elements.{All-contains}
use Rattle.stream_record_waits.specs.declared.choices.Choices.{Choices}
use Rattle.stream_record_waits.specs.declared.step_of_plan.StepOfPlan.{StepOfPlan}
use Rattle.stream_record_waits.specs.declared.step_of_plan.StepRun.{StepRun}
use Rattle.stream_record_waits.specs.Course.{pinned_waits}
use Rattle.stream_record_waits.specs.Graph.{AreStepWaits, IsEarlyFor, Reaches, WaitsFor, directly, through, waits_at}
use Rattle.stream_record_waits.specs.Recorded.{AreRecordedWaits, found_basis, no_waits}
use Rattle.stream_record_waits.specs.Steps.{is_done_before, step_at}
use Rattle.laws_waits.specs.Kept.{AreKept}
use Rattle.laws_waits.proofs.Increasing.{none_in, same_in_order}

not_both : (b : Bool) → b ≡ true → b ≡ false → ⊥
not_both true is other = cc
not_both false is other = cc

module _ (steps : List StepOfPlan) (graph : List (List ℕ)) (kept : AreKept steps graph) where
  module _ (step : ℕ) (within : step < length steps) (run : StepRun) (ran : (step_at steps step).run ≡ Some run) where
    done : (other : ℕ) → Contains (waits_at graph step) other → is_done_before steps other run.line ≡ true
    done other has = All-contains (λ (n : ℕ). is_done_before steps n run.line ≡ true) (waits_at graph step) other (kept.sound.done step run within ran) has

    -- a step that began reaches only its own waits: each was done before, and passes nothing on
    only_waits : (other : ℕ) → Reaches steps graph step run.line other → Contains (waits_at graph step) other
    only_waits other (directly _ has) = has
    only_waits other (through middle _ reaches late has) = absurd (not_both (is_done_before steps middle run.line) (done middle (only_waits middle reaches)) late)

    waits_for : (other : ℕ) → Contains (waits_at graph step) other → WaitsFor steps graph step run.line other
    waits_for other has = record {
      reaches = directly other has;
      done = done other has;
      differs = λ same. kept.others step (subst (Contains (waits_at graph step)) same has);
    }

    never_early : (other : ℕ) → IsEarlyFor steps graph step run.line other → ⊥
    never_early other early = not_both (is_done_before steps other run.line) (done other (only_waits other early.reaches)) early.not_done

  step_waits : (step : ℕ) → step < length steps → (run : Option StepRun) → (step_at steps step).run ≡ run → (after early : List ℕ) → AreStepWaits steps graph step run after early
      → (after ≡ waits_at graph step) × (early ≡ [])
  step_waits step within None ran after early are = are
  step_waits step within (Some run) ran after early are = (
    same_in_order after (waits_at graph step) are.0.in_order (kept.sound.of_steps.in_order step within)
        (λ other has. only_waits step within run ran other (are.0.sound other has).reaches)
        (λ other has. are.0.complete other (waits_for step within run ran other has)),
    none_in early (λ other has. never_early step within run ran other (are.1.sound other has)),
  )

  module _ (choices : Choices) (after early : List (List ℕ)) (begins : choices.begins ≡ false) (are : AreRecordedWaits steps (Some graph) choices after early) where
    found_step : (step : ℕ) → step < length steps → (waits_at are.found step ≡ waits_at graph step) × (waits_at early step ≡ [])
    found_step step within = step_waits step within (step_at steps step).run refl (waits_at are.found step) (waits_at early step) (are.are_found.waits step within)

    as_found : after ≡ are.found
    as_found = are.after_is ∙ ap (λ (b : Bool). cond b (pinned_waits (found_basis steps (Some graph) are.behind are.found) choices.lanes) are.found) begins

    pub waits_again : after ≡ graph
    waits_again =
        let many = are.are_found.each in
        let each = kept.sound.of_steps.each in
        as_found ∙ ext_get_or [] are.found graph (many ∙ sym each) (λ step less. (found_step step (omega (arith, less, many))).0)

    pub none_early : early ≡ no_waits (length steps)
    none_early =
        let many = are.are_found.each_early in
        ext_get_or [] early (replicate (length steps) []) (many ∙ sym (length-replicate (length steps) []))
        (λ step less. let within : step < length steps = omega (arith, less, many) in (found_step step within).1 ∙ sym (get_or-replicate (length steps) step [] [] within))
