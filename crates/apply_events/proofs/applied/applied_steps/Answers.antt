use Rattle.std.proofs.Common.{◌≡◌, ℕ, List, [], length, min, take, Option, Some, sym, ap, ◌∙◌, arith}
use Rattle.std.specs.Prelude.{slice_get}
use Rattle.std.specs.Option.{option_map_or}
use Rattle.std.proofs.lemmas.List.{take_min}
use Rattle.apply_model.specs.declared.plan.step_kind.StepKind.{StepKind}
use Rattle.apply_model.specs.Plan.ResourceChange.{ResourceChange}
use Rattle.apply_model.specs.Plan.SavedPlan.{SavedPlan}
use Rattle.apply_model.specs.Script.OutcomeMap.{first_skipped}
use Rattle.apply_events.specs.Step.{kinds_of}
use Rattle.apply_events.proofs.applied.applied_steps.Goals as goal

-- the steps that the plan has for the change
planned_steps : (plan : SavedPlan) (c : ℕ) (change : ResourceChange) (kinds : List StepKind) → Some change ≡ slice_get plan.changes c → kinds ≡ change.steps → kinds ≡ kinds_of plan c
planned_steps plan c change kinds answer is = is ∙ ap (λ (o : Option ResourceChange). option_map_or (λ (r : ResourceChange). r.steps) o []) answer

-- those before the first that is skipped
before_skipped : (kinds planned : List StepKind) (first : Option ℕ) (skipped end : ℕ) → kinds ≡ planned → Some skipped ≡ first → end ≡ min (length kinds) skipped
    → take end kinds ≡ option_map_or (λ k. take k planned) first planned
before_skipped kinds planned first skipped end is answer least =
    let same : end ≡ min skipped (length kinds) = omega arith in
    ap (λ n. take n kinds) same ∙ take_min skipped kinds ∙ ap (take skipped) is ∙ ap (λ (o : Option ℕ). option_map_or (λ k. take k planned) o planned) answer

pub returns-in-Some-clause-steps : goal.returns-in-Some-clause-steps
returns-in-Some-clause-steps c =
    before_skipped c.steps-steps.result.now (kinds_of c.args.plan.now c.args.change) (first_skipped c.args.script.now c.args.change) c.in-Some.skipped c.min.result
    (planned_steps c.args.plan.now c.args.change c.change.result.now c.steps-steps.result.now c.change.ensures c.steps-steps.ensures.steps)
    (sym c.in-Some.is ∙ c.skipped.ensures) c.min.ensures
