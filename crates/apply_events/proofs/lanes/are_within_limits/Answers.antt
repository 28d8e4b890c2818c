use Rattle.std.proofs.Common.{◌<◌, ◌≤◌, ◌≡◌, arith, subst, ⊎_elim}
use Rattle.std.proofs.lemmas.Bool.{cases_lt}
use Rattle.apply_model.specs.Script.OutcomeMap.{stated_outcome}
use Rattle.apply_events.specs.Lanes.Startable.{AreWithinLimits}
use Rattle.apply_events.proofs.TimeLines.Few.{bounded, few_kinds}
use Rattle.apply_events.proofs.lanes.are_within_limits.Goals as goal

pub loop-change-preserved : goal.loop-change-preserved
loop-change-preserved c k lt =
    let plan = c.args.plan.now in let script = c.args.script.now in let change = c.loop-change.change in ⊎_elim
    (λ (less : k < change). c.loop-change.invariant k less)
    (λ (ge : change ≤ k).
    let same : change ≡ k = omega arith in
    let here : AreWithinLimits plan script change = record {
      few = few_kinds plan change c.change.result.now c.change.ensures (let few = c.steps-steps.ensures.few in omega arith);
      first = bounded (stated_outcome script change 0) c.outcome-first.ensures.in_range;
      second = bounded (stated_outcome script change 1) c.outcome-second.ensures.in_range;
    } in
    subst (AreWithinLimits plan script) same here)
    (cases_lt k change)

pub returns-clause-steps : goal.returns-clause-steps
returns-clause-steps c k lt = let all = c.len-change-end.ensures.len in let over = c.loop-change-test.false in c.loop-change.invariant k (omega arith)
