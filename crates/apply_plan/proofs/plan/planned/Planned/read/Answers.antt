use Rattle.apply_json.specs.declared.read_fault.ReadFault.TheVariants.{NotJson}
use Rattle.std.proofs.Common.{subst}
use Rattle.apply_json.proofs.VerbatimValues.{as_whole}
use Rattle.apply_plan.specs.Plan.PlannedView.{planned_view}
use Rattle.apply_plan.specs.Results.{IsExactly}
use Rattle.apply_plan.proofs.Plans.Held.{described}
use Rattle.apply_plan.proofs.MadeOfRead.{same_fault}
use Rattle.apply_plan.proofs.plan.planned.Planned.read.Goals as goal

pub returns-in-Ok : goal.returns-in-Ok
returns-in-Ok c =
    let done = c.in-Ok.ensures.ok in
    record {
      ok = (done.0, as_whole c.args.depth c.args.reader.now done.0 _ done.1, subst (λ defined. IsExactly planned_view c.of.result defined) (described c.read_object.new.slots c.args.number done.0 done.3) c.of.ensures);
      shorter = c.in-Ok.ensures.shorter;
      err = λ never. absurd cc;
    }

pub returns-in-Err : goal.returns-in-Err
returns-in-Err c = record { ok = tt; shorter = tt; err = λ same. c.in-Err.ensures.err (same_fault c.in-Err.fault NotJson same) }
