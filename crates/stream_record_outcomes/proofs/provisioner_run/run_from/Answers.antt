use Rattle.std.proofs.Common.{arith}
use Rattle.stream_record_outcomes.proofs.Places.{run_at, run_to_end}
use Rattle.stream_record_outcomes.proofs.provisioner_run.run_from.Goals as goal

pub returns-in-Some : goal.returns-in-Some
returns-in-Some c =
    run_at c.args.to_own_end c.args.whole c.args.begin c.args.facts.now c.args.name.now c.in-Some.count c.second_at.result _ (grind arith)
    c.in-Some.ensures.value c.second_at.ensures

pub returns-in-None : goal.returns-in-None
returns-in-None c =
    run_to_end c.args.to_own_end c.args.whole c.args.begin c.args.facts.now c.args.name.now c.last_until.result c.in-None.ensures.value
    c.last_until.ensures
