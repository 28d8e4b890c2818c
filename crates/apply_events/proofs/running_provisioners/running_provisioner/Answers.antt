use Rattle.std.proofs.Common.{◌∙◌, arith, sym}
use Rattle.std.proofs.lemmas.Option.{slice_get_past}
use Rattle.apply_model.specs.Script.Outcome.{ran}
use Rattle.apply_events.proofs.MidSteps.{ran_few, ran_get}
use Rattle.apply_events.proofs.running_provisioners.running_provisioner.Goals as goal

pub get-requires : goal.get-requires
get-requires c =
    let few = ran_few c.args.outcome.now.provisioners in let count = c.count_that_run.ensures in let less = c.if-number-count_that_run.true in (omega arith)

pub returns-then-number-count_that_run-clause-answer : goal.returns-then-number-count_that_run-clause-answer
returns-then-number-count_that_run-clause-answer c =
    c.get.ensures
    ∙ sym (ran_get c.args.outcome.now.provisioners c.args.number (let count = c.count_that_run.ensures in let less = c.if-number-count_that_run.true in omega arith))

pub returns-then-number-count_that_run-clause-few : goal.returns-then-number-count_that_run-clause-few
returns-then-number-count_that_run-clause-few c =
    let few = ran_few c.args.outcome.now.provisioners in let count = c.count_that_run.ensures in let less = c.if-number-count_that_run.true in let most = c.len-few.ensures.few in (omega arith)

pub returns-else-number-count_that_run-clause-answer : goal.returns-else-number-count_that_run-clause-answer
returns-else-number-count_that_run-clause-answer c =
    sym (slice_get_past (ran c.args.outcome.now.provisioners) c.args.number (let count = c.count_that_run.ensures in let all = c.if-number-count_that_run.false in omega arith))
