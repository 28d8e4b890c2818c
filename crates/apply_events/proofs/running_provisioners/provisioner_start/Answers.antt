use Rattle.std.proofs.Common.{arith}
use Rattle.apply_model.specs.Script.Outcome.{ran, seconds_before}
use Rattle.apply_events.proofs.MidSteps.{before_whole, ends_in_time, ran_at, ran_few, since_more}
use Rattle.apply_events.proofs.running_provisioners.provisioner_start.Goals as goal

pub get-requires : goal.get-requires
get-requires c =
    let few = ran_few c.args.outcome.now.provisioners in let count = c.count_that_run.ensures in let least = c.min-earlier-end.ensures in let less = c.loop-earlier-test.true in (omega arith)

pub overflow_add-seconds : goal.overflow_add-seconds
overflow_add-seconds c =
    let ps = c.args.outcome.now.provisioners in
    let here = ran_at ps c.loop-earlier.earlier c.get.result.now (let count = c.count_that_run.ensures in let least = c.min-earlier-end.ensures in let less = c.loop-earlier-test.true in omega arith) c.get.ensures in
    let ends = ends_in_time (seconds_before c.args.kind c.args.outcome.now) (ran ps) c.loop-earlier.earlier c.get.result.now here in
    let so_far = c.loop-earlier.invariant in
    let short = c.requires in
    let whole = before_whole c.args.kind c.args.outcome.now in
    (omega arith)

pub loop-earlier-preserved : goal.loop-earlier-preserved
loop-earlier-preserved c =
    let ps = c.args.outcome.now.provisioners in
    let here = ran_at ps c.loop-earlier.earlier c.get.result.now (let count = c.count_that_run.ensures in let least = c.min-earlier-end.ensures in let less = c.loop-earlier-test.true in omega arith) c.get.ensures in
    let more = since_more (seconds_before c.args.kind c.args.outcome.now) (ran ps) c.loop-earlier.earlier c.get.result.now here in
    let so_far = c.loop-earlier.invariant in
    (omega arith)

-- the provider's own seconds come first
pub loop-earlier-init : goal.loop-earlier-init
loop-earlier-init c = let own = c.seconds_before-seconds.ensures in (omega arith)
