use Rattle.apply_events.specs.Lanes.Dealing.{lanes}
use Rattle.apply_run.specs.Schedule.{ByWorkers}
use Rattle.laws_check.proofs.laws.every_stream_in_lanes_is_accepted.Goals as goal

pub returns : goal.returns
returns c plans work n start events operation ordinary provisioned reads some line read =
    c.every_stream_is_accepted.ensures plans (ByWorkers n 1) work start events operation ordinary provisioned reads tt
    (record { lists = lanes work n; applied = record { dealt_out = c.lanes_deal_out_the_changes.ensures work n some; interleaved = line.interleaved } }) read
