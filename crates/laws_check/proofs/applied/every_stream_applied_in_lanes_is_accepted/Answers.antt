use Rattle.apply_run.specs.Schedule.{InLanes}
use Rattle.laws_check.proofs.applied.every_stream_applied_in_lanes_is_accepted.Goals as goal

pub returns-clause-stream : goal.returns-clause-stream
returns-clause-stream c plans given lanes = c.every_applied_stream_is_accepted.ensures.stream plans (InLanes lanes) given

pub returns-clause-bytes : goal.returns-clause-bytes
returns-clause-bytes c plans given lanes = c.every_applied_stream_is_accepted.ensures.bytes plans (InLanes lanes) given
