use Rattle.std.proofs.Common.{◌∙◌}
use Rattle.laws_check.proofs.Bytes.{stream_accepted}
use Rattle.laws_check.proofs.ReadBackObjects.{objects_are_read_back}
use Rattle.laws_check.specs.Accepted.{whole_stream}
use Rattle.laws_check.specs.Passing.{plain}
use Rattle.laws_check.proofs.laws.every_stream_of_whole_steps_is_accepted.Goals as goal

pub returns : goal.returns
returns c plans work start events operation ordinary provisioned reads steps read =
    stream_accepted plans c.a_line_has_one_line_feed.ensures work.plan work.script start operation events (whole_stream work.plan events) read
    (objects_are_read_back (plain plans) work.plan work.script start operation events ∙ c.whole_steps_are_accepted.ensures plans work events ordinary provisioned reads steps)
