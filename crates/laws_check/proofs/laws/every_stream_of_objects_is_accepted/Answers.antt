use Rattle.std.proofs.Common.{◌∙◌}
use Rattle.laws_check.proofs.ReadBackObjects.{objects_are_read_back}
use Rattle.laws_check.specs.Passing.{plain}
use Rattle.laws_check.proofs.laws.every_stream_of_objects_is_accepted.Goals as goal

pub returns : goal.returns
returns c plans schedule work start events operation ordinary provisioned reads can run =
    objects_are_read_back (plain plans) work.plan work.script start operation events ∙ c.every_run_is_accepted.ensures plans schedule work events ordinary provisioned reads can run
