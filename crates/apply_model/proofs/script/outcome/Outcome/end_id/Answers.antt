use Rattle.std.proofs.Common.{refl}
use Rattle.apply_model.proofs.script.outcome.Outcome.end_id.Goals as goal

-- a delete reports no id
pub returns-in-Delete : goal.returns-in-Delete
returns-in-Delete c = rw c.in-Delete.is refl
