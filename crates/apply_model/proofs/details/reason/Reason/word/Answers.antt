use Rattle.std.proofs.Common.{refl}
use Rattle.apply_model.proofs.details.reason.Reason.word.Goals as goal

pub returns-in-Requested : goal.returns-in-Requested
returns-in-Requested c = rw c.in-Requested.is refl
