use Rattle.std.proofs.Common.{refl}
use Rattle.apply_planning_script.proofs.checking.misfits.Goals as goal

pub returns-in-Some : goal.returns-in-Some
returns-in-Some c = rw (c.in-Managed.is, c.in-Some.is) refl

pub returns-in-None : goal.returns-in-None
returns-in-None c = rw (c.in-Managed.is, c.in-None.is) refl
