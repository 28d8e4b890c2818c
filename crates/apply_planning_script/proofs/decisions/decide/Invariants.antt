use Rattle.std.proofs.Common.{◌≡◌, take}
use Rattle.apply_planning_script.proofs.Decided.{decisions_on, planned}
use Rattle.apply_planning_script.proofs.decisions.decide.Given as goal

abbrev pub invariant-loop-prior : goal.invariant-loop-prior
invariant-loop-prior l = l.decisions.items ≡ decisions_on l.fn.rules (planned l.plan.changes l.details l.drifts) l.items (take l.prior-index l.objects)
