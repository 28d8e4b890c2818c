use Rattle.apply_planning.proofs.Filling.{AreFilled}
use Rattle.apply_planning.proofs.pending_names.PendingNames.new.Given as goal

abbrev pub invariant-loop-one : goal.invariant-loop-one
invariant-loop-one l = AreFilled l.told l.one-index l.pending
