use Rattle.apply_planning_script.proofs.Index.{HasNumbersFrom}
use Rattle.apply_planning_script.proofs.object_index.ObjectIndex.of.Given as goal

-- the values from the current number on have their numbers
abbrev pub invariant-loop-number : goal.invariant-loop-number
invariant-loop-number g l = HasNumbersFrom g.T.AboutObject.about l.values l.numbers l.number
