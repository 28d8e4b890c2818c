use Rattle.apply_resolve.proofs.Numbers.{HasNumbersFrom}
use Rattle.apply_resolve.proofs.change_numbers.ChangeNumbers.of.Given as goal

-- the changes after the current number have their numbers
abbrev pub invariant-loop-number : goal.invariant-loop-number
invariant-loop-number l = HasNumbersFrom l.numbers l.plan.changes l.number
