use Rattle.std.proofs.Common.{◌≡◌, ◌+◌, take}
use Rattle.apply_planning.specs.PlanningWork.{max_seconds_in_all, seconds_in_all}
use Rattle.apply_command.proofs.preparing.are_short.Given as goal

abbrev pub invariant-loop-one : goal.invariant-loop-one
invariant-loop-one l = l.left + seconds_in_all (take l.one-index l.told) ≡ max_seconds_in_all
