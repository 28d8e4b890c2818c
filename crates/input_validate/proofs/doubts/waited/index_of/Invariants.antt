use Rattle.std.proofs.Common.{map, option_map, take}
use Rattle.input_validate.specs.FirstNamed.{AreFirst}
use Rattle.input_validate.specs.ObjectNames.{name_view}
use Rattle.input_validate.proofs.doubts.waited.index_of.Given as goal

abbrev pub invariant-loop-number : goal.invariant-loop-number
invariant-loop-number l = AreFirst l.first (map (option_map name_view) (take l.number l.names))
