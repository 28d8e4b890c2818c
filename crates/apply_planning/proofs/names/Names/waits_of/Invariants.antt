use Rattle.std.proofs.Common.{◌≡◌, take}
use Rattle.std.specs.List.{flat_map}
use Rattle.apply_planning.specs.Names.{waits_by}
use Rattle.apply_planning.specs.NumberOf.{number_of}
use Rattle.apply_planning.proofs.names.Names.waits_of.Given as goal

abbrev pub invariant-loop-needed : goal.invariant-loop-needed
invariant-loop-needed l = l.waits.items ≡ flat_map (waits_by (number_of l.self) l.one.name) (take l.needed-index l.one.depends_on.items)
