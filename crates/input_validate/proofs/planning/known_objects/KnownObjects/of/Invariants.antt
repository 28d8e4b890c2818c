use Rattle.std.proofs.Common.{map, take}
use Rattle.input_validate.specs.FirstNamed.{AreFirst, of_objects}
use Rattle.input_validate.proofs.planning.known_objects.KnownObjects.of.Given as goal

abbrev pub invariant-loop-number : goal.invariant-loop-number
invariant-loop-number l = AreFirst l.numbers (of_objects (map (λ prior. prior.object) (take l.number l.objects)))
