use Rattle.std.proofs.Common.{take}
use Rattle.input_validate.specs.FirstNamed.{AreFirst, at_addresses, of_objects}
use Rattle.input_validate.proofs.against_plan.planned.Planned.of.Given as goal

abbrev pub invariant-loop-number : goal.invariant-loop-number
invariant-loop-number l = record {
  objects : AreFirst l.objects (of_objects (take l.number l.plan.changes));
  addresses : AreFirst l.addresses (at_addresses (take l.number l.plan.changes));
}
