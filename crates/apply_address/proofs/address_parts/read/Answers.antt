use Rattle.std.proofs.Common.{rules, sym}
use Rattle.apply_address.proofs.LocatedAddresses.{after_located, module_boundary}
use Rattle.apply_address.proofs.address_parts.read.Goals as goal

pub overflow_sub-before : goal.overflow_sub-before
overflow_sub-before c = (module_boundary _ _ _ c.utf8.text (after_located _ _ _ _ c.utf8.text (sym c.in-Some.ensures))).0

pub range-module_address-requires-clause-end_boundary : goal.range-module_address-requires-clause-end_boundary
range-module_address-requires-clause-end_boundary c =
    let boundary = (module_boundary _ _ _ c.utf8.text (after_located _ _ _ _ c.utf8.text (sym c.in-Some.ensures))).1 in
    search (rules, boundary)
