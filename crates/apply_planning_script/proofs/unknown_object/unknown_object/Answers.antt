use Rattle.std.proofs.Common.{sym}
use Rattle.apply_address.specs.Parts.{parts_view}
use Rattle.apply_address.proofs.Relative.{relative_stands}
use Rattle.apply_planning_script.proofs.unknown_object.unknown_object.Goals as goal

pub object_with-requires : goal.object_with-requires
object_with-requires c =
    let defined = rw c.in-Ok-Some.field-0-is at c.in-Ok-Some.ensures.defined in
    relative_stands c.args.address.now (parts_view c.in-Ok-Some.parts) c.utf8.address (sym defined)
