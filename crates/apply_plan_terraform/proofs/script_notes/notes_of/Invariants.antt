use Rattle.std.proofs.Common.{◌≡◌, drop, length, map}
use Rattle.serde_json.specs.View.{view}
use Rattle.apply_plan_terraform.specs.Notes.{notes_from}
use Rattle.apply_plan_terraform.proofs.Noted.{after}
use Rattle.apply_plan_terraform.proofs.script_notes.notes_of.Given as goal

abbrev pub invariant-loop-item : goal.invariant-loop-item
invariant-loop-item l =
    (length l.notes.items ≡ l.item-index)
    × (notes_from 0 (map view l.items) ≡ after l.notes.items (notes_from l.item-index (map view (drop l.item-index l.items))))
