use Rattle.std.proofs.Common.{◌≡◌, ℕ, ◌≤◌, ◌++◌, length, map}
use Rattle.json.specs.Json.{Items, items, value, parse_map}
use Rattle.serde_json.specs.View.{view}
use Rattle.apply_plan_terraform.specs.Notes.{items_of}
use Rattle.apply_plan_terraform.proofs.texts.items.read_each.Given as goal

abbrev pub invariant-items : goal.invariant-items
invariant-items l =
    (n : ℕ) × (length l.reader ≤ n) × (front : Items → Items)
    × (items (value l.depth) (length l.initial.reader) l.initial.reader ≡ parse_map front (items (value l.depth) n l.reader))
    × ((js : Items) → items_of (front js) ≡ map view l.collected.items ++ items_of js)
    × (length l.reader ≤ length l.initial.reader)

abbrev pub decreases-items : goal.decreases-items
decreases-items l = length l.reader
