use Rattle.std.proofs.Common.{◌≡◌, ◌-◌, ◌≤◌, length}
use Rattle.serde_json.specs.View.{members_view, view}
use Rattle.input_validate.specs.Doubts.{first_valueless}
use Rattle.input_validate.proofs.doubts.outputs.first_valueless.Given as goal

abbrev pub invariant-loop-name : goal.invariant-loop-name
invariant-loop-name l =
    (l.left ≡ length l.name-iterator) × (l.left ≤ l.count)
    × (first_valueless (view l.script) (l.count - l.left) (members_view l.name-iterator)
    ≡ first_valueless (view l.script) 0 (members_view l.changes.entries))
