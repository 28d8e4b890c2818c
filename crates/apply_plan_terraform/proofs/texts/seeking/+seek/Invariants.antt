use Rattle.std.proofs.Common.{◌≡◌, ℕ, ◌+◌, ◌*◌, ◌≤◌, length}
use Rattle.json.specs.Json.{Members, members, value, parse_map}
use Rattle.serde_json.specs.Data as tree
use Rattle.apply_plan_terraform.specs.Sections.{AreSectionsOf}
use Rattle.apply_plan_terraform.specs.Texts.{members_with_texts}
use Rattle.apply_plan_terraform.proofs.texts.seeking.+seek.Given as goal

abbrev pub decreases-seek : goal.decreases-seek
decreases-seek l = 2 * l.depth

abbrev pub decreases-seek_in_members : goal.decreases-seek_in_members
decreases-seek_in_members l = 2 * l.depth + 1

abbrev pub invariant-seek_in_members-members : goal.invariant-seek_in_members-members
invariant-seek_in_members-members l =
    (n : ℕ) × (length l.reader ≤ n) × (front : Members → Members)
    × (members (value l.depth) (length l.initial.reader) l.initial.reader ≡ parse_map front (members (value l.depth) n l.reader))
    × (passed : tree.Members)
    × ((ms : Members) → members_with_texts l.part (front ms) tree.no_members ≡ members_with_texts l.part ms passed)
    × AreSectionsOf l.part (tree.object passed) l.collected
    × (length l.reader ≤ length l.initial.reader)

abbrev pub decreases-seek_in_members-members : goal.decreases-seek_in_members-members
decreases-seek_in_members-members l = length l.reader
