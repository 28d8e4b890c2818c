use Rattle.std.proofs.Common.{◌≡◌, ℕ, ◌+◌, ◌*◌, ◌≤◌, length}
use Rattle.json.specs.Json.{Members, members, value, parse_map}
use Rattle.serde_json.specs.Data.{no_members}
use Rattle.serde_json.specs.View.{members_view}
use Rattle.apply_plan_terraform.specs.Texts.{members_with_texts}
use Rattle.apply_plan_terraform.proofs.texts.reading.+read.Given as goal

abbrev pub decreases-read : goal.decreases-read
decreases-read l = 2 * l.depth

abbrev pub decreases-read_members : goal.decreases-read_members
decreases-read_members l = 2 * l.depth + 1

abbrev pub invariant-read_members-members : goal.invariant-read_members-members
invariant-read_members-members l =
    (n : ℕ) × (length l.reader ≤ n) × (front : Members → Members)
    × (members (value l.depth) (length l.initial.reader) l.initial.reader ≡ parse_map front (members (value l.depth) n l.reader))
    × ((ms : Members) → members_with_texts l.part (front ms) no_members ≡ members_with_texts l.part ms (members_view l.collected.entries))
    × (length l.reader ≤ length l.initial.reader)

abbrev pub decreases-read_members-members : goal.decreases-read_members-members
decreases-read_members-members l = length l.reader
