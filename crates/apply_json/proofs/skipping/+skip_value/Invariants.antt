use Rattle.std.proofs.Common.{◌≡◌, ℕ, ◌+◌, ◌*◌, ◌≤◌, length}
use Rattle.json.specs.Json.{items, members, value, parse_map}
use Rattle.serde_json.specs.Data.{Items, Members, no_members}
use Rattle.serde_json.specs.Read.{of_items, of_members, converted}
use Rattle.apply_json.proofs.skipping.+skip_value.Given as goal

abbrev pub decreases-skip_value : goal.decreases-skip_value
decreases-skip_value l = 2 * l.depth

abbrev pub decreases-skip_items : goal.decreases-skip_items
decreases-skip_items l = 2 * l.depth + 1

abbrev pub decreases-skip_members : goal.decreases-skip_members
decreases-skip_members l = 2 * l.depth + 1

abbrev pub invariant-skip_items-items : goal.invariant-skip_items-items
invariant-skip_items-items l =
    (n : ℕ) × (length l.reader ≤ n) × (front : Items → Items)
    × (converted of_items (items (value l.depth) (length l.initial.reader) l.initial.reader) ≡ parse_map front (converted of_items (items (value l.depth) n l.reader)))
    × (length l.reader ≤ length l.initial.reader)

abbrev pub decreases-skip_items-items : goal.decreases-skip_items-items
decreases-skip_items-items l = length l.reader

abbrev pub invariant-skip_members-members : goal.invariant-skip_members-members
invariant-skip_members-members l =
    (n : ℕ) × (length l.reader ≤ n) × (found : Members)
    × (converted (λ ms. of_members ms no_members) (members (value l.depth) (length l.initial.reader) l.initial.reader) ≡ converted (λ ms. of_members ms found) (members (value l.depth) n l.reader))
    × (length l.reader ≤ length l.initial.reader)

abbrev pub decreases-skip_members-members : goal.decreases-skip_members-members
decreases-skip_members-members l = length l.reader
