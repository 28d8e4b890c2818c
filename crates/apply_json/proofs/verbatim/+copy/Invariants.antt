use Rattle.std.proofs.Common.{◌≡◌, ℕ, ◌+◌, ◌*◌, ◌≤◌, ◌++◌, length}
use Rattle.json.specs.Json.{items, members, value, parse_map}
use Rattle.serde_json.specs.Data.{Items, Members, no_members}
use Rattle.serde_json.specs.Read.{of_items, of_members, converted}
use Rattle.apply_json.proofs.verbatim.+copy.Given as goal

abbrev pub decreases-copy : goal.decreases-copy
decreases-copy l = 2 * l.depth

abbrev pub decreases-copy_items : goal.decreases-copy_items
decreases-copy_items l = 2 * l.depth + 1

abbrev pub decreases-copy_members : goal.decreases-copy_members
decreases-copy_members l = 2 * l.depth + 1

-- the trees so far, and the copied tokens followed by the tokens that are left
abbrev pub invariant-copy_items-items : goal.invariant-copy_items-items
invariant-copy_items-items l =
    (n : ℕ) × (length l.reader ≤ n) × (front : Items → Items)
    × (converted of_items (items (value l.depth) (length l.initial.reader) l.initial.reader) ≡ parse_map front (converted of_items (items (value l.depth) n l.reader)))
    × (length l.reader ≤ length l.initial.reader)
    × (l.out.tokens ++ l.reader ≡ l.initial.out.tokens ++ l.initial.reader)
    × (l.out.before ≡ l.initial.out.before)

abbrev pub decreases-copy_items-items : goal.decreases-copy_items-items
decreases-copy_items-items l = length l.reader

abbrev pub invariant-copy_members-members : goal.invariant-copy_members-members
invariant-copy_members-members l =
    (n : ℕ) × (length l.reader ≤ n) × (found : Members)
    × (converted (λ ms. of_members ms no_members) (members (value l.depth) (length l.initial.reader) l.initial.reader) ≡ converted (λ ms. of_members ms found) (members (value l.depth) n l.reader))
    × (length l.reader ≤ length l.initial.reader)
    × (l.out.tokens ++ l.reader ≡ l.initial.out.tokens ++ l.initial.reader)
    × (l.out.before ≡ l.initial.out.before)

abbrev pub decreases-copy_members-members : goal.decreases-copy_members-members
decreases-copy_members-members l = length l.reader
