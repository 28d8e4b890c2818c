use Rattle.std.proofs.Common.{◌≡◌, ℕ, ◌+◌, ◌*◌, ◌≤◌, ◌++◌, length}
use Rattle.json.specs.Json.{Items, Members, items, members, value, parse_map}
use Rattle.json.specs.Tree.{items_tokens, members_tokens}
use Rattle.apply_plan_terraform.proofs.texts.copying.+copy.Given as goal

abbrev pub decreases-copy : goal.decreases-copy
decreases-copy l = 3 * l.depth + 1

abbrev pub decreases-copy_from : goal.decreases-copy_from
decreases-copy_from l = 3 * l.depth

abbrev pub decreases-copy_items : goal.decreases-copy_items
decreases-copy_items l = 3 * l.depth + 2

abbrev pub decreases-copy_members : goal.decreases-copy_members
decreases-copy_members l = 3 * l.depth + 2

abbrev pub invariant-copy_items-items : goal.invariant-copy_items-items
invariant-copy_items-items l =
    (n : ℕ) × (length l.reader ≤ n) × (front : Items → Items)
    × (items (value l.depth) (length l.initial.reader) l.initial.reader ≡ parse_map front (items (value l.depth) n l.reader))
    × ((js : Items) → l.initial.out.tokens ++ items_tokens (front js) ≡ l.out.tokens ++ items_tokens js)
    × (l.out.before ≡ l.initial.out.before)
    × (length l.reader ≤ length l.initial.reader)

abbrev pub decreases-copy_items-items : goal.decreases-copy_items-items
decreases-copy_items-items l = length l.reader

abbrev pub invariant-copy_members-members : goal.invariant-copy_members-members
invariant-copy_members-members l =
    (n : ℕ) × (length l.reader ≤ n) × (front : Members → Members)
    × (members (value l.depth) (length l.initial.reader) l.initial.reader ≡ parse_map front (members (value l.depth) n l.reader))
    × ((ms : Members) → l.initial.out.tokens ++ members_tokens (front ms) ≡ l.out.tokens ++ members_tokens ms)
    × (l.out.before ≡ l.initial.out.before)
    × (length l.reader ≤ length l.initial.reader)

abbrev pub decreases-copy_members-members : goal.decreases-copy_members-members
decreases-copy_members-members l = length l.reader
