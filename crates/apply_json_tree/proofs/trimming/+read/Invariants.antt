use Rattle.std.proofs.Common.{◌≡◌, ℕ, ◌+◌, ◌*◌, ◌≤◌, length}
use Rattle.json.specs.Json.{items, members, value, parse_map}
use Rattle.serde_json.specs.Data.{Items, Members, no_members}
use Rattle.serde_json.specs.Read.{of_items, of_members, converted}
use Rattle.serde_json.specs.View.{members_view}
use Rattle.apply_json_tree.specs.Trimmed.{trimmed_items, trimmed_members}
use Rattle.apply_json_tree.proofs.Trimmed.Items.{items_before, left}
use Rattle.apply_json_tree.proofs.Trimmed.Members.{AreInOrder}
use Rattle.apply_json_tree.proofs.trimming.+read.Given as goal

abbrev pub decreases-read : goal.decreases-read
decreases-read g l = 2 * l.depth

abbrev pub decreases-read_items : goal.decreases-read_items
decreases-read_items g l = 2 * l.depth + 1

abbrev pub decreases-read_members : goal.decreases-read_members
decreases-read_members g l = 2 * l.depth + 1

abbrev pub invariant-read_items-items : goal.invariant-read_items-items
invariant-read_items-items g l =
    (n : ℕ) × (length l.reader ≤ n) × (front : Items → Items)
    × (converted of_items (items (value l.depth) (length l.initial.reader) l.initial.reader) ≡ parse_map front (converted of_items (items (value l.depth) n l.reader)))
    × ((ds : Items) → trimmed_items g.S.Shape.selection (g.S.Shape.selection.item_shape l.shape) (g.S.Shape.selection.item_limit l.shape) (front ds)
    ≡ items_before l.stored.items (trimmed_items g.S.Shape.selection (g.S.Shape.selection.item_shape l.shape) (left (g.S.Shape.selection.item_limit l.shape) (length l.stored.items)) ds))
    × (length l.reader ≤ length l.initial.reader)

abbrev pub decreases-read_items-items : goal.decreases-read_items-items
decreases-read_items-items g l = length l.reader

abbrev pub invariant-read_members-members : goal.invariant-read_members-members
invariant-read_members-members g l =
    (n : ℕ) × (length l.reader ≤ n) × (all : Members) × AreInOrder all × (members_view l.stored.entries ≡ trimmed_members g.S.Shape.selection l.shape all)
    × (converted (λ ms. of_members ms no_members) (members (value l.depth) (length l.initial.reader) l.initial.reader) ≡ converted (λ ms. of_members ms all) (members (value l.depth) n l.reader))
    × (length l.reader ≤ length l.initial.reader)

abbrev pub decreases-read_members-members : goal.decreases-read_members-members
decreases-read_members-members g l = length l.reader
