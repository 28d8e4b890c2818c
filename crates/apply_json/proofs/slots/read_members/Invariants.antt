use Rattle.std.proofs.Common.{◌≡◌, ℕ, ◌≤◌, length}
use Rattle.json.specs.Json.{members, value}
use Rattle.serde_json.specs.Data.{Members, no_members}
use Rattle.serde_json.specs.Read.{converted}
use Rattle.apply_json.specs.Verbatim.{mixed_members}
use Rattle.apply_json.proofs.slots.read_members.Given as goal

abbrev pub invariant-members : goal.invariant-members
invariant-members g l =
    (n : ℕ) × (length l.reader ≤ n) × (all : Members) × g.S.Slots.holds l.initial.slots l.slots all
    × (converted (λ ms. mixed_members g.S.Slots.is_verbatim ms no_members) (members (value l.depth) (length l.initial.reader) l.initial.reader)
    ≡ converted (λ ms. mixed_members g.S.Slots.is_verbatim ms all) (members (value l.depth) n l.reader))
    × (length l.reader ≤ length l.initial.reader)

abbrev pub decreases-members : goal.decreases-members
decreases-members g l = length l.reader
