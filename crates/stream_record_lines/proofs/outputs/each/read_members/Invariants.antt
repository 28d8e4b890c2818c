use Rattle.std.proofs.Common.{◌≡◌, ℕ, ◌≤◌, [], length}
use Rattle.json.specs.Json.{members, value}
use Rattle.serde_json.specs.Read.{converted}
use Rattle.stream_record_lines.specs.Outputs.{outputs_in}
use Rattle.stream_record_lines.specs.OutputSlots.{entries_view}
use Rattle.stream_record_lines.proofs.outputs.each.read_members.Given as goal

abbrev pub invariant-members : goal.invariant-members
invariant-members l =
    (n : ℕ) × (length l.reader ≤ n)
    × (converted (λ ms. outputs_in ms []) (members (value l.depth) (length l.initial.reader) l.initial.reader)
    ≡ converted (λ ms. outputs_in ms (entries_view l.found.entries)) (members (value l.depth) n l.reader))

abbrev pub decreases-members : goal.decreases-members
decreases-members l = length l.reader
