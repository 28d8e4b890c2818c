use Rattle.std.proofs.Common.{◌≡◌, ℕ, ◌≤◌, length}
use Rattle.json.specs.Json.{Members, members, value, parse_map}
use Rattle.serde_json.specs.Data.{no_members}
use Rattle.apply_plan_terraform.specs.declared.texts.part.Part.TheVariants as part
use Rattle.apply_plan_terraform.specs.StoredOutputs.{members_of_output}
use Rattle.apply_plan_terraform.specs.Texts.{members_with_texts}
use Rattle.apply_plan_terraform.proofs.texts.outputs.read_members.Given as goal

abbrev pub invariant-members : goal.invariant-members
invariant-members l =
    (n : ℕ) × (length l.reader ≤ n) × (front : Members → Members)
    × (members (value l.depth) (length l.initial.reader) l.initial.reader ≡ parse_map front (members (value l.depth) n l.reader))
    × ((ms : Members) → members_with_texts part.Output (front ms) no_members ≡ members_with_texts part.Output ms (members_of_output l.collected))
    × (length l.reader ≤ length l.initial.reader)

abbrev pub decreases-members : goal.decreases-members
decreases-members l = length l.reader
