use Rattle.std.proofs.Common.{◌≡◌, ℕ, List, nat_cmp, option_map, take}
use Rattle.std.specs.BTreeMap.{get_by}
use Rattle.std.specs.Cmp.Lexicographic.{slice_cmp}
use Rattle.serde_json.specs.Data.{no_members}
use Rattle.serde_json.specs.Find.{get_member}
use Rattle.apply_plan_terraform.specs.StoredOutputs.{put_all}
use Rattle.apply_plan_terraform.specs.Outputs.{is_typed}
use Rattle.apply_plan_terraform.proofs.plan_outputs.names_of.Given as goal

abbrev pub invariant-loop-entry : goal.invariant-loop-entry
invariant-loop-entry l =
    (name : List ℕ) → get_by (λ k. slice_cmp nat_cmp name k.now) l.names ≡ option_map is_typed (get_member name (put_all (take l.entry-index l.outputs) no_members))
