-- Bytes without a tree are not a plan.
use Rattle.std.proofs.Common.{◌≡◌, ◌≤◌, List, ℕ, length, Err, rules}
use Rattle.std.specs.Prelude.{◌≢◌}
use Rattle.apply_json.specs.declared.json_fault.JsonFault.{JsonFault}
use Rattle.apply_json.specs.declared.json_fault.JsonFault.TheVariants.{TooLarge, NotJson, Memory}
use Rattle.apply_json.specs.Verbatim.{IsNoMixedTree, none_verbatim}
use Rattle.apply_json.proofs.VerbatimValues.{is_no_tree}
use Rattle.apply_plan.specs.declared.plan.plan_error.PlanError.{PlanError}
use Rattle.apply_plan.specs.declared.plan.plan_error.PlanError.TheVariants as plan
use Rattle.apply_plan.specs.Bytes.{max_bytes}
use Rattle.apply_plan.specs.NoTree.{plan_refusal}
use Rattle.apply_plan.specs.Plan.SavedPlan.{plan_of}

pub no_plan : (fault : JsonFault) (refusal : PlanError) (bytes : List ℕ) → IsNoMixedTree none_verbatim max_bytes fault bytes → refusal ≡ plan_refusal fault → refusal ≢ plan.Memory → plan_of bytes ≡ Err refusal
unfolding plan_of
no_plan TooLarge refusal bytes why is known = rw is (search (rules, why))
no_plan NotJson refusal bytes why is known =
    let none = is_no_tree max_bytes NotJson bytes why in
    rw is (search (rules, none))
no_plan Memory refusal bytes why is known = absurd (known is)

-- the bytes are not too many if memory was refused
pub few : (fault : JsonFault) (refusal : PlanError) (bytes : List ℕ) → IsNoMixedTree none_verbatim max_bytes fault bytes → refusal ≡ plan_refusal fault → refusal ≡ plan.Memory → length bytes ≤ max_bytes
few TooLarge refusal bytes why is memory = absurd cc
few NotJson refusal bytes why is memory = why.0
few Memory refusal bytes why is memory = why
