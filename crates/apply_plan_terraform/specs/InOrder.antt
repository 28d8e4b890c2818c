-- Outputs whose names ascend, for private clauses.
use Rattle.std.specs.Prelude.{◌≡◌, ℕ, List, [], ◌∷◌, ◌++◌, Bool, false, if◌then◌else◌, Option, ⊤, String, string_bytes}
use Rattle.std.specs.declared.alloc.Global.{Global}
use Rattle.std.specs.declared.cmp.Ordering.TheVariants.{Less}
use Rattle.std.specs.BTreeMap.{BTreeMap, get_by}
use Rattle.std.specs.Borrow.{Bor}
use Rattle.std.specs.Cmp.Lexicographic.{slice_cmp}
use Rattle.std.specs.Option.{unwrap_or}
use Rattle.std.specs.Ordering.{nat_cmp}
use Rattle.serde_json.specs.Data.{Data}
use Rattle.apply_model.specs.declared.details.output.Output.{Output}
use Rattle.apply_plan_terraform.specs.declared.stored.stored_output.StoredOutput.{StoredOutput}
use Rattle.apply_plan_terraform.specs.StoredOutputs.{view}
use Rattle.apply_plan_terraform.specs.Outputs.{OutputsOfPlan, is_written, knows, output_of}

-- each name is below the next one in byte order
abbrev pub IsAscending : List (String Global × StoredOutput) → Type 0
IsAscending [] = ⊤
IsAscending (output ∷ []) = ⊤
IsAscending (output ∷ next ∷ outputs) = (slice_cmp nat_cmp (string_bytes output.0) (string_bytes next.0) ≡ Less) × IsAscending (next ∷ outputs)

-- the output, if a stream shows it
abbrev pub output_if_written : (changes : Option Data) → List ℕ → Data → List Output
output_if_written changes name output = if is_written changes name output then output_of name output ∷ [] else []

-- the outputs that a stream shows, in their order
abbrev pub outputs_written : (changes : Option Data) → List (String Global × StoredOutput) → List Output
outputs_written changes [] = []
outputs_written changes (output ∷ outputs) = output_if_written changes (string_bytes output.0) (view output.1) ++ outputs_written changes outputs

-- the map gives for each name whether the plan knows the type of that output
abbrev pub KnowsAs : OutputsOfPlan → BTreeMap (Bor (List ℕ)) Bool → Type 0
KnowsAs plan names = (name : List ℕ) → unwrap_or (get_by (λ k. slice_cmp nat_cmp name k.now) names) false ≡ knows plan name
