-- A run accepts the script of a plan alone.
use Rattle.std.proofs.Common.{◌≡◌, ◌∙◌, ◌≤◌, ℕ, true, false, ltb, List, [], Option, None, Some, Ok, refl, sym, ap, arith, ⊎_elim}
use Rattle.std.specs.Prelude.{option_and_then, sum_by, length, unwrap_or}
use Rattle.std.specs.List.{AllByRecursion}
use Rattle.std.specs.Str.{is_utf8}
use Rattle.std.proofs.lemmas.Bool.{cases_Bool}
use Rattle.json.specs.Json.{Json}
use Rattle.serde_json.specs.Data.{Data, no_members}
use Rattle.serde_json.specs.Read.{of_json}
use Rattle.apply_json.specs.Tree.{◌>>=◌, tree_of}
use Rattle.apply_model.specs.Plan.ResourceChange.{ResourceChange}
use Rattle.apply_model.specs.Plan.SavedPlan.{SavedPlan}
use Rattle.apply_model.specs.Script.Limits.{max_waits}
use Rattle.apply_model.specs.Script.OutcomeMap.{OutcomeMap}
use Rattle.apply_plan.specs.declared.plan.plan_error.PlanError.TheVariants.{NotJson, TooLarge}
use Rattle.apply_plan.specs.Bytes.{max_bytes}
use Rattle.apply_plan.specs.Plan.SavedPlan.{plan_of, plan_of_tree}
use Rattle.apply_plan.specs.Results.{or_refuse}
use Rattle.apply_plan.specs.Script.OutcomeMap.{script_of}
use Rattle.apply_plan.proofs.Results.{bind_ok, guard_ok, or_refuse_ok}
use Rattle.apply_plan_terraform.specs.declared.texts.part.Part.TheVariants as part
use Rattle.apply_plan_terraform.specs.Changes.{changes_of}
use Rattle.apply_plan_terraform.specs.Extras.{with_notes}
use Rattle.apply_plan_terraform.specs.Outputs.{outputs_of_plan}
use Rattle.apply_plan_terraform.specs.Plan.{note_of}
use Rattle.apply_plan_terraform.specs.ReadDetails.{DetailsOfPlan, details_of}
use Rattle.apply_plan_terraform.specs.Texts.{json_of, with_texts}
use Rattle.stream_record_steps.specs.Steps.{planned_steps}
use Rattle.stream_record_cli.specs.Alone.{IsScriptOf}
use Rattle.stream_record_cli.specs.Graphs.{AreWaitsIn}
use Rattle.laws_record.specs.Extras.{outputs_by_name}
use Rattle.laws_record.specs.Writable.{IsWritable, IsWritableChange, NamesEachObjectOnce, written}
use Rattle.laws_recorded.specs.Accepted.{IsAccepted}
use Rattle.laws_recorded.specs.Graphs.{IsRankedGraph}
use Rattle.laws_recorded.specs.Scripts.{script_of_plan}
use Rattle.laws_recorded.proofs.AcceptedScripts.{ReadsExtras, ReadsSteps}
use Rattle.laws_recorded.proofs.EvenScripts.{even_script_is_writable}
use Rattle.laws_recorded.proofs.GraphRanks.{graph_ranked, without_graph}

-- ---- the waits

record AreSoundWaits (changes : List ResourceChange) (waits : List (List ℕ)) : Type 0 where
  few : sum_by length waits ≤ max_waits
  ranked : IsRankedGraph (planned_steps changes) waits

waits_are : (changes : List ResourceChange) (graph : Option (List ℕ)) (waits : Option (List (List ℕ))) → AreWaitsIn changes graph waits → AreSoundWaits changes (unwrap_or waits [])
waits_are changes None None are = record { few = omega arith; ranked = without_graph changes }
waits_are changes None (Some waits) are = absurd are
waits_are changes (Some bytes) None are = absurd are
waits_are changes (Some bytes) (Some waits) are = record { few = are.are.few; ranked = graph_ranked changes are.graph waits are.are are.ranked }

-- ---- the details of the plan

abbrev details_in : Json → Data → DetailsOfPlan
details_in j whole = record { changes = changes_of whole; note = note_of whole; outputs = outputs_of_plan (with_texts part.Plan j) }

details_by : (o : Option Json) (tree : Data) → option_and_then of_json o ≡ Some tree
    → (details : DetailsOfPlan) × ((o >>= λ j. (of_json j >>= λ whole. Some (details_in j whole))) ≡ Some details)
details_by None tree is = absurd cc
details_by (Some j) tree is = (details_in j tree, ap (λ (o : Option Data). o >>= λ whole. Some (details_in j whole)) is)

-- the tree of bytes is that of their value
tree_by_json : (bytes : List ℕ) → tree_of bytes ≡ option_and_then of_json (json_of bytes)
tree_by_json bytes = ⊎_elim (λ (yes : is_utf8 bytes ≡ true). rw yes refl) (λ (no : is_utf8 bytes ≡ false). rw no refl) (cases_Bool (is_utf8 bytes))

-- a plan that was read has details
has_details : (bytes : List ℕ) (plan : SavedPlan) → plan_of bytes ≡ Ok plan → (details : DetailsOfPlan) × (details_of bytes ≡ Some details)
unfolding plan_of
has_details bytes plan is =
    let sized = guard_ok (ltb max_bytes (length bytes)) TooLarge _ plan is in
    let parsed = bind_ok (or_refuse NotJson (tree_of bytes)) plan_of_tree plan sized.1 in
    details_by (json_of bytes) parsed.0 (sym (tree_by_json bytes) ∙ or_refuse_ok NotJson (tree_of bytes) parsed.0 parsed.1)

-- ---- the script

module _ (plan : List ℕ) (graph : Option (List ℕ)) (text : List ℕ) (of_plan : IsScriptOf plan graph text)
    (each : AllByRecursion IsWritableChange of_plan.saved.changes) (once : NamesEachObjectOnce of_plan.saved.changes) where
  abbrev script : OutcomeMap
  script = script_of_plan of_plan

  writable : IsWritable of_plan.saved.changes script
  writable =
      let sound = waits_are of_plan.saved.changes graph of_plan.waits of_plan.stated in
      even_script_is_writable of_plan.saved.changes (unwrap_or of_plan.waits []) each once sound.few sound.ranked

  pub is_read_back : ReadsSteps → script_of of_plan.saved text ≡ Ok (written of_plan.saved.changes (script_of_plan of_plan))
  is_read_back reads_steps = reads_steps of_plan.saved script [] [] text writable tt tt of_plan.is

  pub is_accepted : ReadsSteps → ReadsExtras → IsAccepted plan text
  is_accepted reads_steps reads_extras =
      let known = has_details plan of_plan.saved of_plan.read in record {
        saved = of_plan.saved;
        plan_read = of_plan.read;
        steps = written of_plan.saved.changes script;
        steps_read = is_read_back reads_steps;
        details = known.0;
        details_read = known.1;
        extras = with_notes (outputs_by_name [] no_members) [];
        extras_read = reads_extras of_plan.saved.changes known.0.outputs script [] [] text writable tt tt tt of_plan.is;
      }
