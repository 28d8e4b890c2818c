-- What was read for Terraform's form, as it is applied and written.
use Rattle.std.proofs.Common.{◌≡◌, ℕ, ◌<◌, ◌^◌, List, [], codes, cond, length, nat_lt, slice_get, Bool, true, false, Option, Some, None, option_map, Ok, Err, refl, sym, ap, ◌∙◌, subst, arith}
use Rattle.std.specs.Prelude.{IfOk, is_some, option_and_then}
use Rattle.std.specs.List.{AllByRecursion}
use Rattle.std.specs.Str.{is_utf8}
use Rattle.std.proofs.lemmas.List.Sums.{count_by-le-length}
use Rattle.std.proofs.lemmas.Option.{same_Some}
use Rattle.json.specs.Json.{Json}
use Rattle.json.specs.Token.{Token}
use Rattle.serde_json.specs.Data.{Data, no_members}
use Rattle.serde_json.specs.Find.{get}
use Rattle.serde_json.specs.Read.{of_json}
use Rattle.apply_json.specs.Verbatim.{mixed_tree, mixed_tree_of}
use Rattle.apply_json.specs.Tree.{◌>>=◌}
use Rattle.apply_json.proofs.VerbatimValues.{no_item}
use Rattle.apply_model.specs.declared.details.change_details.ChangeDetails.{ChangeDetails}
use Rattle.apply_model.specs.Plan.SavedPlan.{SavedPlan}
use Rattle.apply_model.specs.Script.OutcomeMap.{OutcomeMap}
use Rattle.laws_run.specs.Plans.{HasRelativeAddress, NamesEachObjectOnce}
use Rattle.apply_plan.specs.declared.script.script_error.ScriptError.TheVariants.{NotJson, TooLarge}
use Rattle.apply_plan.specs.Bytes.{max_bytes}
use Rattle.apply_plan.specs.Results as results
use Rattle.apply_plan.specs.Script.Entry.{is_verbatim_name}
use Rattle.apply_plan.specs.Script.OutcomeMap.{script_of, script_of_tree}
use Rattle.apply_plan_terraform.specs.declared.texts.part.Part.TheVariants.{Script}
use Rattle.apply_plan_terraform.specs.Extras.{ExtrasOfScript, extras_of_json}
use Rattle.apply_plan_terraform.specs.Notes.{notes_in_script}
use Rattle.apply_plan_terraform.specs.Outputs.{OutputsOfPlan, outputs_in_script, unless_faulty}
use Rattle.apply_plan_terraform.specs.Texts.{json_of, json_of_text, with_texts}
use Rattle.apply_plan_terraform.specs.ReadDetails.{DetailsOfPlan, details_of}
use Rattle.apply_run.specs.Bytes.{Inputs, IsRead, given_script}
use Rattle.apply_text_terraform.specs.declared.form.Form.TheVariants.{Terraform}
use Rattle.apply_run.specs.FromBytes.{work_for}
use Rattle.apply_run.specs.Read.{IsStated, StatedInputs, applied_plan, applied_script, extras_of, given_extras, is_unfinished}
use Rattle.apply_writer.specs.Stream.Terraform.{imported_in}
use Rattle.laws_check.specs.AcceptedInForm.{MayBeApplied}
use Rattle.laws_check.specs.FormTexts.{HasFormTexts}
use Rattle.laws_check.specs.Plans.{ProvisionsCreates, WarnsOfReads}
use Rattle.laws_check.specs.ReadBackInForm.{HasDetailTexts, HasNoteTexts}
use Rattle.laws_check.proofs.Given.{held_at, is_answered, is_given, then_of}
use Rattle.laws_check.proofs.VerbatimValues.{IsWhole, of_bytes, whole_of}
use Rattle.laws_check.proofs.Legible.{IsLegible, data_legible}
use Rattle.laws_check.proofs.PlanTexts.{IsReadable, IsReadablePlan}
use Rattle.laws_check.proofs.ReadDetails.{details_have_texts}
use Rattle.laws_check.proofs.ReadNotes.{notes_have_texts, script_notes}
use Rattle.laws_check.proofs.ReadOutputs.{AreOutputs, known_outputs, outputs_read_back, script_outputs}
use Rattle.laws_check.proofs.ReadTexts.{read_verbatim, read_texts}
use Rattle.laws_check.proofs.Scripts.{none_has, none_warns_of}
use Rattle.laws_check.proofs.ScriptTexts.{IsReadableScript, nothing_readable}
use Rattle.laws_check.proofs.WhatWasRead.{limits_of, provisions, the_plan, the_script, warnings}

-- ---- the extras of a plan and a script

step : {A B : Type 0} (o : Option A) (f : A → Option B) (y : B) → (o >>= f) ≡ Some y → (x : A) × (o ≡ Some x) × (f x ≡ Some y)
step None f y e = absurd cc
step (Some x) f y e = (x, refl, e)

-- what is read of the plan
pub record HasDetails (details : DetailsOfPlan) : Type 0 where
  pub changes : AllByRecursion HasDetailTexts details.changes
  pub known : AreOutputs details.outputs.known

pub plan_details : (bytes : List ℕ) (details : DetailsOfPlan) → details_of bytes ≡ Some details → HasDetails details
plan_details bytes details e =
    let value = step (json_of bytes) _ details e in
    let whole = step (of_json value.0) _ details value.2 in
    let parsed = of_bytes bytes value.0 value.1 in
    subst HasDetails (same_Some _ details whole.2)
    (record {
      changes = details_have_texts whole.0 (is_given IsLegible (of_json value.0) whole.0 (data_legible value.0 parsed.clear) whole.1);
      known = known_outputs value.0 (whole_of value.0 parsed whole.0 whole.1);
    })

-- a value is a tree if it is one but for its verbatim texts
some_tree : (j : Json) (k : Data) → mixed_tree is_verbatim_name j ≡ Some k → (d : Data) × (of_json j ≡ Some d)
some_tree j k e = of_tree (of_json j) refl
  where
    of_tree : (o : Option Data) → of_json j ≡ o → (d : Data) × (of_json j ≡ Some d)
    of_tree (Some d) is = (d, is)
    of_tree None is =
        let after : Data → Data × List Token = λ d. (d, []) in
        let none : option_map after (mixed_tree is_verbatim_name j) ≡ None = no_item is_verbatim_name (Some (j, [])) (ap (option_map after) is) in
        absurd (let never : Some (after k) ≡ None = sym (ap (option_map after) e) ∙ none in cc)

-- the bytes of a script that was read are a tree
script_tree : (plan : SavedPlan) (bytes : List ℕ) (script : OutcomeMap) → script_of plan bytes ≡ Ok script → (j : Json) → json_of bytes ≡ Some j → (d : Data) × (of_json j ≡ Some d)
unfolding script_of
script_tree plan bytes script e j is = of_size (nat_lt max_bytes (length bytes)) e
  where
    of_text : (b : Bool) (k : Data) → cond b (option_and_then (mixed_tree is_verbatim_name) (json_of_text bytes)) None ≡ Some k → cond b (json_of_text bytes) None ≡ Some j → (d : Data) × (of_json j ≡ Some d)
    of_text true k tree value = some_tree j k (sym (ap (option_and_then (mixed_tree is_verbatim_name)) value) ∙ tree)
    of_text false k tree value = absurd cc

    of_tree : (o : Option Data) → mixed_tree_of is_verbatim_name bytes ≡ o → results.◌>>=◌ (results.or_refuse NotJson o) (script_of_tree plan) ≡ Ok script → (d : Data) × (of_json j ≡ Some d)
    of_tree None tree e = absurd cc
    of_tree (Some k) tree e = of_text (is_utf8 bytes) k tree is

    of_size : (b : Bool) → cond b (Err TooLarge) (results.◌>>=◌ (results.or_refuse NotJson (mixed_tree_of is_verbatim_name bytes)) (script_of_tree plan)) ≡ Ok script → (d : Data) × (of_json j ≡ Some d)
    of_size true e = absurd cc
    of_size false e = of_tree (mixed_tree_of is_verbatim_name bytes) refl e

-- what is read of the script
pub record HasExtras (extras : ExtrasOfScript) : Type 0 where
  pub outputs : AreOutputs extras.outputs
  pub notes : AllByRecursion HasNoteTexts extras.notes

pub script_extras : (plan : SavedPlan) (known : OutputsOfPlan) (bytes : Option (List ℕ)) (script : OutcomeMap) (extras : ExtrasOfScript) → given_script plan bytes ≡ Ok script → given_extras known bytes ≡ Ok extras → HasExtras extras
script_extras plan known None script extras read e = subst HasExtras (let same : (let none : ExtrasOfScript = record { outputs = no_members; notes = [] } in none) ≡ extras = cc in same) (record { outputs = tt; notes = tt })
script_extras plan known (Some bytes) script extras read e = of_value (json_of bytes) refl e
  where
    located : (j : Json) → IsWhole 127 j → IfOk (extras_of_json known (Some j)) HasExtras
    located j whole =
        let d = with_texts Script j in
        then_of AreOutputs HasExtras (unless_faulty known (outputs_in_script (get (codes "outputs") d))) _ (script_outputs known d (j, whole, refl))
        (λ outputs are. then_of (AllByRecursion HasNoteTexts) HasExtras (notes_in_script (get (codes "diagnostics") d)) _ (script_notes d (j, whole, refl)) (λ notes texts. record { outputs = are; notes = texts }))

    of_value : (o : Option Json) → json_of bytes ≡ o → extras_of_json known o ≡ Ok extras → HasExtras extras
    of_value None is e = absurd cc
    of_value (Some j) is e =
        let tree = script_tree plan bytes script read j is in
        is_answered HasExtras (extras_of_json known (Some j)) extras (located j (whole_of j (of_bytes bytes j is) tree.0 tree.1)) e

-- ---- a plan and a script that may be applied

record IsUsable (plan : SavedPlan) (script : OutcomeMap) : Type 0 where
  readable : IsReadablePlan plan
  relative : AllByRecursion HasRelativeAddress plan.changes
  once : NamesEachObjectOnce plan.changes
  readable_script : IsReadableScript script
  provisions : ProvisionsCreates plan script
  warnings : WarnsOfReads plan script

abbrev without_changes : SavedPlan → SavedPlan
without_changes plan = record { version = plan.version; changes = [] }

nothing_applied : (plan : SavedPlan) → IsReadablePlan plan → IsUsable (without_changes plan) []
nothing_applied plan readable = record {
  readable = record { version = readable.version; changes = tt; few = omega arith };
  relative = tt;
  once = tt;
  readable_script = nothing_readable;
  provisions = none_has (without_changes plan);
  warnings = none_warns_of (without_changes plan);
}

module _ (given : Inputs) (stated : StatedInputs) (is : IsStated given.plan given.script stated) (relative : AllByRecursion HasRelativeAddress stated.plan.changes) (once : NamesEachObjectOnce stated.plan.changes) (as_many : length stated.details.changes ≡ length stated.plan.changes) where
  read : IsRead given stated.plan stated.script
  read = record { plan_is = is.plan_is; script_is = is.script_is }

  -- as it is applied
  applied : IsUsable (applied_plan stated) (applied_script stated)
  applied = of_note (is_unfinished stated.details.note)
    where
      of_note : (b : Bool) → IsUsable (cond b (without_changes stated.plan) stated.plan) (cond b [] stated.script)
      of_note true = nothing_applied stated.plan (the_plan given stated.plan stated.script read)
      of_note false = record {
        readable = the_plan given stated.plan stated.script read;
        relative = relative;
        once = once;
        readable_script = the_script given stated.plan stated.script read;
        provisions = provisions given stated.plan stated.script read;
        warnings = warnings given stated.plan stated.script read;
      }

  pub may_be_applied : MayBeApplied given stated
  may_be_applied = record {
    limits = limits_of (work_for Terraform given stated) applied.readable applied.readable_script;
    whole = λ c change place.
        (is_given IsReadable (slice_get (applied_plan stated).changes c) change (held_at IsReadable (applied_plan stated).changes c applied.readable.changes) place).of_one;
    ordinary = λ deleted. record { few = applied.readable.few; once = applied.once; deleted = deleted };
    provisions = applied.provisions;
    warnings = applied.warnings;
  }

  pub texts : HasFormTexts (applied_plan stated) (applied_script stated) (extras_of stated)
  texts =
      let details = plan_details given.plan stated.details is.details_are in
      let extras = script_extras stated.plan stated.details.outputs given.script stated.script stated.extras is.script_is is.extras_are in
      record {
        texts = read_texts (applied_plan stated) (applied_script stated) applied.readable applied.relative applied.readable_script;
        raw_texts = read_verbatim (applied_script stated) applied.readable_script;
        details = details.changes;
        notes = notes_have_texts stated.details.note stated.extras.notes extras.notes;
        outputs = outputs_read_back stated.details.outputs stated.extras.outputs details.known extras.outputs;
        few_imports = few;
      }
    where
      few : imported_in stated.details.changes < 2 ^ 64
      few =
          let most = (the_plan given stated.plan stated.script read).few in
          let counted = count_by-le-length (λ (d : ChangeDetails). is_some d.importing) stated.details.changes in
          omega (arith, as_many)
