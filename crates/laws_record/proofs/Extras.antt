-- Outputs and diagnostics of a script are read back.
use Rattle.std.proofs.Common.{◌≡◌, sym, ℕ, List, [], ◌∷◌, ◌++◌, Bool, None, Ok, cond, option_map, refl, ap, ◌∙◌}
use Rattle.std.specs.Prelude.{codes}
use Rattle.std.specs.List.{AllByRecursion}
use Rattle.serde_json.specs.Data.{Data, no_members, string}
use Rattle.serde_json.specs.Find.{get}
use Rattle.apply_model.specs.declared.details.note.Note.{Note}
use Rattle.apply_model.specs.Plan.ResourceChange.{ResourceChange}
use Rattle.apply_model.specs.Script.OutcomeMap.{OutcomeMap}
use Rattle.apply_plan.specs.Results.{◌>>=◌}
use Rattle.apply_plan_terraform.specs.declared.texts.part.Part.TheVariants as parts
use Rattle.apply_plan_terraform.specs.Extras.{extras_from, extras_of_bytes, extras_of_json, with_notes}
use Rattle.apply_plan_terraform.specs.Outputs.{OutputsOfPlan}
use Rattle.apply_plan_terraform.specs.Texts.{json_of_text}
use Rattle.stream_record.specs.declared.output.Output.{Output}
use Rattle.laws_record.specs.Extras.{IsOfPlan, outputs_by_name}
use Rattle.stream_record.specs.ScriptText.{entries_text, notes_text, outputs_text, script_text, script_within}
use Rattle.laws_record.specs.Writable.{IsWritable, IsWritableNote, IsWritableOutput}
use Rattle.laws_record.proofs.Fronts.{first_changes}
use Rattle.laws_record.proofs.Lookups.{is_found}
use Rattle.laws_record.proofs.NoteExtras.{notes_array, notes_back, notes_part}
use Rattle.laws_record.proofs.OutputExtras.{outputs_back, outputs_object, outputs_part}
use Rattle.laws_record.proofs.ScriptTexts.{changes_value, core_is, core_text, core_value, line_utf8, line_value}
use Rattle.laws_record.proofs.TextMembers.{IsPart, last_part, skipping_part}
use Rattle.laws_record.proofs.Whole.{text_within}
use Rattle.laws_record.proofs.Values.{Field, object_with}

abbrev extra_fields : List Output → List Note → List Field
extra_fields outputs notes = (codes "outputs", outputs_object outputs) ∷ (codes "diagnostics", option_map string (notes_array notes)) ∷ []

module _ (changes : List ResourceChange) (script : OutcomeMap) (outputs : List Output) (notes : List Note) (is : IsWritable changes script)
    (exported : AllByRecursion IsWritableOutput outputs) (noted : AllByRecursion IsWritableNote notes) where
  core_part : IsPart parts.Script 127 (core_text changes script outputs notes) (object_with (extra_fields outputs notes))
  core_part =
      let f2 : List Field = (codes "diagnostics", option_map string (notes_array notes)) ∷ [] in
      let value = changes_value changes script is in
      let m2 = notes_part notes (codes "}") [] noted (last_part parts.Script 126) in
      let m1 = outputs_part outputs (notes_text notes ++ codes "}") f2 exported m2 in
      skipping_part parts.Script (codes "changes") (codes "{\"changes\":") 126 (91 ∷ (entries_text changes script ++ codes "]")) (outputs_text outputs ++ (notes_text notes ++ codes "}"))
      (extra_fields outputs notes) value.json refl refl value.text_is value.numbers value.shallow m1 first_changes

  text_extras : (plan : OutputsOfPlan) → AllByRecursion (IsOfPlan plan) outputs
      → extras_of_bytes plan (script_text changes script outputs notes) ≡ Ok (with_notes (outputs_by_name outputs no_members) notes)
  text_extras plan known =
      let text = core_text changes script outputs notes in
      let line = text ++ 10 ∷ [] in
      let utf8 = (core_value changes script outputs notes is exported noted).1.utf8 in
      let fields = extra_fields outputs notes in
      let outputs_are = outputs_back plan outputs known in
      let notes_are = notes_back notes noted in
      ap (extras_of_bytes plan) (core_is changes script outputs notes)
      ∙ ap (λ (b : Bool). extras_of_json plan (cond b (json_of_text line) None)) (line_utf8 text utf8)
      ∙ ap (extras_of_json plan) (line_value text core_part.json core_part.text_is core_part.numbers core_part.shallow)
      ∙ ap (λ (d : Data). extras_from plan (get (codes "outputs") d) (get (codes "diagnostics") d)) core_part.tree_is
      ∙ (λ i. extras_from plan (is_found (codes "outputs") fields i) (is_found (codes "diagnostics") fields i))
      ∙ (λ i. outputs_are i >>= (λ outputs. notes_are i >>= (λ notes. Ok (with_notes outputs notes))))

  pub extras_back : (plan : OutputsOfPlan) (text : List ℕ) → AllByRecursion (IsOfPlan plan) outputs → script_within changes script outputs notes ≡ Ok text
      → extras_of_bytes plan text ≡ Ok (with_notes (outputs_by_name outputs no_members) notes)
  extras_back plan text known e = ap (extras_of_bytes plan) (sym (text_within changes script outputs notes text e).0) ∙ text_extras plan known
