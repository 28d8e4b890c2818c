-- The texts of steps and entries.
use Rattle.std.proofs.Common.{◌≡◌, ℕ, ◌≤◌, List, [], ◌∷◌, ◌++◌, true, decimal, map, Some, None, option_map, refl, sym, subst, append_assoc, arith}
use Rattle.std.specs.Prelude.{codes}
use Rattle.std.specs.List.{AllByRecursion}
use Rattle.std.proofs.lemmas.List.Sums.{sum_by-cons}
use Rattle.json.proofs.Printed.Utf8.{IsUtf8-are_ascii}
use Rattle.serde_json.specs.Data.{boolean, number, string, unsigned}
use Rattle.apply_model.specs.declared.script.ending.Ending.{Ending}
use Rattle.apply_model.specs.declared.script.ending.Ending.TheVariants.{Done, Failed, Warned}
use Rattle.apply_model.specs.declared.script.outcome.Outcome.{Outcome}
use Rattle.apply_model.specs.declared.script.provisioner.Provisioner.{Provisioner}
use Rattle.apply_model.specs.declared.script.script_step.ScriptStep.{ScriptStep}
use Rattle.apply_model.specs.declared.script.script_step.ScriptStep.TheVariants.{Answered, Skipped}
use Rattle.apply_model.specs.declared.script.wait.Wait.{Wait}
use Rattle.apply_model.specs.Plan.ResourceChange.{ResourceChange}
use Rattle.apply_model.specs.Script.Limits.{max_seconds}
use Rattle.apply_model.specs.Script.Outcome.{seconds_of_all}
use Rattle.stream_record.specs.Parts.{json_text, text_member}
use Rattle.stream_record.specs.ScriptText.{answered_text, diag_member, ending_text, entry_text, provisioner_text, provisioners_text, step_text, steps_text, waits_text}
use Rattle.laws_record.specs.Writable.{IsWritableChange, IsWritableEnding, IsWritableOutcome, IsWritableProvisioner, IsWritableStep}
use Rattle.laws_record.proofs.DiagTexts.{diag_before, diag_value, member_before, severe_value}
use Rattle.laws_record.proofs.Fronts.{deposed_front, failed_front, first_address, first_seconds, first_skipped, id_front, provisioners_front, steps_front, warning_front, warning_word}
use Rattle.laws_record.proofs.Lists.{AreValues, all_values, array_unless_empty, list_before, text_before}
use Rattle.laws_record.proofs.ProvisionerTexts.{provisioner_value}
use Rattle.laws_record.proofs.Trees.{answered_fields, diag_tree, entry_tree, failed_tree, id_tree, provisioner_tree, skipped_fields, step_tree, waits_tree, warned_tree, warning_tree}
use Rattle.laws_record.proofs.Values.{AreMembers, Field, IsValue, absent, last_member, number_value, object_value, object_with, text_value, true_value}
use Rattle.laws_record.proofs.WaitTexts.{AreWritable, filled_utf8, waits_before}

-- ---- how a step ends

ending_before : (result : Ending) (rest : List ℕ) (fields : List Field) → IsWritableEnding result → AreMembers 122 rest fields
    → AreMembers 122 (ending_text result ++ rest) ((codes "id", id_tree result) ∷ (codes "warning", warning_tree result) ∷ (codes "failed", failed_tree result) ∷ fields)
ending_before (Done id warning) rest fields is are =
    let f2 : List Field = (codes "failed", None) ∷ fields in
    let f1 : List Field = (codes "warning", option_map diag_tree warning) ∷ f2 in
    let warns = diag_member (codes ",\"warning\":{") warning in
    let m1 = diag_before (codes "warning") (codes ",\"warning\":") 121 (IsUtf8-are_ascii (codes ",\"warning\":") refl) warning_front refl warning rest f2 is.1 (absent (codes "failed") 122 rest fields are) in
    subst (λ t. AreMembers 122 t ((codes "id", option_map string id) ∷ f1)) (sym (append_assoc (text_member (codes ",\"id\":") id) warns rest))
    (text_before (codes "id") (codes ",\"id\":") 122 (IsUtf8-are_ascii (codes ",\"id\":") refl) id_front refl id (warns ++ rest) f1 (filled_utf8 id is.0) m1)
ending_before (Failed diag) rest fields is are =
    let value = diag_value 121 None diag tt is in
    let text = ending_text (Failed diag) ++ rest in
    let f1 : List Field = (codes "failed", Some (diag_tree diag)) ∷ fields in
    absent (codes "id") 122 text ((codes "warning", None) ∷ f1)
    (absent (codes "warning") 122 text f1
    (member_before (codes "failed") (codes ",\"failed\":") 121 (IsUtf8-are_ascii (codes ",\"failed\":") refl) failed_front refl (123 ∷ []) diag (diag_tree diag) rest fields value are))
ending_before (Warned diag) rest fields is are =
    let value = severe_value 121 (codes "{\"severity\":\"warning\",\"summary\":") (codes "warning") None diag (IsUtf8-are_ascii (codes "warning") refl) tt is warning_word in
    let text = ending_text (Warned diag) ++ rest in
    let f1 : List Field = (codes "failed", Some (warned_tree diag)) ∷ fields in
    absent (codes "id") 122 text ((codes "warning", None) ∷ f1)
    (absent (codes "warning") 122 text f1
    (member_before (codes "failed") (codes ",\"failed\":") 121 (IsUtf8-are_ascii (codes ",\"failed\":") refl) failed_front refl (codes "{\"severity\":\"warning\",") diag (warned_tree diag) rest fields value are))

-- ---- provisioners

short_each : (provisioners : List Provisioner) → seconds_of_all provisioners ≤ max_seconds → AllByRecursion IsWritableProvisioner provisioners
    → AreValues 121 (map provisioner_text provisioners) (map provisioner_tree provisioners)
short_each [] short all = tt
short_each (provisioner ∷ others) short all =
    let sum = sum_by-cons (λ (p : Provisioner). p.seconds) provisioner others in
    (provisioner_value provisioner (omega arith) all.0, short_each others (omega arith) all.1)

-- ---- steps

regroup : (a b c d e f : List ℕ) → ((((a ++ b) ++ c) ++ d) ++ e) ++ f ≡ a ++ (b ++ (c ++ (d ++ (e ++ f))))
regroup a b c d e f = simp append_assoc

grouped : (a b c : List ℕ) → (a ++ b) ++ c ≡ a ++ (b ++ c)
grouped a b c = append_assoc a b c

four : (a b c d e : List ℕ) → (((a ++ b) ++ c) ++ d) ++ e ≡ a ++ (b ++ (c ++ (d ++ e)))
four a b c d e = simp append_assoc

module _ (changes : List ResourceChange) (writable : AreWritable changes) where
  answered_value : (outcome : Outcome) → IsWritableOutcome outcome → IsValue 123 (answered_text changes outcome) (object_with (answered_fields changes outcome))
  answered_value outcome is =
      let short = is.bounded.short in
      let took = decimal outcome.seconds in
      let ended = ending_text outcome.result in
      let provisioned = provisioners_text outcome.provisioners in
      let waited = waits_text changes outcome.after in
      let f4 : List Field = (codes "after", waits_tree changes outcome.after) ∷ [] in
      let f3 : List Field = (codes "provisioners", array_unless_empty (map provisioner_tree outcome.provisioners)) ∷ f4 in
      let f2 : List Field = (codes "id", id_tree outcome.result) ∷ (codes "warning", warning_tree outcome.result) ∷ (codes "failed", failed_tree outcome.result) ∷ f3 in
      let m4 = waits_before changes writable 120 outcome.after (codes "}") [] (last_member 122) in
      let m3 = list_before (codes "provisioners") (codes ",\"provisioners\":") 121 (IsUtf8-are_ascii (codes ",\"provisioners\":") refl) provisioners_front refl
      (map provisioner_text outcome.provisioners) (map provisioner_tree outcome.provisioners) (waited ++ codes "}") f4
      (short_each outcome.provisioners (omega arith) is.provisioners) m4 in
      let m2 = ending_before outcome.result (provisioned ++ (waited ++ codes "}")) f3 is.ending m3 in
      subst (λ t. IsValue 123 t (object_with (answered_fields changes outcome)))
      (sym (regroup (codes "{\"seconds\":") took ended provisioned waited (codes "}")))
      (object_value (codes "seconds") (codes "{\"seconds\":") 122 took (ended ++ (provisioned ++ (waited ++ codes "}"))) (number (unsigned outcome.seconds)) f2
      (number_value 122 outcome.seconds (omega arith)) m2 (IsUtf8-are_ascii (codes "{\"seconds\":") refl) first_seconds)

  skipped_value : (waits : List Wait) → IsValue 123 (step_text changes (Skipped waits)) (object_with (skipped_fields changes waits))
  skipped_value waits =
      let waited = waits_text changes waits in
      let m1 = waits_before changes writable 120 waits (codes "}") [] (last_member 122) in
      subst (λ t. IsValue 123 t (object_with (skipped_fields changes waits)))
      (sym (grouped (codes "{\"skipped\":true") waited (codes "}")))
      (object_value (codes "skipped") (codes "{\"skipped\":") 122 (codes "true") (waited ++ codes "}") (boolean true) ((codes "after", waits_tree changes waits) ∷ [])
      (true_value 122) m1 (IsUtf8-are_ascii (codes "{\"skipped\":") refl) first_skipped)

  step_value : (step : ScriptStep) → IsWritableStep step → IsValue 123 (step_text changes step) (step_tree changes step)
  step_value (Answered outcome) is = answered_value outcome is
  step_value (Skipped waits) is = skipped_value waits

  -- ---- entries

  pub entry_value : (change : ResourceChange) (steps : List ScriptStep) → IsWritableChange change → AllByRecursion IsWritableStep steps
      → IsValue 125 (entry_text changes change steps) (entry_tree changes change steps)
  entry_value change steps is all =
      let key = text_member (codes ",\"deposed\":") change.deposed in
      let listed = steps_text changes steps in
      let f2 : List Field = (codes "steps", array_unless_empty (map (step_tree changes) steps)) ∷ [] in
      let f1 : List Field = (codes "deposed", option_map string change.deposed) ∷ f2 in
      let m2 = list_before (codes "steps") (codes ",\"steps\":") 123 (IsUtf8-are_ascii (codes ",\"steps\":") refl) steps_front refl
      (map (step_text changes) steps) (map (step_tree changes) steps) (codes "}") []
      (all_values 123 (step_text changes) (step_tree changes) IsWritableStep step_value steps all) (last_member 124) in
      let m1 = text_before (codes "deposed") (codes ",\"deposed\":") 124 (IsUtf8-are_ascii (codes ",\"deposed\":") refl) deposed_front refl change.deposed (listed ++ codes "}") f2
      (filled_utf8 change.deposed is.deposed) m2 in
      subst (λ t. IsValue 125 t (entry_tree changes change steps))
      (sym (four (codes "{\"address\":") (json_text change.address) key listed (codes "}")))
      (object_value (codes "address") (codes "{\"address\":") 124 (json_text change.address) (key ++ (listed ++ codes "}")) (string change.address) f1
      (text_value 124 change.address is.address) m1 (IsUtf8-are_ascii (codes "{\"address\":") refl) first_address)
