-- The texts of provisioners.
use Rattle.std.proofs.Common.{◌≡◌, ℕ, suc, ◌<◌, ◌^◌, List, [], ◌∷◌, ◌++◌, IsUtf8, Bool, true, false, cond, decimal, map, Some, option_map, refl, sym, ap, ◌∙◌, subst, append_assoc, arith}
use Rattle.std.specs.Prelude.{codes, nat_le}
use Rattle.std.proofs.lemmas.Bool.{leb-false}
use Rattle.json.proofs.Printed.Utf8.{IsUtf8-are_ascii}
use Rattle.serde_json.specs.Data.{number, string, unsigned}
use Rattle.apply_model.specs.declared.script.provisioner.Provisioner.{Provisioner}
use Rattle.apply_model.specs.declared.script.timed_text.TimedText.{TimedText}
use Rattle.stream_record.specs.Parts.{json_text}
use Rattle.stream_record.specs.ScriptText.{diag_member, may_fail_text, printed_text, provisioner_text, timed_text}
use Rattle.laws_record.specs.Writable.{IsWritableProvisioner}
use Rattle.laws_record.proofs.DiagTexts.{diag_before}
use Rattle.laws_record.proofs.Fronts.{continue_word, failed_front, first_after, first_provisioner, on_failure_front, output_front, seconds_front, text_front}
use Rattle.laws_record.proofs.Lists.{all_values, array_unless_empty, list_before}
use Rattle.laws_record.proofs.Trees.{diag_tree, may_fail_tree, provisioner_tree, timed_fields, timed_tree}
use Rattle.laws_record.proofs.Values.{AreMembers, Field, IsValue, absent, last_member, number_value, object_value, object_with, present, text_value}

-- ---- what a provisioner prints

grouped : (a b c d e : List ℕ) → (((a ++ b) ++ c) ++ d) ++ e ≡ a ++ (b ++ (c ++ (d ++ e)))
grouped a b c d e = simp append_assoc

timed_value : (n seconds : ℕ) (timed : TimedText) → seconds < 2 ^ 64 → IsUtf8 timed.text → IsValue (suc n) (timed_text seconds timed) (timed_tree seconds timed)
timed_value n seconds timed fits utf8 = of_test (nat_le seconds timed.after) refl
  where
    of_test : (b : Bool) → nat_le seconds timed.after ≡ b
        → IsValue (suc n) (cond b (json_text timed.text) (codes "{\"after\":" ++ decimal timed.after ++ codes ",\"text\":" ++ json_text timed.text ++ codes "}"))
        (cond b (string timed.text) (object_with (timed_fields timed)))
    of_test true late = text_value (suc n) timed.text utf8
    of_test false early =
        let sooner = leb-false seconds timed.after early in
        let rest = codes ",\"text\":" ++ (json_text timed.text ++ codes "}") in
        subst (λ t. IsValue (suc n) t (object_with (timed_fields timed))) (sym (grouped (codes "{\"after\":") (decimal timed.after) (codes ",\"text\":") (json_text timed.text) (codes "}")))
        (object_value (codes "after") (codes "{\"after\":") n (decimal timed.after) rest (number (unsigned timed.after)) ((codes "text", Some (string timed.text)) ∷ [])
        (number_value n timed.after (omega arith))
        (present (codes "text") (codes ",\"text\":") n (json_text timed.text) (codes "}") (string timed.text) [] (text_value n timed.text utf8) (last_member n)
        (IsUtf8-are_ascii (codes ",\"text\":") refl) text_front)
        (IsUtf8-are_ascii (codes "{\"after\":") refl) first_after)

-- ---- a provisioner

may_fail_before : (n : ℕ) (b : Bool) (rest : List ℕ) (fields : List Field) → AreMembers n rest fields → AreMembers n (may_fail_text b ++ rest) ((codes "on_failure", may_fail_tree b) ∷ fields)
may_fail_before n false rest fields are = absent (codes "on_failure") n rest fields are
may_fail_before n true rest fields are =
    let word = json_text (codes "continue") in
    let front = codes ",\"on_failure\":" in
    subst (λ t. AreMembers n t ((codes "on_failure", Some (string (codes "continue"))) ∷ fields))
    (sym (ap (λ t. t ++ rest) continue_word ∙ append_assoc front word rest))
    (present (codes "on_failure") front n word rest (string (codes "continue")) fields (text_value n (codes "continue") (IsUtf8-are_ascii (codes "continue") refl)) are
    (IsUtf8-are_ascii front refl) on_failure_front)

regroup : (a b c d e f g h : List ℕ) → ((((((a ++ b) ++ c) ++ d) ++ e) ++ f) ++ g) ++ h ≡ a ++ (b ++ (c ++ (d ++ (e ++ (f ++ (g ++ h))))))
regroup a b c d e f g h = simp append_assoc

pub provisioner_value : (provisioner : Provisioner) → provisioner.seconds < 2 ^ 64 → IsWritableProvisioner provisioner → IsValue 121 (provisioner_text provisioner) (provisioner_tree provisioner)
provisioner_value provisioner fits is =
    let name = json_text provisioner.name in
    let took = decimal provisioner.seconds in
    let printed = printed_text provisioner.seconds provisioner.output in
    let failed = diag_member (codes ",\"failed\":{") provisioner.failed in
    let may_fail = may_fail_text provisioner.may_fail in
    let f4 : List Field = (codes "on_failure", may_fail_tree provisioner.may_fail) ∷ [] in
    let f3 : List Field = (codes "failed", option_map diag_tree provisioner.failed) ∷ f4 in
    let f2 : List Field = (codes "output", array_unless_empty (map (timed_tree provisioner.seconds) provisioner.output)) ∷ f3 in
    let f1 : List Field = (codes "seconds", Some (number (unsigned provisioner.seconds))) ∷ f2 in
    let m4 = may_fail_before 120 provisioner.may_fail (codes "}") [] (last_member 120) in
    let m3 = diag_before (codes "failed") (codes ",\"failed\":") 119 (IsUtf8-are_ascii (codes ",\"failed\":") refl) failed_front refl provisioner.failed (may_fail ++ codes "}") f4 is.failed m4 in
    let m2 = list_before (codes "output") (codes ",\"output\":") 119 (IsUtf8-are_ascii (codes ",\"output\":") refl) output_front refl
    (map (timed_text provisioner.seconds) provisioner.output) (map (timed_tree provisioner.seconds) provisioner.output) (failed ++ (may_fail ++ codes "}")) f3
    (all_values 119 (timed_text provisioner.seconds) (timed_tree provisioner.seconds) (λ (timed : TimedText). IsUtf8 timed.text)
    (λ timed utf8. timed_value 118 provisioner.seconds timed fits utf8) provisioner.output is.output) m3 in
    let m1 = present (codes "seconds") (codes ",\"seconds\":") 120 took (printed ++ (failed ++ (may_fail ++ codes "}"))) (number (unsigned provisioner.seconds)) f2
    (number_value 120 provisioner.seconds fits) m2 (IsUtf8-are_ascii (codes ",\"seconds\":") refl) seconds_front in
    subst (λ t. IsValue 121 t (provisioner_tree provisioner))
    (sym (regroup (codes "{\"provisioner\":") name (codes ",\"seconds\":") took printed failed may_fail (codes "}")))
    (object_value (codes "provisioner") (codes "{\"provisioner\":") 120 name (codes ",\"seconds\":" ++ (took ++ (printed ++ (failed ++ (may_fail ++ codes "}"))))) (string provisioner.name) f1
    (text_value 120 provisioner.name is.name.utf8) m1 (IsUtf8-are_ascii (codes "{\"provisioner\":") refl) first_provisioner)
