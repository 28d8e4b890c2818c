-- The texts of diagnostics.
use Rattle.std.proofs.Common.{◌≡◌, ℕ, suc, false, List, [], ◌∷◌, ◌++◌, IsUtf8, Option, Some, None, option_map, refl, sym, ap, ◌∙◌, subst, append_assoc}
use Rattle.std.specs.Prelude.{codes, IfSome}
use Rattle.json.specs.Print.{quoted}
use Rattle.json.proofs.Printed.Utf8.{IsUtf8-are_ascii}
use Rattle.serde_json.specs.Data.{Data, string}
use Rattle.apply_json.specs.Tree.{unless_empty}
use Rattle.apply_model.specs.declared.script.diag.Diag.{Diag}
use Rattle.apply_plan.specs.Script.Entry.{is_verbatim_name}
use Rattle.stream_record.specs.Parts.{json_text, raw_member, text_member}
use Rattle.stream_record.specs.ScriptText.{detail_text, diag_member, diag_text}
use Rattle.laws_record.specs.Writable.{IsWritableDiag}
use Rattle.laws_record.proofs.Fronts.{address_front, detail_front, first_severity, first_summary, range_front, snippet_front, summary_front}
use Rattle.laws_record.proofs.Lists.{plain, raw_before, text_before}
use Rattle.laws_record.proofs.Trees.{after_summary, diag_fields, diag_tree, severe_fields}
use Rattle.laws_record.proofs.Values.{AreMembers, Field, IsValue, absent, last_member, object_value, object_with, present, text_value}

-- the text of the members after the summary
abbrev pub tail_text : (address : Option (List ℕ)) → Diag → List ℕ
tail_text address diag =
    detail_text diag.detail
    ++ (text_member (codes ",\"address\":") address
    ++ (raw_member (codes ",\"range\":") diag.range ++ (raw_member (codes ",\"snippet\":") diag.snippet ++ codes "}")))

pub detail_is : (detail : List ℕ) → text_member (codes ",\"detail\":") (unless_empty detail) ≡ detail_text detail
detail_is [] = refl
detail_is (byte ∷ bytes) = refl

unless : (detail : List ℕ) → IsUtf8 detail → IfSome (unless_empty detail) IsUtf8
unless [] is = tt
unless (byte ∷ bytes) is = is

tail_members : (n : ℕ) (address : Option (List ℕ)) (diag : Diag) → IfSome address IsUtf8 → IsWritableDiag n diag → AreMembers n (tail_text address diag) (after_summary address diag)
tail_members n address diag utf8 is =
    let snippet = raw_before (codes "snippet") (codes ",\"snippet\":") n (IsUtf8-are_ascii (codes ",\"snippet\":") refl) snippet_front refl diag.snippet (codes "}") [] is.snippet (last_member n) in
    let range = raw_before (codes "range") (codes ",\"range\":") n (IsUtf8-are_ascii (codes ",\"range\":") refl) range_front refl diag.range
    (raw_member (codes ",\"snippet\":") diag.snippet ++ codes "}") ((codes "snippet", option_map string diag.snippet) ∷ []) is.range snippet in
    let place = text_before (codes "address") (codes ",\"address\":") n (IsUtf8-are_ascii (codes ",\"address\":") refl) address_front refl address
    (raw_member (codes ",\"range\":") diag.range ++ (raw_member (codes ",\"snippet\":") diag.snippet ++ codes "}"))
    ((codes "range", option_map string diag.range) ∷ (codes "snippet", option_map string diag.snippet) ∷ []) utf8 range in
    let rest = text_member (codes ",\"address\":") address ++ (raw_member (codes ",\"range\":") diag.range ++ (raw_member (codes ",\"snippet\":") diag.snippet ++ codes "}")) in
    subst (λ t. AreMembers n (t ++ rest) (after_summary address diag)) (detail_is diag.detail)
    (text_before (codes "detail") (codes ",\"detail\":") n (IsUtf8-are_ascii (codes ",\"detail\":") refl) detail_front refl (unless_empty diag.detail) rest
    ((codes "address", option_map string address) ∷ (codes "range", option_map string diag.range) ∷ (codes "snippet", option_map string diag.snippet) ∷ [])
    (unless diag.detail is.detail) place)

-- ---- a diagnostic as a value

pub diag_value : (n : ℕ) (address : Option (List ℕ)) (diag : Diag) → IfSome address IsUtf8 → IsWritableDiag n diag
    → IsValue (suc n) (codes "{\"summary\":" ++ (json_text diag.summary ++ tail_text address diag)) (object_with (diag_fields address diag))
diag_value n address diag utf8 is =
    object_value (codes "summary") (codes "{\"summary\":") n (json_text diag.summary) (tail_text address diag) (string diag.summary) (after_summary address diag)
    (text_value n diag.summary is.summary) (tail_members n address diag utf8 is) (IsUtf8-are_ascii (codes "{\"summary\":") refl) first_summary

pub grouped : (o w s j t : List ℕ) → (o ++ (w ++ s)) ++ (j ++ t) ≡ o ++ (w ++ (s ++ (j ++ t)))
grouped o w s j t = simp append_assoc

-- with its severity, where `front` stands before the summary
pub severe_value : (n : ℕ) (front severity : List ℕ) (address : Option (List ℕ)) (diag : Diag) → IsUtf8 severity → IfSome address IsUtf8 → IsWritableDiag n diag
    → front ≡ codes "{\"severity\":" ++ (json_text severity ++ codes ",\"summary\":")
    → IsValue (suc n) (front ++ (json_text diag.summary ++ tail_text address diag)) (object_with (severe_fields severity address diag))
severe_value n front severity address diag word utf8 is front_is =
    let rest = tail_text address diag in
    let members = present (codes "summary") (codes ",\"summary\":") n (json_text diag.summary) rest (string diag.summary) (after_summary address diag)
    (text_value n diag.summary is.summary) (tail_members n address diag utf8 is) (IsUtf8-are_ascii (codes ",\"summary\":") refl) summary_front in
    subst (λ t. IsValue (suc n) t (object_with (severe_fields severity address diag)))
    (sym (ap (λ t. t ++ (json_text diag.summary ++ rest)) front_is ∙ grouped (codes "{\"severity\":") (json_text severity) (codes ",\"summary\":") (json_text diag.summary) rest))
    (object_value (codes "severity") (codes "{\"severity\":") n (json_text severity) (codes ",\"summary\":" ++ (json_text diag.summary ++ rest)) (string severity)
    (diag_fields address diag) (text_value n severity word) members (IsUtf8-are_ascii (codes "{\"severity\":") refl) first_severity)

-- ---- a diagnostic as a member

regroup : (f o s j d a r p e rest : List ℕ) → ((((((((f ++ o) ++ s) ++ j) ++ d) ++ a) ++ r) ++ p) ++ e) ++ rest ≡ f ++ (((o ++ s) ++ (j ++ (d ++ (a ++ (r ++ (p ++ e)))))) ++ rest)
regroup f o s j d a r p e rest = simp append_assoc

module _ (name front : List ℕ) (n : ℕ) (utf8 : IsUtf8 front) (front_is : front ≡ 44 ∷ (quoted name ++ 58 ∷ [])) (other : is_verbatim_name name ≡ false) where
  -- what opens the object: its bracket, and perhaps a member
  pub member_before : (open_text : List ℕ) (diag : Diag) (tree : Data) (rest : List ℕ) (fields : List Field)
      → IsValue (suc n) ((open_text ++ codes "\"summary\":") ++ (json_text diag.summary ++ tail_text None diag)) tree → AreMembers (suc n) rest fields
      → AreMembers (suc n) (diag_text (front ++ open_text) None diag ++ rest) ((name, Some tree) ∷ fields)
  member_before open_text diag tree rest fields is are =
      let value = (open_text ++ codes "\"summary\":") ++ (json_text diag.summary ++ tail_text None diag) in
      subst (λ t. AreMembers (suc n) t ((name, Some tree) ∷ fields))
      (sym (regroup front open_text (codes "\"summary\":") (json_text diag.summary) (detail_text diag.detail) [] (raw_member (codes ",\"range\":") diag.range)
      (raw_member (codes ",\"snippet\":") diag.snippet) (codes "}") rest))
      (present name front (suc n) value rest tree fields (plain name (suc n) value tree other is) are utf8 front_is)

  pub diag_before : (diag : Option Diag) (rest : List ℕ) (fields : List Field) → IfSome diag (IsWritableDiag n) → AreMembers (suc n) rest fields
      → AreMembers (suc n) (diag_member (front ++ 123 ∷ []) diag ++ rest) ((name, option_map diag_tree diag) ∷ fields)
  diag_before None rest fields is are = absent name (suc n) rest fields are
  diag_before (Some diag) rest fields is are = member_before (123 ∷ []) diag (diag_tree diag) rest fields (diag_value n None diag tt is) are
