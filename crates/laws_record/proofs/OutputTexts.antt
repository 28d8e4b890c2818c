-- The texts of outputs.
use Rattle.std.proofs.Common.{◌≡◌, ℕ, List, [], ◌∷◌, ◌++◌, IsUtf8, Bool, true, false, map, Option, Some, None, option_map, refl, sym, ap, ap₂, ◌∙◌, subst, append_assoc, arith}
use Rattle.std.specs.Prelude.{codes, IfSome, option_and_then}
use Rattle.std.specs.List.{AllByRecursion}
use Rattle.std.proofs.lemmas.Option.{same_Some}
use Rattle.std.proofs.lemmas.Str.{IsUtf8-append}
use Rattle.json.specs.Json as json
use Rattle.json.specs.Print.{escape_byte, quoted}
use Rattle.json.specs.Token.{Token}
use Rattle.json.proofs.Printed.Utf8.{IsUtf8-are_ascii, IsUtf8-boolean, IsUtf8-key}
use Rattle.serde_json.specs.Data.{Data, boolean, no_members, object, put}
use Rattle.serde_json.specs.Read.{of_members}
use Rattle.apply_json.specs.Verbatim.{mixed_member}
use Rattle.apply_json.proofs.VerbatimValues.{passed}
use Rattle.apply_plan.specs.Script.Entry.{is_verbatim_name}
use Rattle.stream_record.specs.declared.output.Output.{Output}
use Rattle.stream_record.specs.Parts.{flag_text, list_text, raw_member}
use Rattle.stream_record.specs.ScriptText.{output_text, outputs_text}
use Rattle.laws_record.specs.Writable.{IsJsonText, IsWritableOutput}
use Rattle.laws_record.proofs.Fronts.{outputs_front}
use Rattle.laws_record.proofs.ValueTexts.{value_text, verbatim_is}
use Rattle.laws_record.proofs.Values.{AreMembers, Field, IsMember, absent, last_member, object_value, object_with, present}

-- ---- a JSON text under any name

pair_of : {A B : Type 0} (o : Option A) (b : B) (a : A) → option_map {U = A × B} (λ x. (x, b)) o ≡ Some (a, b) → o ≡ Some a
pair_of None b a e = absurd cc
pair_of (Some x) b a e = ap (λ p. Some p.0) (same_Some (x, b) (a, b) e)

any_member : (name : List ℕ) (n : ℕ) (text : List ℕ) → IsJsonText n text → (d : Data) × IsMember name n text d
any_member name n text is =
    let none : List Token = [] in
    let one = passed is_verbatim_name (Some (is.json, none)) name is.tree none (ap (option_map {U = Data × List Token} (λ tree. (tree, none))) is.tree_is) in (
      one.0,
      record {
        json = is.json;
        text_is = is.text_is ∙ verbatim_is is.json;
        utf8 = is.utf8;
        numbers = is.numbers;
        shallow = is.shallow;
        tree_is = pair_of (mixed_member is_verbatim_name name is.json) none one.0 one.1;
      },
    )

-- ---- an output

flag_is : (b : Bool) → flag_text b ≡ value_text (json.boolean b)
flag_is true = refl
flag_is false = refl

pub flag_utf8 : (b : Bool) → IsUtf8 (flag_text b)
flag_utf8 true = IsUtf8-boolean true
flag_utf8 false = IsUtf8-boolean false

-- the text of an output without its name
abbrev pub inner_text : (sensitive : Bool) → (kind : List ℕ) → (value : Option (List ℕ)) → List ℕ
inner_text sensitive kind value =
    codes "{\"sensitive\":" ++ (flag_text sensitive ++ (codes ",\"type\":" ++ (kind ++ (raw_member (codes ",\"value\":") value ++ codes "}"))))

module _ (sensitive : Bool) (kind : List ℕ) (kind_is : IsJsonText 124 kind) where
  front_utf8 : (end : List ℕ) → IsUtf8 end → IsUtf8 (codes "{\"sensitive\":" ++ (flag_text sensitive ++ (codes ",\"type\":" ++ (kind ++ end))))
  front_utf8 end utf8 =
      IsUtf8-append (codes "{\"sensitive\":") (flag_text sensitive ++ (codes ",\"type\":" ++ (kind ++ end))) (IsUtf8-are_ascii (codes "{\"sensitive\":") refl)
      (IsUtf8-append (flag_text sensitive) (codes ",\"type\":" ++ (kind ++ end)) (flag_utf8 sensitive)
      (IsUtf8-append (codes ",\"type\":") (kind ++ end) (IsUtf8-are_ascii (codes ",\"type\":") refl) (IsUtf8-append kind end kind_is.utf8 utf8)))

  inner : (value : Option (List ℕ)) → IfSome value (IsJsonText 124) → IsJsonText 125 (inner_text sensitive kind value)
  unfolding escape_byte
  inner None is =
      let whole = json.object (json.member (codes "sensitive") (json.boolean sensitive) (json.member (codes "type") kind_is.json json.no_members)) in
      let first = put (codes "sensitive") (boolean sensitive) no_members in
      record {
        json = whole;
        text_is =
            ap₂ (λ f t. codes "{\"sensitive\":" ++ (f ++ (codes ",\"type\":" ++ (t ++ codes "}")))) (flag_is sensitive) (kind_is.text_is ∙ verbatim_is kind_is.json)
            ∙ sym (verbatim_is whole);
        utf8 = front_utf8 (codes "}") (IsUtf8-are_ascii (codes "}") refl);
        numbers = (tt, (kind_is.numbers, tt));
        shallow = omega (arith, kind_is.shallow);
        tree = object (put (codes "type") kind_is.tree first);
        tree_is = ap (λ o. option_map object (option_and_then (λ d. of_members json.no_members (put (codes "type") d first)) o)) kind_is.tree_is;
      }
  inner (Some value) is =
      let last = json.member (codes "value") is.json json.no_members in
      let whole = json.object (json.member (codes "sensitive") (json.boolean sensitive) (json.member (codes "type") kind_is.json last)) in
      let first = put (codes "sensitive") (boolean sensitive) no_members in
      let second = put (codes "type") kind_is.tree first in
      record {
        json = whole;
        text_is =
            ap₂ (λ f t. codes "{\"sensitive\":" ++ (f ++ (codes ",\"type\":" ++ (t ++ (codes ",\"value\":" ++ (value ++ codes "}")))))) (flag_is sensitive) (kind_is.text_is ∙ verbatim_is kind_is.json)
            ∙ ap (λ v. codes "{\"sensitive\":" ++ (value_text (json.boolean sensitive) ++ (codes ",\"type\":" ++ (value_text kind_is.json ++ (codes ",\"value\":" ++ (v ++ codes "}"))))))
            (is.text_is ∙ verbatim_is is.json)
            ∙ sym (verbatim_is whole);
        utf8 = front_utf8 (codes ",\"value\":" ++ (value ++ codes "}"))
            (IsUtf8-append (codes ",\"value\":") (value ++ codes "}") (IsUtf8-are_ascii (codes ",\"value\":") refl) (IsUtf8-append value (codes "}") is.utf8 (IsUtf8-are_ascii (codes "}") refl)));
        numbers = (tt, (kind_is.numbers, (is.numbers, tt)));
        shallow = omega (arith, kind_is.shallow, is.shallow);
        tree = object (put (codes "value") is.tree second);
        tree_is =
            ap (λ o. option_map object (option_and_then (λ d. of_members last (put (codes "type") d first)) o)) kind_is.tree_is
            ∙ ap (λ o. option_map object (option_and_then (λ d. of_members json.no_members (put (codes "value") d second)) o)) is.tree_is;
      }

-- ---- the outputs

abbrev pub text_of : Output → List ℕ
text_of output = inner_text output.is_sensitive output.type_json output.value_json

one_output : (output : Output) → IsWritableOutput output → (d : Data) × IsMember output.name 125 (text_of output) d
one_output output is = any_member output.name 125 (text_of output) (inner output.is_sensitive output.type_json is.type_json output.value_json is.value_json)

regroup : (q k c f d t v e l : List ℕ) → ((((((q ++ (k ++ c)) ++ f) ++ d) ++ t) ++ v) ++ e) ++ l ≡ (q ++ k) ++ ((c ++ (f ++ (d ++ (t ++ (v ++ e))))) ++ l)
regroup q k c f d t v e l = simp append_assoc

pub same_text : (b : ℕ) (output : Output) (rest : List ℕ) → b ∷ (output_text output ++ rest) ≡ (b ∷ (quoted output.name ++ 58 ∷ [])) ++ (text_of output ++ rest)
same_text b output rest =
    ap (λ s. b ∷ s)
    (regroup (quoted output.name) (58 ∷ []) (codes "{\"sensitive\":") (flag_text output.is_sensitive) (codes ",\"type\":") output.type_json (raw_member (codes ",\"value\":") output.value_json) (codes "}") rest)

name_utf8 : (b : ℕ) (name : List ℕ) → IsUtf8 (b ∷ []) → IsUtf8 name → IsUtf8 (b ∷ (quoted name ++ 58 ∷ []))
name_utf8 b name one utf8 = IsUtf8-append (b ∷ []) (quoted name ++ 58 ∷ []) one (IsUtf8-key name utf8)

abbrev has_members : ℕ → List ℕ → Type 0
has_members n text = (fields : List Field) × AreMembers n text fields

abbrev pub later_text : List Output → List ℕ
later_text outputs = list_text (codes ",\"outputs\":{") (codes "}") true (map output_text outputs)

later_outputs : (outputs : List Output) → AllByRecursion IsWritableOutput outputs → has_members 125 (later_text outputs)
later_outputs [] all = ([], last_member 125)
later_outputs (output ∷ outputs) all =
    let rest = later_outputs outputs all.1 in
    let one = one_output output all.0 in
    let fields : List Field = (output.name, Some one.0) ∷ rest.0 in (
      fields,
      subst (λ t. AreMembers 125 t fields) (sym (same_text 44 output (later_text outputs)))
          (present output.name (44 ∷ (quoted output.name ++ 58 ∷ [])) 125 (text_of output) (later_text outputs) one.0 rest.0 one.1 rest.1
          (name_utf8 44 output.name (IsUtf8-are_ascii (44 ∷ []) refl) all.0.name) refl),
    )

pub outputs_before : (outputs : List Output) (rest : List ℕ) (fields : List Field) → AllByRecursion IsWritableOutput outputs → AreMembers 126 rest fields
    → (tree : Option Data) × AreMembers 126 (outputs_text outputs ++ rest) ((codes "outputs", tree) ∷ fields)
outputs_before [] rest fields all are = (None, absent (codes "outputs") 126 rest fields are)
outputs_before (output ∷ outputs) rest fields all are =
    let after = later_outputs outputs all.1 in
    let one = one_output output all.0 in
    let own : List Field = (output.name, Some one.0) ∷ after.0 in
    let text = 123 ∷ (output_text output ++ later_text outputs) in
    let value = subst (λ t. IsMember (codes "outputs") 126 t (object_with own)) (sym (same_text 123 output (later_text outputs)))
    (object_value output.name (123 ∷ (quoted output.name ++ 58 ∷ [])) 125 (text_of output) (later_text outputs) one.0 after.0 one.1 after.1
    (name_utf8 123 output.name (IsUtf8-are_ascii (123 ∷ []) refl) all.0.name) refl) in (
      Some (object_with own),
      present (codes "outputs") (codes ",\"outputs\":") 126 text rest (object_with own) fields value are (IsUtf8-are_ascii (codes ",\"outputs\":") refl) outputs_front,
    )
