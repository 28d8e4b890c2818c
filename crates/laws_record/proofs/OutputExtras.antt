-- Outputs are read back.
use Rattle.std.proofs.Common.{◌≡◌, ℕ, suc, List, [], ◌∷◌, ◌++◌, Bool, true, false, not, Option, Some, None, Ok, cond, map, option_map, Ordering, Less, Equal, Greater, refl, sym, ap, ◌∙◌, subst}
use Rattle.std.specs.Prelude.{codes, ◌&&◌, ⊤}
use Rattle.std.specs.List.{AllByRecursion}
use Rattle.std.specs.Ordering.{match_ordering, nat_cmp}
use Rattle.std.specs.Cmp.Lexicographic.{slice_cmp}
use Rattle.std.specs.Str.{bytes_eq}
use Rattle.json.specs.Print.{quoted}
use Rattle.serde_json.specs.Data.{Data, Members, boolean, member, no_members, object, put, string}
use Rattle.apply_plan.specs.declared.script.script_error.ScriptError.TheVariants.{BadOutput, UnknownOutput}
use Rattle.apply_plan.specs.Results as results
use Rattle.apply_plan_terraform.specs.declared.texts.part.Part.TheVariants as parts
use Rattle.apply_plan_terraform.specs.Outputs.{OutputsOfPlan, fault_of, has_output, is_output, outputs_in_script, unless_faulty}
use Rattle.apply_plan_terraform.specs.StoredOutputs.{three_members}
use Rattle.stream_record.specs.declared.output.Output.{Output}
use Rattle.laws_record.specs.Extras.{IsOfPlan, output_tree, outputs_by_name}
use Rattle.stream_record.specs.Parts.{flag_text, raw_member}
use Rattle.stream_record.specs.ScriptText.{output_text, outputs_text}
use Rattle.laws_record.specs.Writable.{IsWritableOutput}
use Rattle.laws_record.proofs.Fronts.{first_sensitive, outputs_front, type_front, value_front}
use Rattle.laws_record.proofs.OutputTexts.{later_text, same_text, text_of}
use Rattle.laws_record.proofs.TextMembers.{ArePart, IsPart, absent_part, as_text, last_part, object_part, present_part, raw_part, raw_text_part}
use Rattle.laws_record.proofs.Values.{Field, IsValue, false_value, object_with, put_all, true_value}

-- ---- the text of an output

flag_value : (n : ℕ) (b : Bool) → IsValue n (flag_text b) (boolean b)
flag_value n true = true_value n
flag_value n false = false_value n

abbrev output_fields : Output → List Field
output_fields output =
    (codes "sensitive", Some (string (flag_text output.is_sensitive))) ∷ (codes "type", Some (string output.type_json)) ∷ (codes "value", option_map string output.value_json) ∷ []

same_tree : (flag kind : List ℕ) (value : Option (List ℕ))
    → object_with ((codes "sensitive", Some (string flag)) ∷ (codes "type", Some (string kind)) ∷ (codes "value", option_map string value) ∷ []) ≡ object (three_members (Some flag) (Some kind) value)
same_tree flag kind None = refl
same_tree flag kind (Some value) = refl

output_part : (output : Output) → IsWritableOutput output → IsPart parts.Output 125 (text_of output) (output_tree output)
output_part output is =
    let flag = flag_text output.is_sensitive in
    let value = raw_member (codes ",\"value\":") output.value_json in
    let f2 : List Field = (codes "value", option_map string output.value_json) ∷ [] in
    let f1 : List Field = (codes "type", Some (string output.type_json)) ∷ f2 in
    let m2 = raw_text_part parts.Output (codes "value") (codes ",\"value\":") 124 refl value_front output.value_json (codes "}") [] is.value_json (last_part parts.Output 124) in
    let m1 = present_part parts.Output parts.Text (codes "type") (codes ",\"type\":") 124 output.type_json (value ++ codes "}") (string output.type_json) f2 refl (raw_part 124 output.type_json is.type_json) m2 type_front in
    subst (λ d. IsPart parts.Output 125 (text_of output) d) (same_tree flag output.type_json output.value_json)
    (object_part parts.Output parts.Text (codes "sensitive") (codes "{\"sensitive\":") 124 flag (codes ",\"type\":" ++ (output.type_json ++ (value ++ codes "}"))) (string flag) f1 refl
    (as_text 124 flag (boolean output.is_sensitive) (flag_value 124 output.is_sensitive)) m1 refl first_sensitive)

-- ---- all outputs

abbrev named_fields : List Output → List Field
named_fields outputs = map (λ (output : Output). (output.name, Some (output_tree output))) outputs

put_named : (outputs : List Output) (located : Members) → put_all (named_fields outputs) located ≡ outputs_by_name outputs located
put_named [] located = refl
put_named (output ∷ outputs) located = put_named outputs (put output.name (output_tree output) located)

later_part : (outputs : List Output) → AllByRecursion IsWritableOutput outputs → ArePart parts.Outputs 125 (later_text outputs) (named_fields outputs)
later_part [] all = last_part parts.Outputs 125
later_part (output ∷ outputs) all =
    subst (λ t. ArePart parts.Outputs 125 t (named_fields (output ∷ outputs))) (sym (same_text 44 output (later_text outputs)))
    (present_part parts.Outputs parts.Output output.name (44 ∷ (quoted output.name ++ 58 ∷ [])) 125 (text_of output) (later_text outputs) (output_tree output) (named_fields outputs) refl
    (output_part output all.0) (later_part outputs all.1) refl)

-- the outputs as a tree, if there are some
abbrev pub outputs_object : List Output → Option Data
outputs_object [] = None
outputs_object (output ∷ outputs) = Some (object_with (named_fields (output ∷ outputs)))

pub outputs_part : (outputs : List Output) (rest : List ℕ) (fields : List Field) → AllByRecursion IsWritableOutput outputs → ArePart parts.Script 126 rest fields
    → ArePart parts.Script 126 (outputs_text outputs ++ rest) ((codes "outputs", outputs_object outputs) ∷ fields)
outputs_part [] rest fields all are = absent_part parts.Script (codes "outputs") 126 rest fields are
outputs_part (output ∷ outputs) rest fields all are =
    let text = 123 ∷ (output_text output ++ later_text outputs) in
    let own = object_with (named_fields (output ∷ outputs)) in
    let value = subst (λ t. IsPart parts.Outputs 126 t own) (sym (same_text 123 output (later_text outputs)))
    (object_part parts.Outputs parts.Output output.name (123 ∷ (quoted output.name ++ 58 ∷ [])) 125 (text_of output) (later_text outputs) (output_tree output) (named_fields outputs) refl
    (output_part output all.0) (later_part outputs all.1) refl refl) in
    present_part parts.Script parts.Outputs (codes "outputs") (codes ",\"outputs\":") 126 text rest own fields refl value are outputs_front

-- ---- no output has a fault

module _ (plan : OutputsOfPlan) where
  abbrev AreOfPlan : Members → Type 0
  AreOfPlan no_members = ⊤
  AreOfPlan (member name d ms) = (is_output d ≡ true) × (has_output plan name ≡ true) × AreOfPlan ms

  either_one : (o : Ordering) (a b c : Members) → AreOfPlan a → AreOfPlan b → AreOfPlan c → AreOfPlan (match_ordering o a b c)
  either_one Less a b c first second third = first
  either_one Equal a b c first second third = second
  either_one Greater a b c first second third = third

  put_one : (name : List ℕ) (d : Data) (ms : Members) → is_output d ≡ true → has_output plan name ≡ true → AreOfPlan ms → AreOfPlan (put name d ms)
  put_one name d no_members is has all = (is, has, tt)
  put_one name d (member other e ms) is has all =
      either_one (slice_cmp nat_cmp name other) (member name d (member other e ms)) (member other d ms) (member other e (put name d ms)) (is, has, all) (is, all.1, all.2) (all.0, all.1, put_one name d ms is has all.2)

  is_stated : (output : Output) → IsOfPlan plan output → is_output (output_tree output) ≡ true
  is_stated output is = of_parts output.is_sensitive output.type_json output.value_json is.typed
    where
      of_parts : (b : Bool) (kind : List ℕ) (value : Option (List ℕ)) → bytes_eq kind (codes "null") ≡ false
          → is_output (object (three_members (Some (flag_text b)) (Some kind) value)) ≡ true
      of_parts true kind None typed = λ i. not (typed i) && true
      of_parts true kind (Some value) typed = λ i. not (typed i) && true
      of_parts false kind None typed = λ i. not (typed i) && true
      of_parts false kind (Some value) typed = λ i. not (typed i) && true

  all_of_plan : (outputs : List Output) (collected : Members) → AllByRecursion (IsOfPlan plan) outputs → AreOfPlan collected → AreOfPlan (outputs_by_name outputs collected)
  all_of_plan [] collected all have = have
  all_of_plan (output ∷ outputs) collected all have =
      all_of_plan outputs (put output.name (output_tree output) collected) all.1 (put_one output.name (output_tree output) collected (is_stated output all.0) all.0.known have)

  no_fault : (n : ℕ) (ms : Members) → AreOfPlan ms → fault_of plan n ms ≡ None
  no_fault n no_members all = refl
  no_fault n (member name d ms) all =
      (λ i. cond (not (all.0 i)) (Some (BadOutput n)) (cond (not (all.1 i)) (Some (UnknownOutput n)) (fault_of plan (suc n) ms))) ∙ no_fault (suc n) ms all.2

  stated : (outputs : List Output) → outputs_in_script (outputs_object outputs) ≡ Ok (outputs_by_name outputs no_members)
  stated [] = refl
  stated (output ∷ outputs) = ap Ok (put_named (output ∷ outputs) no_members)

  pub outputs_back : (outputs : List Output) → AllByRecursion (IsOfPlan plan) outputs → unless_faulty plan (outputs_in_script (outputs_object outputs)) ≡ Ok (outputs_by_name outputs no_members)
  outputs_back outputs all =
      let located = outputs_by_name outputs no_members in
      let none = no_fault 0 located (all_of_plan outputs no_members all tt) in
      ap (unless_faulty plan) (stated outputs) ∙ (λ i. results.unless_refused (none i) located)
