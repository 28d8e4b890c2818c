-- What the line of the outputs states.
use Rattle.std.proofs.Common.{◌≡◌, ℕ, suc, ◌+◌, ◌≤◌, List, [], ◌∷◌, ◌++◌, append_assoc, codes, cond, decimal, length, Bool, true, false, Option, Some, refl, sym, ap, ap₂, ◌∙◌, arith}
use Rattle.std.specs.Prelude.{option_and_then, unwrap_or}
use Rattle.std.specs.List.{AllByRecursion, filter_map}
use Rattle.json.specs.Json as json
use Rattle.json.specs.Json.{Json}
use Rattle.json.specs.Print.{escape, escape_byte, quoted}
use Rattle.json.specs.Tree as tree
use Rattle.json.proofs.Printed.Utf8.{IsUtf8-are_ascii}
use Rattle.serde_json.specs.Data.{Data, boolean, object, Members, member, no_members, put, string}
use Rattle.serde_json.specs.Read.{of_json, of_members}
use Rattle.serde_json.specs.Written.{comma_if}
use Rattle.apply_json.specs.Tree.{◌>>=◌}
use Rattle.apply_json.specs.Verbatim.{mixed_tree, verbatim}
use Rattle.apply_model.specs.declared.details.output.Output.{Output}
use Rattle.apply_text_terraform.specs.Escapes.{escaped}
use Rattle.apply_text_terraform.specs.Lines.{outputs_text}
use Rattle.apply_text_terraform.specs.Outputs.{output_text, outputs_from, outputs_message}
use Rattle.apply_text_terraform.specs.UtcTimestamp.{precise_timestamp_text}
use Rattle.stream_record_lines.specs.declared.event.Event.TheVariants as event
use Rattle.stream_record_lines.specs.declared.outputs.output.Output as recorded
use Rattle.stream_record_lines.specs.JsonMembers.{member_json}
use Rattle.stream_record_lines.specs.Messages.{message_of}
use Rattle.stream_record_lines.specs.Outputs.{StatedOutput, is_json, output_named, output_of, outputs_in, outputs_of, outputs_of_text, outputs_of_value, put_output}
use Rattle.laws_check.specs.Forms.{max_verbatim_depth}
use Rattle.laws_check.specs.FormTexts.{HasOutputTexts, IsValueText}
use Rattle.laws_lines.proofs.BareTexts.{decimal_escaped, decimal_utf8, moment_escaped}
use Rattle.laws_check.proofs.FormNotes.{own_verbatim}
use Rattle.laws_check.proofs.JsonTexts.{json_text, members_text, own_is}
use Rattle.laws_check.proofs.Legible.{HaveClear}
use Rattle.laws_check.proofs.SoundParts.{two}
use Rattle.laws_check.proofs.Sounds.{fine_utf8}
use Rattle.laws_lines.specs.Outputs.{outputs_put, outputs_told, stated_output}
use Rattle.laws_lines.proofs.FormDiagnostics.{copied}
use Rattle.laws_lines.proofs.HookMessages.{at}
use Rattle.laws_lines.proofs.RawTexts.{IsPlainValue, IsTextOf, escaped_text, member_is, own_text, parsed, tree_is}
use Rattle.laws_lines.proofs.Says.{Says}

-- ---- one output

-- the value of an output, if it is written
abbrev Told : (sensitive : Bool) → List ℕ → Type 0
Told sensitive value = sensitive ≡ false → IsValueText value

abbrev told_members : (sensitive : Bool) (kind value : List ℕ) → IsValueText kind → Told sensitive value → json.Members
told_members true kind value k v = json.member (codes "sensitive") (json.boolean true) (json.member (codes "type") k.1.json json.no_members)
told_members false kind value k v =
    json.member (codes "sensitive") (json.boolean false) (json.member (codes "type") k.1.json (json.member (codes "value") (v refl).1.json json.no_members))

one_text : (sensitive : Bool) (kind value : List ℕ) (k : IsValueText kind) (v : Told sensitive value)
    → cond sensitive (codes ":{\"sensitive\":true,\"type\":" ++ (kind ++ codes "}")) (codes ":{\"sensitive\":false,\"type\":" ++ (kind ++ (codes ",\"value\":" ++ (value ++ codes "}"))))
    ≡ 58 ∷ json_text (json.object (told_members sensitive kind value k v))
unfolding escape_byte
one_text true kind value k v = ap (λ s. codes ":{\"sensitive\":true,\"type\":" ++ (s ++ codes "}")) (sym (own_verbatim kind k.0 k.1))
one_text false kind value k v =
    ap₂ (λ (s t : List ℕ). codes ":{\"sensitive\":false,\"type\":" ++ (s ++ (codes ",\"value\":" ++ (t ++ codes "}")))) (sym (own_verbatim kind k.0 k.1)) (sym (own_verbatim value (v refl).0 (v refl).1))

one_clear : (sensitive : Bool) (kind value : List ℕ) (k : IsValueText kind) (v : Told sensitive value) → HaveClear (told_members sensitive kind value k v)
one_clear true kind value k v = (IsUtf8-are_ascii (codes "sensitive") refl, tt, (IsUtf8-are_ascii (codes "type") refl, (copied kind k.0 k.1).clear, tt))
one_clear false kind value k v = (
  IsUtf8-are_ascii (codes "sensitive") refl,
  tt,
  (IsUtf8-are_ascii (codes "type") refl, (copied kind k.0 k.1).clear, (IsUtf8-are_ascii (codes "value") refl, (copied value (v refl).0 (v refl).1).clear, tt)),
)

one_numbers : (sensitive : Bool) (kind value : List ℕ) (k : IsValueText kind) (v : Told sensitive value) → tree.MembersHaveNumbers (told_members sensitive kind value k v)
one_numbers true kind value k v = (tt, (k.1.numbers, tt))
one_numbers false kind value k v = (tt, (k.1.numbers, ((v refl).1.numbers, tt)))

one_depth : (sensitive : Bool) (kind value : List ℕ) (k : IsValueText kind) (v : Told sensitive value) → tree.members_depth (told_members sensitive kind value k v) ≤ max_verbatim_depth
one_depth true kind value k v = omega (arith, k.1.shallow)
one_depth false kind value k v = omega (arith, k.1.shallow, (v refl).1.shallow)

one_read : (sensitive : Bool) (kind value : List ℕ) (k : IsValueText kind) (v : Told sensitive value) → (d : Data) × (of_json (json.object (told_members sensitive kind value k v)) ≡ Some d)
one_read true kind value k v = (object (member (codes "sensitive") (boolean true) (member (codes "type") k.0 no_members)), rw k.1.value_is refl)
one_read false kind value k v =
    (object (member (codes "sensitive") (boolean false) (member (codes "type") k.0 (member (codes "value") (v refl).0 no_members))), rw (k.1.value_is, (v refl).1.value_is) refl)

-- its members as JSON texts
abbrev told_tree : (sensitive : Bool) (kind value : List ℕ) → Data
told_tree true kind value = object (member (codes "sensitive") (boolean true) (member (codes "type") (string kind) no_members))
told_tree false kind value = object (member (codes "sensitive") (boolean false) (member (codes "type") (string kind) (member (codes "value") (string value) no_members)))

one_told : (sensitive : Bool) (kind value : List ℕ) (k : IsValueText kind) (v : Told sensitive value) → mixed_tree is_json (json.object (told_members sensitive kind value k v)) ≡ Some (told_tree sensitive kind value)
one_told true kind value k v = rw k.1.value_is (ap (λ t. Some (told_tree true t value)) (sym k.1.text_is))
one_told false kind value k v =
    rw (k.1.value_is, (v refl).1.value_is) (ap₂ (λ (s t : List ℕ). Some (told_tree false s t)) (sym k.1.text_is) (sym (v refl).1.text_is))

named_is : (name : List ℕ) (sensitive : Bool) (kind value : List ℕ) → output_named name (told_tree sensitive kind value) ≡ stated_output (record { name = name; sensitive = sensitive; kind = kind; value = value })
named_is name true kind value = refl
named_is name false kind value = refl

-- ---- all outputs, as the members of an object

abbrev output_members : (all : List Output) → AllByRecursion HasOutputTexts all → json.Members
output_members [] has = json.no_members
output_members (output ∷ others) has =
    json.member output.name (json.object (told_members output.sensitive output.kind output.value has.0.kind has.0.value)) (output_members others has.1)

regroup : (c q t r e : List ℕ) → (c ++ (q ++ (t ++ r))) ++ e ≡ c ++ (q ++ (t ++ (r ++ e)))
regroup c q t r e = simp append_assoc

all_text : (later : Bool) (all : List Output) (has : AllByRecursion HasOutputTexts all) → outputs_from (comma_if later) all ++ codes "}" ≡ members_text later (output_members all has)
all_text later [] has = refl
all_text later (output ∷ others) has =
    regroup (comma_if later) (quoted output.name) (output_text output) (outputs_from (codes ",") others) (codes "}")
    ∙ ap₂ (λ (s t : List ℕ). comma_if later ++ (quoted output.name ++ (s ++ t))) (one_text output.sensitive output.kind output.value has.0.kind has.0.value) (all_text true others has.1)

all_clear : (all : List Output) (has : AllByRecursion HasOutputTexts all) → HaveClear (output_members all has)
all_clear [] has = tt
all_clear (output ∷ others) has = (has.0.name, one_clear output.sensitive output.kind output.value has.0.kind has.0.value, all_clear others has.1)

all_numbers : (all : List Output) (has : AllByRecursion HasOutputTexts all) → tree.MembersHaveNumbers (output_members all has)
all_numbers [] has = tt
all_numbers (output ∷ others) has = (one_numbers output.sensitive output.kind output.value has.0.kind has.0.value, all_numbers others has.1)

all_depth : (all : List Output) (has : AllByRecursion HasOutputTexts all) → tree.members_depth (output_members all has) ≤ suc max_verbatim_depth
all_depth [] has = omega arith
all_depth (output ∷ others) has = omega (arith, one_depth output.sensitive output.kind output.value has.0.kind has.0.value, all_depth others has.1)

all_read : (all : List Output) (has : AllByRecursion HasOutputTexts all) (located : Members) → (ms : Members) × (of_members (output_members all has) located ≡ Some ms)
all_read [] has located = (located, refl)
all_read (output ∷ others) has located =
    let one = one_read output.sensitive output.kind output.value has.0.kind has.0.value in
    let rest = all_read others has.1 (put output.name one.0 located) in
    (rest.0, rw one.1 rest.1)

all_told : (all : List Output) (has : AllByRecursion HasOutputTexts all) (found : List StatedOutput) → outputs_in (output_members all has) found ≡ Some (outputs_put all found)
all_told [] has found = refl
all_told (output ∷ others) has found =
    ap (option_and_then (λ d. outputs_in (output_members others has.1) (put_output (output_named output.name d) found))) (one_told output.sensitive output.kind output.value has.0.kind has.0.value)
    ∙ ap (λ (one : StatedOutput). outputs_in (output_members others has.1) (put_output one found)) (named_is output.name output.sensitive output.kind output.value)
    ∙ all_told others has.1 (put_output (stated_output output) found)

-- ---- the message

abbrev message_json : (words moment : List ℕ) → json.Members → Json
message_json words moment ms =
    json.object (json.member (codes "@level") (json.string (codes "info"))
    (json.member (codes "@message") (json.string (codes "Outputs: " ++ words))
    (json.member (codes "@module") (json.string (codes "terraform.ui"))
    (json.member (codes "@timestamp") (json.string moment)
    (json.member (codes "outputs") (json.object ms)
    (json.member (codes "type") (json.string (codes "outputs")) json.no_members))))))

-- the text of the line, by the texts of its timestamp and its outputs
abbrev as_printed : (words moment members : List ℕ) → List ℕ
as_printed words moment members =
    codes "{\"@level\":\"info\",\"@message\":\"Outputs: " ++ ((words ++ codes "\"") ++ (codes ",\"@module\":\"terraform.ui\",\"@timestamp\":\"" ++ ((moment ++ codes "\"") ++ (codes ",\"outputs\":{" ++ (members ++ codes ",\"type\":\"outputs\"}")))))

printed : (words moment : List ℕ) (ms : json.Members) → json_text (message_json words moment ms) ≡ as_printed (escape words) (escape moment) (members_text false ms)
unfolding escape_byte
printed words moment ms = refl

in_a_row : (f d q s m t o e l : List ℕ) → f ++ ((d ++ q) ++ (s ++ ((m ++ q) ++ (t ++ ((o ++ e) ++ l))))) ≡ f ++ (d ++ ((q ++ s) ++ (m ++ ((q ++ t) ++ (o ++ (e ++ l))))))
in_a_row f d q s m t o e l = simp append_assoc

-- a message with these outputs
message_says : (raw words moment : List ℕ) (ms : json.Members) (located : Members) → of_members ms no_members ≡ Some located
    → of_json (message_json words moment ms) >>= message_of raw ≡ Some (at moment (event.Outputs (outputs_of raw)))
message_says raw words moment ms located is = rw is refl

outputs_member : (raw words moment : List ℕ) (ms : json.Members) (located : Members) → of_members ms no_members ≡ Some located → IsTextOf raw (message_json words moment ms)
    → member_json (codes "outputs") raw ≡ Some (verbatim (json.object ms))
outputs_member raw words moment ms located is text = member_is (codes "outputs") raw _ text ∙ rw is refl

module _ (all : List Output) (has : AllByRecursion HasOutputTexts all) (seconds : ℕ) where
  abbrev moment : List ℕ
  moment = precise_timestamp_text seconds

  abbrev words : List ℕ
  words = decimal (length all)

  abbrev ms : json.Members
  ms = output_members all has

  abbrev whole : Json
  whole = message_json words moment ms

  text_is : verbatim whole ≡ outputs_message moment all
  text_is =
      own_is whole ∙ printed words moment ms
      ∙ ap₂ (λ (d m : List ℕ). as_printed d m (members_text false ms)) (decimal_escaped (length all)) (moment_escaped seconds)
      ∙ ap (as_printed words moment) (sym (all_text false all has))
      ∙ in_a_row (codes "{\"@level\":\"info\",\"@message\":\"Outputs: ") words (codes "\"") (codes ",\"@module\":\"terraform.ui\",\"@timestamp\":\"") moment (codes ",\"outputs\":{") (outputs_from [] all) (codes "}") (codes ",\"type\":\"outputs\"}")

  whole_value : IsPlainValue whole
  whole_value = record {
    clear = (
      IsUtf8-are_ascii (codes "@level") refl,
      IsUtf8-are_ascii (codes "info") refl,
      (
        IsUtf8-are_ascii (codes "@message") refl,
        two (codes "Outputs: ") words (IsUtf8-are_ascii (codes "Outputs: ") refl) (decimal_utf8 (length all)),
        (
          IsUtf8-are_ascii (codes "@module") refl,
          IsUtf8-are_ascii (codes "terraform.ui") refl,
          (
            IsUtf8-are_ascii (codes "@timestamp") refl,
            fine_utf8 seconds,
            (
              IsUtf8-are_ascii (codes "outputs") refl,
              all_clear all has,
              (IsUtf8-are_ascii (codes "type") refl, IsUtf8-are_ascii (codes "outputs") refl, tt),
            ),
          ),
        ),
      ),
    );
    numbers = (tt, (tt, (tt, (tt, (all_numbers all has, (tt, tt))))));
    shallow = omega (arith, all_depth all has);
  }

  inner_value : IsPlainValue (json.object ms)
  inner_value = record { clear = all_clear all has; numbers = all_numbers all has; shallow = omega (arith, all_depth all has) }

  inner_told : outputs_of_text (verbatim (json.object ms)) ≡ Some (outputs_put all [])
  inner_told = ap (option_and_then outputs_of_value) (parsed (verbatim (json.object ms)) (json.object ms) (own_text (json.object ms) inner_value)) ∙ all_told all has []

pub outputs_says : (start clock : ℕ) (all : List Output) → AllByRecursion HasOutputTexts all → Says (outputs_text start clock all) (precise_timestamp_text (start + clock)) (event.Outputs (outputs_told all))
outputs_says start clock all has =
    let seconds = start + clock in
    let j = whole all has seconds in
    let raw = escaped (verbatim j) in
    let text = escaped_text j (whole_value all has seconds) in
    let located = all_read all has no_members in
    let outputs_are : outputs_of raw ≡ outputs_told all =
    ap (λ (o : Option (List ℕ)). filter_map output_of (unwrap_or (o >>= outputs_of_text) [])) (outputs_member raw (words all has seconds) (moment all has seconds) (ms all has seconds) located.0 located.1 text)
    ∙ ap (λ (o : Option (List StatedOutput)). filter_map output_of (unwrap_or o [])) (inner_told all has seconds) in
    record {
      text = raw;
      line_is = ap (λ t. escaped t ++ 10 ∷ []) (sym (text_is all has seconds));
      no_feed = text.no_feed;
      says = ap (λ (o : Option Data). o >>= message_of raw) (tree_is raw j text)
          ∙ message_says raw (words all has seconds) (moment all has seconds) (ms all has seconds) located.0 located.1
          ∙ ap (λ (os : List recorded.Output). Some (at (precise_timestamp_text seconds) (event.Outputs os))) outputs_are;
    }
