-- What a checker reads back from the line of outputs, whose types and values are verbatim texts.
use Rattle.std.proofs.Common.{◌≡◌, ℕ, suc, ◌+◌, ◌≤◌, List, [], ◌∷◌, ◌++◌, append_assoc, codes, cond, decimal, length, IsUtf8, Bool, true, false, Option, Some, Ok, refl, sym, ap, ap₂, ◌∙◌, subst, arith}
use Rattle.std.specs.List.{AllByRecursion}
use Rattle.std.proofs.lemmas.Str.{IsUtf8-append, IsUtf8-nil}
use Rattle.json.specs.Json as json
use Rattle.json.specs.Json.{Json}
use Rattle.json.specs.Print.{escape, escape_byte, quoted}
use Rattle.json.specs.Tree as tree
use Rattle.json.proofs.Printed.Utf8.{IsUtf8-are_ascii, IsUtf8-quoted}
use Rattle.serde_json.specs.Data.{Data, boolean, object, Members, member, no_members, put}
use Rattle.serde_json.specs.Read.{max_depth, of_json, of_members}
use Rattle.serde_json.specs.Written.{comma_if}
use Rattle.apply_json.specs.Verbatim.{verbatim}
use Rattle.apply_json.specs.Tree.{tree_of}
use Rattle.apply_model.specs.declared.details.output.Output.{Output}
use Rattle.stream_check.specs.declared.rules.fault.Fault.TheVariants.{NotJson}
use Rattle.stream_check.specs.Lines.{tree_message}
use Rattle.stream_check.specs.Message.{outputs, typed_message}
use Rattle.stream_check.specs.Results.{◌>>=◌, or_refuse}
use Rattle.apply_text.specs.Laws.{line_feeds}
use Rattle.apply_text_terraform.specs.Escapes.{escaped}
use Rattle.apply_text_terraform.specs.Lines.{outputs_text}
use Rattle.apply_text_terraform.specs.UtcTimestamp.{precise_timestamp_text}
use Rattle.apply_text_terraform.specs.Outputs.{output_text, outputs_from, outputs_message}
use Rattle.laws_check.specs.Forms.{max_verbatim_depth}
use Rattle.laws_check.specs.FormTexts.{HasOutputTexts, IsValueText}
use Rattle.laws_check.specs.ReadBackInForm.{IsReadBackAs}
use Rattle.laws_check.proofs.BareTexts.{decimal_escaped, decimal_utf8, moment_escaped}
use Rattle.laws_check.proofs.EscapedTrees.{escaped_tree}
use Rattle.laws_check.proofs.FormFeeds.{escaped_feeds, own_feeds}
use Rattle.laws_check.proofs.FormNotes.{own_verbatim}
use Rattle.laws_check.proofs.JsonTexts.{json_text, members_text, own_is}
use Rattle.laws_check.proofs.ReadBack.{comma_utf8}
use Rattle.laws_check.proofs.Sounds.{fine_utf8}

-- ---- one output

-- the value of an output, if it is written
abbrev Told : (sensitive : Bool) → List ℕ → Type 0
Told sensitive value = sensitive ≡ false → IsValueText value

abbrev told_members : (sensitive : Bool) (kind value : List ℕ) → IsValueText kind → Told sensitive value → json.Members
told_members true kind value k v = json.member (codes "sensitive") (json.boolean true) (json.member (codes "type") k.1.json json.no_members)
told_members false kind value k v =
    json.member (codes "sensitive") (json.boolean false) (json.member (codes "type") k.1.json (json.member (codes "value") (v refl).1.json json.no_members))

one_text : (sensitive : Bool) (kind value : List ℕ) (k : IsValueText kind) (v : Told sensitive value)
    → cond sensitive (codes ":{\"sensitive\":true,\"type\":" ++ (kind ++ codes "}")) (codes ":{\"sensitive\":false,\"type\":" ++ (kind ++ (codes ",\"value\":" ++ (value ++ codes "}"))))
    ≡ 58 ∷ json_text (json.object (told_members sensitive kind value k v))
unfolding escape_byte
one_text true kind value k v = ap (λ s. codes ":{\"sensitive\":true,\"type\":" ++ (s ++ codes "}")) (sym (own_verbatim kind k.0 k.1))
one_text false kind value k v =
    ap₂ (λ (s t : List ℕ). codes ":{\"sensitive\":false,\"type\":" ++ (s ++ (codes ",\"value\":" ++ (t ++ codes "}")))) (sym (own_verbatim kind k.0 k.1)) (sym (own_verbatim value (v refl).0 (v refl).1))

one_utf8 : (sensitive : Bool) (kind value : List ℕ) → IsValueText kind → Told sensitive value
    → IsUtf8 (cond sensitive (codes ":{\"sensitive\":true,\"type\":" ++ (kind ++ codes "}")) (codes ":{\"sensitive\":false,\"type\":" ++ (kind ++ (codes ",\"value\":" ++ (value ++ codes "}")))))
one_utf8 true kind value k v =
    IsUtf8-append (codes ":{\"sensitive\":true,\"type\":") (kind ++ codes "}") (IsUtf8-are_ascii (codes ":{\"sensitive\":true,\"type\":") refl)
    (IsUtf8-append kind (codes "}") k.1.utf8 (IsUtf8-are_ascii (codes "}") refl))
one_utf8 false kind value k v =
    IsUtf8-append (codes ":{\"sensitive\":false,\"type\":") (kind ++ (codes ",\"value\":" ++ (value ++ codes "}"))) (IsUtf8-are_ascii (codes ":{\"sensitive\":false,\"type\":") refl)
    (IsUtf8-append kind (codes ",\"value\":" ++ (value ++ codes "}")) k.1.utf8
    (IsUtf8-append (codes ",\"value\":") (value ++ codes "}") (IsUtf8-are_ascii (codes ",\"value\":") refl) (IsUtf8-append value (codes "}") (v refl).1.utf8 (IsUtf8-are_ascii (codes "}") refl))))

one_numbers : (sensitive : Bool) (kind value : List ℕ) (k : IsValueText kind) (v : Told sensitive value) → tree.MembersHaveNumbers (told_members sensitive kind value k v)
one_numbers true kind value k v = (tt, (k.1.numbers, tt))
one_numbers false kind value k v = (tt, (k.1.numbers, ((v refl).1.numbers, tt)))

one_depth : (sensitive : Bool) (kind value : List ℕ) (k : IsValueText kind) (v : Told sensitive value) → tree.members_depth (told_members sensitive kind value k v) ≤ max_verbatim_depth
one_depth true kind value k v = omega (arith, k.1.shallow)
one_depth false kind value k v = omega (arith, k.1.shallow, (v refl).1.shallow)

one_read : (sensitive : Bool) (kind value : List ℕ) (k : IsValueText kind) (v : Told sensitive value) → (d : Data) × (of_json (json.object (told_members sensitive kind value k v)) ≡ Some d)
one_read true kind value k v = (object (member (codes "sensitive") (boolean true) (member (codes "type") k.0 no_members)), rw k.1.value_is refl)
one_read false kind value k v =
    (object (member (codes "sensitive") (boolean false) (member (codes "type") k.0 (member (codes "value") (v refl).0 no_members))), rw (k.1.value_is, (v refl).1.value_is) refl)

-- ---- all outputs, as the members of an object

abbrev output_members : (all : List Output) → AllByRecursion HasOutputTexts all → json.Members
output_members [] has = json.no_members
output_members (output ∷ others) has =
    json.member output.name (json.object (told_members output.sensitive output.kind output.value has.0.kind has.0.value)) (output_members others has.1)

regroup : (c q t r e : List ℕ) → (c ++ (q ++ (t ++ r))) ++ e ≡ c ++ (q ++ (t ++ (r ++ e)))
regroup c q t r e = simp append_assoc

all_text : (later : Bool) (all : List Output) (has : AllByRecursion HasOutputTexts all) → outputs_from (comma_if later) all ++ codes "}" ≡ members_text later (output_members all has)
all_text later [] has = refl
all_text later (output ∷ others) has =
    regroup (comma_if later) (quoted output.name) (output_text output) (outputs_from (codes ",") others) (codes "}")
    ∙ ap₂ (λ (s t : List ℕ). comma_if later ++ (quoted output.name ++ (s ++ t))) (one_text output.sensitive output.kind output.value has.0.kind has.0.value) (all_text true others has.1)

all_utf8 : (later : Bool) (all : List Output) → AllByRecursion HasOutputTexts all → IsUtf8 (outputs_from (comma_if later) all)
all_utf8 later [] has = IsUtf8-nil
all_utf8 later (output ∷ others) has =
    IsUtf8-append (comma_if later) (quoted output.name ++ (output_text output ++ outputs_from (codes ",") others)) (comma_utf8 later)
    (IsUtf8-append (quoted output.name) (output_text output ++ outputs_from (codes ",") others) (IsUtf8-quoted output.name has.0.name)
    (IsUtf8-append (output_text output) (outputs_from (codes ",") others) (one_utf8 output.sensitive output.kind output.value has.0.kind has.0.value) (all_utf8 true others has.1)))

all_numbers : (all : List Output) (has : AllByRecursion HasOutputTexts all) → tree.MembersHaveNumbers (output_members all has)
all_numbers [] has = tt
all_numbers (output ∷ others) has = (one_numbers output.sensitive output.kind output.value has.0.kind has.0.value, all_numbers others has.1)

all_depth : (all : List Output) (has : AllByRecursion HasOutputTexts all) → tree.members_depth (output_members all has) ≤ suc max_verbatim_depth
all_depth [] has = omega arith
all_depth (output ∷ others) has = omega (arith, one_depth output.sensitive output.kind output.value has.0.kind has.0.value, all_depth others has.1)

all_read : (all : List Output) (has : AllByRecursion HasOutputTexts all) (located : Members) → (ms : Members) × (of_members (output_members all has) located ≡ Some ms)
all_read [] has located = (located, refl)
all_read (output ∷ others) has located =
    let one = one_read output.sensitive output.kind output.value has.0.kind has.0.value in
    let rest = all_read others has.1 (put output.name one.0 located) in
    (rest.0, rw one.1 rest.1)

-- ---- the message

abbrev message_json : (words moment : List ℕ) → json.Members → Json
message_json words moment ms =
    json.object (json.member (codes "@level") (json.string (codes "info"))
    (json.member (codes "@message") (json.string (codes "Outputs: " ++ words))
    (json.member (codes "@module") (json.string (codes "terraform.ui"))
    (json.member (codes "@timestamp") (json.string moment)
    (json.member (codes "outputs") (json.object ms)
    (json.member (codes "type") (json.string (codes "outputs")) json.no_members))))))

-- the text of the line, by the texts of its timestamp and its outputs
abbrev as_printed : (words moment members : List ℕ) → List ℕ
as_printed words moment members =
    codes "{\"@level\":\"info\",\"@message\":\"Outputs: " ++ ((words ++ codes "\"") ++ (codes ",\"@module\":\"terraform.ui\",\"@timestamp\":\"" ++ ((moment ++ codes "\"") ++ (codes ",\"outputs\":{" ++ (members ++ codes ",\"type\":\"outputs\"}")))))

printed : (words moment : List ℕ) (ms : json.Members) → json_text (message_json words moment ms) ≡ as_printed (escape words) (escape moment) (members_text false ms)
unfolding escape_byte
printed words moment ms = refl

in_a_row : (f d q s m t o e l : List ℕ) → f ++ ((d ++ q) ++ (s ++ ((m ++ q) ++ (t ++ ((o ++ e) ++ l))))) ≡ f ++ (d ++ ((q ++ s) ++ (m ++ ((q ++ t) ++ (o ++ (e ++ l))))))
in_a_row f d q s m t o e l = simp append_assoc

module _ (all : List Output) (has : AllByRecursion HasOutputTexts all) (seconds : ℕ) where
  abbrev moment : List ℕ
  moment = precise_timestamp_text seconds

  abbrev words : List ℕ
  words = decimal (length all)

  abbrev ms : json.Members
  ms = output_members all has

  abbrev whole : Json
  whole = message_json words moment ms

  text_is : verbatim whole ≡ outputs_message moment all
  text_is =
      own_is whole ∙ printed words moment ms
      ∙ ap₂ (λ (d m : List ℕ). as_printed d m (members_text false ms)) (decimal_escaped (length all)) (moment_escaped seconds)
      ∙ ap (as_printed words moment) (sym (all_text false all has))
      ∙ in_a_row (codes "{\"@level\":\"info\",\"@message\":\"Outputs: ") words (codes "\"") (codes ",\"@module\":\"terraform.ui\",\"@timestamp\":\"") moment (codes ",\"outputs\":{") (outputs_from [] all) (codes "}") (codes ",\"type\":\"outputs\"}")

  message_utf8 : IsUtf8 (outputs_message moment all)
  message_utf8 =
      let last = codes "},\"type\":\"outputs\"}" in
      let third = codes "\",\"outputs\":{" in
      let second = codes "\",\"@module\":\"terraform.ui\",\"@timestamp\":\"" in
      let first = codes "{\"@level\":\"info\",\"@message\":\"Outputs: " in
      IsUtf8-append first (words ++ (second ++ (moment ++ (third ++ (outputs_from [] all ++ last))))) (IsUtf8-are_ascii first refl)
      (IsUtf8-append words (second ++ (moment ++ (third ++ (outputs_from [] all ++ last)))) (decimal_utf8 (length all))
      (IsUtf8-append second (moment ++ (third ++ (outputs_from [] all ++ last))) (IsUtf8-are_ascii second refl)
      (IsUtf8-append moment (third ++ (outputs_from [] all ++ last)) (fine_utf8 seconds)
      (IsUtf8-append third (outputs_from [] all ++ last) (IsUtf8-are_ascii third refl)
      (IsUtf8-append (outputs_from [] all) last (all_utf8 false all has) (IsUtf8-are_ascii last refl))))))

  numbers : tree.HasNumbers whole
  numbers = (tt, (tt, (tt, (tt, (all_numbers all has, (tt, tt))))))

  shallow : tree.depth whole ≤ max_depth
  shallow = omega (arith, all_depth all has)

  is_read_back : (or_refuse NotJson (of_json whole) >>= tree_message false) ≡ Ok outputs
  unfolding tree_message typed_message
  is_read_back = let located = all_read all has no_members in rw located.1 refl

pub outputs_line_read_back : (all : List Output) (start latest : ℕ) → AllByRecursion HasOutputTexts all → IsReadBackAs (outputs_text start latest all) outputs
outputs_line_read_back all start latest has =
    let message = outputs_message (precise_timestamp_text (start + latest)) all in
    let j = whole all has (start + latest) in
    let same = text_is all has (start + latest) in
    record {
      text = escaped message;
      line_is = refl;
      no_feed = escaped_feeds message (ap line_feeds (sym same) ∙ own_feeds j (numbers all has (start + latest)));
      says = ap (λ (o : Option Data). or_refuse NotJson o >>= tree_message false)
          (ap (λ t. tree_of (escaped t)) (sym same)
          ∙ escaped_tree j (numbers all has (start + latest)) (subst IsUtf8 (sym same) (message_utf8 all has (start + latest))) (shallow all has (start + latest)))
          ∙ is_read_back all has (start + latest);
    }
