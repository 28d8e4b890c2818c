-- The outputs of messages: their JSON texts nest at most 124 deep.
use Rattle.std.proofs.Common.{◌≡◌, ℕ, List, [], ◌∷◌, IsUtf8, cond, Bool, true, false, Some, None, refl, sym, ap, subst, arith}
use Rattle.std.specs.Prelude.{IfSome, codes, option_and_then, option_map, unwrap_or}
use Rattle.std.specs.List.{AllByRecursion}
use Rattle.std.specs.Str.{bytes_eq}
use Rattle.json.specs.Json as j
use Rattle.json.specs.Json.{Json, if_last, value}
use Rattle.json.specs.Lex.{tokens}
use Rattle.serde_json.specs.Data.{Data}
use Rattle.serde_json.specs.Find.{as_str, get}
use Rattle.serde_json.specs.Read.{max_depth}
use Rattle.apply_json.specs.Tree.{◌>>=◌}
use Rattle.apply_json.specs.Verbatim.{mixed_tree}
use Rattle.stream_record_lines.specs.JsonMembers.{member_json}
use Rattle.stream_record_lines.specs.declared.outputs.output.Output.{Output}
use Rattle.stream_record_lines.specs.Outputs.{StatedOutput, is_json, output_named, output_of, outputs_in, outputs_of, outputs_of_text, outputs_of_value, put_output, unless_null_json, with_type}
use Rattle.laws_record.specs.Writable.{IsJsonText}
use Rattle.laws_check.proofs.Given.{gone_on, mapped, next_of, unwrapped}
use Rattle.laws_recorded.proofs.JsonTexts.{AreSoundMembers, HasRawTexts, HoldsJsonText, IsRawText, IsSoundJson, raw_tree, read_back, text_sound}
use Rattle.laws_recorded.proofs.Lists.{given_ones}
use Rattle.laws_recorded.proofs.Members.{member_sound}
use Rattle.laws_check.proofs.MemberLists.{found_in, weaker}

-- the name is UTF-8, and the type and the value are JSON texts
pub record IsSoundStatement (output : StatedOutput) : Type 0 where
  pub name : IsUtf8 output.name
  pub type_json : IfSome output.type_json (IsJsonText 124)
  pub value_json : IfSome output.value_json (IsJsonText 124)

pub record IsSoundOutput (output : Output) : Type 0 where
  pub name : IsUtf8 output.name
  pub type_json : IsJsonText 124 output.type_json
  pub value_json : IfSome output.value_json (IsJsonText 124)
  pub typed : bytes_eq output.type_json (codes "null") ≡ false

-- The text is that of a value, and not `null`.
record IsTypeText (text : List ℕ) : Type 0 where
  sound : IsJsonText 124 text
  typed : bytes_eq text (codes "null") ≡ false

-- ---- one output

raw_text : (name : List ℕ) (d : Data) → is_json name ≡ true → HasRawTexts is_json 124 d → IfSome (get name d >>= as_str) (IsJsonText 124)
raw_text name d is h =
    next_of (HoldsJsonText 124) (IsJsonText 124) (get name d) as_str
    (weaker (IsRawText is_json 124 name) (HoldsJsonText 124) (get name d) (λ e raw. raw is) (found_in (IsRawText is_json 124) name d h)) (λ e h. h)

named_sound : (name : List ℕ) (d : Data) → IsUtf8 name → HasRawTexts is_json 124 d → IsSoundStatement (output_named name d)
named_sound name d utf8 h = record { name = utf8; type_json = raw_text (codes "type") d refl h; value_json = raw_text (codes "value") d refl h }

-- ---- the outputs of a message

put_sound : (output : StatedOutput) (found : List StatedOutput) → IsSoundStatement output → AllByRecursion IsSoundStatement found → AllByRecursion IsSoundStatement (put_output output found)
put_sound output [] one h = (one, tt)
put_sound output (other ∷ others) one h = first_or_later (bytes_eq output.name other.name) (put_sound output others one h.1)
  where
    first_or_later : (b : Bool) → AllByRecursion IsSoundStatement (put_output output others) → AllByRecursion IsSoundStatement (cond b (output ∷ others) (other ∷ put_output output others))
    first_or_later true later = (one, h.1)
    first_or_later false later = (h.0, later)

in_sound : (ms : j.Members) (found : List StatedOutput) → AreSoundMembers 125 ms → AllByRecursion IsSoundStatement found → IfSome (outputs_in ms found) (AllByRecursion IsSoundStatement)
in_sound j.no_members found sound h = h
in_sound (j.member name v ms) found sound h =
    gone_on (HasRawTexts is_json 124) (AllByRecursion IsSoundStatement) (λ d. outputs_in ms (put_output (output_named name d) found)) (mixed_tree is_json v)
    (λ d raw. in_sound ms (put_output (output_named name d) found) (record { clear = sound.clear.2; numbers = sound.numbers.1; shallow = omega (arith, sound.shallow) })
    (put_sound (output_named name d) found (named_sound name d sound.clear.0 raw) h))
    (raw_tree is_json 124 v (record { clear = sound.clear.1; numbers = sound.numbers.0; shallow = omega (arith, sound.shallow) }))

value_sound : (v : Json) → IsSoundJson 126 v → IfSome (outputs_of_value v) (AllByRecursion IsSoundStatement)
value_sound j.null sound = tt
value_sound (j.boolean b) sound = tt
value_sound (j.number s) sound = tt
value_sound (j.string s) sound = tt
value_sound (j.array js) sound = tt
value_sound (j.object ms) sound = in_sound ms [] (record { clear = sound.clear; numbers = sound.numbers; shallow = omega (arith, sound.shallow) }) tt

-- what is read back nests as deep as it did
text_back : (text : List ℕ) → IsJsonText 126 text → IfSome (option_and_then (λ p. if_last p.0 p.1) (value max_depth (tokens text))) (IsSoundJson 126)
text_back text sound =
    let is : option_and_then (λ p. if_last p.0 p.1) (value max_depth (tokens text)) ≡ Some sound.json =
    ap (option_and_then (λ p. if_last p.0 p.1)) (read_back 126 text sound max_depth (omega arith)) in
    subst (λ o. IfSome o (IsSoundJson 126)) (sym is)
    (let whole : IsSoundJson max_depth sound.json = subst (λ o. IfSome o (IsSoundJson max_depth)) is (text_sound text sound.utf8) in
    record { clear = whole.clear; numbers = whole.numbers; shallow = sound.shallow })

text_outputs : (text : List ℕ) → IsJsonText 126 text → IfSome (outputs_of_text text) (AllByRecursion IsSoundStatement)
text_outputs text sound = gone_on (IsSoundJson 126) (AllByRecursion IsSoundStatement) outputs_of_value (option_and_then (λ p. if_last p.0 p.1) (value max_depth (tokens text))) value_sound (text_back text sound)

-- ---- the outputs that a script can repeat

unless_null : (text : List ℕ) → IsJsonText 124 text → IfSome (unless_null_json text) IsTypeText
unless_null text h = of_test (bytes_eq text (codes "null")) refl
  where
    of_test : (b : Bool) → bytes_eq text (codes "null") ≡ b → IfSome (cond b None (Some text)) IsTypeText
    of_test true is = tt
    of_test false is = record { sound = h; typed = is }

one_output : (stated : StatedOutput) → IsSoundStatement stated → IfSome (output_of stated) IsSoundOutput
one_output stated h = of_test stated.has_action
  where
    of_test : (b : Bool) → IfSome (cond b None (option_map (with_type stated) (stated.type_json >>= unless_null_json))) IsSoundOutput
    of_test true = tt
    of_test false =
        mapped IsTypeText IsSoundOutput (with_type stated) (stated.type_json >>= unless_null_json)
        (λ kind is. record { name = h.name; type_json = is.sound; value_json = h.value_json; typed = is.typed })
        (next_of (IsJsonText 124) IsTypeText stated.type_json unless_null_json h.type_json unless_null)

pub outputs_sound : (text : List ℕ) → AllByRecursion IsSoundOutput (outputs_of text)
outputs_sound text =
    given_ones IsSoundStatement IsSoundOutput output_of (unwrap_or (member_json (codes "outputs") text >>= outputs_of_text) []) one_output
    (unwrapped (AllByRecursion IsSoundStatement) (member_json (codes "outputs") text >>= outputs_of_text) []
    (next_of (IsJsonText 126) (AllByRecursion IsSoundStatement) (member_json (codes "outputs") text) outputs_of_text (member_sound (codes "outputs") text) text_outputs) tt)
