-- The ranges and the snippets of messages: JSON objects that nest at most 119 deep.
use Rattle.std.proofs.Common.{◌≡◌, ℕ, List, [], ◌∷◌, cond, Bool, true, false, Some, None, refl}
use Rattle.std.specs.Prelude.{◌&&◌, IfSome, codes, option_and_then}
use Rattle.std.specs.Str.{is_utf8}
use Rattle.std.proofs.lemmas.Str.{IsUtf8-from_is_utf8}
use Rattle.json.specs.Json.{if_last, value}
use Rattle.json.specs.Lex.{tokens}
use Rattle.serde_json.specs.Find.{as_str, get}
use Rattle.serde_json.specs.Read.{max_depth}
use Rattle.apply_json.specs.Tree.{◌>>=◌}
use Rattle.apply_json.specs.Verbatim.{mixed_tree, mixed_tree_of, mixed_tree_of_text}
use Rattle.apply_plan.specs.Script.Entry.{is_object_text}
use Rattle.stream_record_lines.specs.JsonMembers.{each_member, if_object, is_object, is_shallow, member_json}
use Rattle.stream_record_lines.specs.Messages.{object_json}
use Rattle.laws_record.specs.Writable.{IsJsonText, IsObjectText}
use Rattle.laws_check.proofs.Given.{gone_on, next_of}
use Rattle.laws_recorded.proofs.JsonTexts.{HasRawTexts, HoldsJsonText, IsRawText, IsSoundJson, raw_tree, shallow_text, text_sound}
use Rattle.laws_check.proofs.MemberLists.{found_in, weaker}

-- a member of a message nests at most 126 deep
whole_tree : (bytes : List ℕ) → IfSome (mixed_tree_of each_member bytes) (HasRawTexts each_member 126)
whole_tree bytes = of_test (is_utf8 bytes) refl
  where
    of_test : (b : Bool) → is_utf8 bytes ≡ b → IfSome (cond b (mixed_tree_of_text each_member bytes) None) (HasRawTexts each_member 126)
    of_test false is = tt
    of_test true is =
        gone_on (IsSoundJson max_depth) (HasRawTexts each_member 126) (mixed_tree each_member) (option_and_then (λ p. if_last p.0 p.1) (value max_depth (tokens bytes)))
        (raw_tree each_member 126) (text_sound bytes (IsUtf8-from_is_utf8 bytes is))

pub member_sound : (name text : List ℕ) → IfSome (member_json name text) (IsJsonText 126)
member_sound name text =
    next_of (HoldsJsonText 126) (IsJsonText 126) (mixed_tree_of each_member text >>= get name) as_str
    (next_of (HasRawTexts each_member 126) (HoldsJsonText 126) (mixed_tree_of each_member text) (get name) (whole_tree text)
    (λ d h. weaker (IsRawText each_member 126 name) (HoldsJsonText 126) (get name d) (λ e raw. raw refl) (found_in (IsRawText each_member 126) name d h)))
    (λ d h. h)

starts_object : (text : List ℕ) → is_object text ≡ true → is_object_text text ≡ true
starts_object [] e = absurd cc
starts_object (byte ∷ bytes) e = e

object_sound : (text : List ℕ) → IsJsonText 126 text → IfSome (if_object text) (IsObjectText 119)
object_sound text sound = of_tests (is_object text) (is_shallow text) refl refl
  where
    of_tests : (a b : Bool) → is_object text ≡ a → is_shallow text ≡ b → IfSome (cond (a && b) (Some text) None) (IsObjectText 119)
    of_tests false b first second = tt
    of_tests true false first second = tt
    of_tests true true first second = record { json_text = shallow_text 126 text sound 119 second; object = starts_object text first }

pub range_sound : (name text : List ℕ) → IfSome (object_json name text) (IsObjectText 119)
range_sound name text =
    next_of (IsJsonText 126) (IsObjectText 119) (member_json (codes "diagnostic") text >>= member_json name) if_object
    (next_of (IsJsonText 126) (IsJsonText 126) (member_json (codes "diagnostic") text) (member_json name) (member_sound (codes "diagnostic") text) (λ part h. member_sound name part))
    object_sound
