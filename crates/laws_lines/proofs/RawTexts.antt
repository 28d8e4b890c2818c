-- What is read of the text of a value, with its escapes or without: its tree, and its members as
-- JSON texts.
use Rattle.std.proofs.Common.{◌≡◌, ℕ, ◌≤◌, List, [], cond, IsUtf8, Bool, Option, Some, None, sym, ap, ◌∙◌, append-nil}
use Rattle.std.specs.Prelude.{option_and_then, option_map}
use Rattle.std.proofs.lemmas.Str.{is_utf8-from_IsUtf8}
use Rattle.json.specs.Json as json
use Rattle.json.specs.Json.{Json}
use Rattle.json.specs.Lex.{tokens}
use Rattle.json.specs.Tree.{HasNumbers, MembersHaveNumbers, depth, json_tokens}
use Rattle.json.proofs.Printed.Tokens.{tokens-print}
use Rattle.json.proofs.Printed.Trees.{ArePrintable-json_tokens, value-json_tokens}
use Rattle.serde_json.specs.Data.{Data, null, boolean, number, string, array, object, Items, no_items, item, Members, no_members, member}
use Rattle.serde_json.specs.Find.{as_str, get}
use Rattle.serde_json.specs.Read.{max_depth, of_json, read}
use Rattle.serde_json.specs.Written.{items_outline, members_outline, outline}
use Rattle.apply_json.specs.Tree.{◌>>=◌, tree_of}
use Rattle.apply_json.specs.Verbatim.{mixed_members, mixed_tree, mixed_tree_of, mixed_tree_of_text, verbatim}
use Rattle.apply_text.specs.Laws.{line_feeds}
use Rattle.apply_text_terraform.specs.Escapes.{escaped}
use Rattle.apply_text_terraform.proofs.Utf8.{still_utf8}
use Rattle.stream_record_lines.specs.JsonMembers.{each_member, member_json}
use Rattle.laws_check.specs.Sound.{AreSoundItems, AreSoundMembers, IsSound}
use Rattle.laws_check.proofs.EscapedTokens.{tokens_escaped}
use Rattle.laws_check.proofs.FormFeeds.{escaped_feeds, own_feeds}
use Rattle.laws_check.proofs.Given.{is_given}
use Rattle.laws_check.proofs.JsonTexts.{onto}
use Rattle.laws_check.proofs.Legible.{AreClear, HaveClear, IsClear, text_clear, value_spelt}
use Rattle.laws_check.proofs.OwnTexts.{printed_utf8}
use Rattle.laws_check.proofs.ReadBack.{has_numbers, text_utf8}

-- the value can be printed and read: its texts are UTF-8, its numbers are numbers, and it is not
-- deep
pub record IsPlainValue (j : Json) : Type 0 where
  pub clear : IsClear j
  pub numbers : HasNumbers j
  pub shallow : depth j ≤ max_depth

-- the text is read as the value
pub record IsTextOf (text : List ℕ) (j : Json) : Type 0 where
  pub utf8 : IsUtf8 text
  pub tokens_are : tokens text ≡ json_tokens j
  pub shallow : depth j ≤ max_depth
  pub no_feed : line_feeds text ≡ 0

pub own_utf8 : (j : Json) → IsClear j → IsUtf8 (verbatim j)
own_utf8 j clear = printed_utf8 (json_tokens j) (value_spelt j clear)

pub own_text : (j : Json) → IsPlainValue j → IsTextOf (verbatim j) j
own_text j is = record {
  utf8 = own_utf8 j is.clear;
  tokens_are = tokens-print (json_tokens j) (ArePrintable-json_tokens j is.numbers);
  shallow = is.shallow;
  no_feed = own_feeds j is.numbers;
}

pub escaped_text : (j : Json) → IsPlainValue j → IsTextOf (escaped (verbatim j)) j
escaped_text j is = record {
  utf8 = still_utf8 (verbatim j) (own_utf8 j is.clear);
  tokens_are = tokens_escaped (json_tokens j) (ArePrintable-json_tokens j is.numbers);
  shallow = is.shallow;
  no_feed = escaped_feeds (verbatim j) (own_feeds j is.numbers);
}

-- ---- what is read

pub parsed : (text : List ℕ) (j : Json) → IsTextOf text j → option_and_then (λ p. json.if_last p.0 p.1) (json.value max_depth (tokens text)) ≡ Some j
parsed text j is =
    ap (option_and_then (λ p. json.if_last p.0 p.1))
    (ap (json.value max_depth) (is.tokens_are ∙ sym (append-nil (json_tokens j))) ∙ value-json_tokens j max_depth [] is.shallow)

pub tree_is : (text : List ℕ) (j : Json) → IsTextOf text j → tree_of text ≡ of_json j
tree_is text j is =
    ap (λ (b : Bool). cond b (read text) None) (is_utf8-from_IsUtf8 text is.utf8)
    ∙ ap (option_and_then of_json) (parsed text j is)

mixed_is : (raw : List ℕ → Bool) (text : List ℕ) (j : Json) → IsTextOf text j → mixed_tree_of raw text ≡ mixed_tree raw j
mixed_is raw text j is =
    ap (λ (b : Bool). cond b (mixed_tree_of_text raw text) None) (is_utf8-from_IsUtf8 text is.utf8)
    ∙ ap (option_and_then (mixed_tree raw)) (parsed text j is)

-- a member of an object, as JSON text
pub member_is : (name text : List ℕ) (ms : json.Members) → IsTextOf text (json.object ms)
    → member_json name text ≡ ((option_map object (mixed_members each_member ms no_members)) >>= get name) >>= as_str
member_is name text ms is = ap (λ (o : Option Data). (o >>= get name) >>= as_str) (mixed_is each_member text (json.object ms) is)

-- ---- values that are plain

-- the value of a text that is its own
pub clear_value : (j : Json) → HasNumbers j → IsUtf8 (verbatim j) → depth j ≤ max_depth → IsClear j
clear_value j numbers utf8 shallow =
    let read : option_and_then (λ p. json.if_last p.0 p.1) (json.value max_depth (tokens (verbatim j))) ≡ Some j =
    ap (option_and_then (λ p. json.if_last p.0 p.1))
    (ap (json.value max_depth) (tokens-print (json_tokens j) (ArePrintable-json_tokens j numbers) ∙ sym (append-nil (json_tokens j))) ∙ value-json_tokens j max_depth [] shallow) in
    is_given IsClear (option_and_then (λ p. json.if_last p.0 p.1) (json.value max_depth (tokens (verbatim j)))) j (text_clear (verbatim j) utf8) read

mutual
  pub outline_clear : (d : Data) → IsSound d → IsClear (outline d)
  outline_clear null h = tt
  outline_clear (boolean b) h = tt
  outline_clear (number n) h = text_utf8 (number n) h
  outline_clear (string s) h = h
  outline_clear (array ds) h = items_clear ds h
  outline_clear (object ms) h = members_clear ms h

  items_clear : (ds : Items) → AreSoundItems ds → AreClear (items_outline ds)
  items_clear no_items h = tt
  items_clear (item d ds) h = (outline_clear d h.0, items_clear ds h.1)

  members_clear : (ms : Members) → AreSoundMembers ms → HaveClear (members_outline ms)
  members_clear no_members h = tt
  members_clear (member k d ms) h = (h.0, outline_clear d h.1, members_clear ms h.2)

pub onto_clear : (ms : Members) (others : json.Members) → AreSoundMembers ms → HaveClear others → HaveClear (onto ms others)
onto_clear no_members others h clear = clear
onto_clear (member k d ms) others h clear = (h.0, outline_clear d h.1, onto_clear ms others h.2 clear)

pub onto_numbers : (ms : Members) (others : json.Members) → AreSoundMembers ms → MembersHaveNumbers others → MembersHaveNumbers (onto ms others)
onto_numbers no_members others h numbers = numbers
onto_numbers (member k d ms) others h numbers = (has_numbers d h.1, onto_numbers ms others h.2 numbers)

pub plain_outline : (d : Data) → IsSound d → depth (outline d) ≤ max_depth → IsPlainValue (outline d)
plain_outline d sound shallow = record { clear = outline_clear d sound; numbers = has_numbers d sound; shallow = shallow }
