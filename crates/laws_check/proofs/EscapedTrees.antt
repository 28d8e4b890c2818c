-- A printed value is read as the same tree with its escapes.
use Rattle.std.proofs.Common.{◌≡◌, ◌≤◌, ℕ, List, [], IsUtf8, cond, Bool, Some, None, refl, sym, ap, ◌∙◌, subst, append-nil, arith}
use Rattle.std.specs.Prelude.{option_and_then}
use Rattle.std.proofs.lemmas.Str.{is_utf8-from_IsUtf8}
use Rattle.json.specs.Json as json
use Rattle.json.specs.Json.{Json}
use Rattle.json.specs.Lex.{tokens}
use Rattle.json.specs.Tree.{HasNumbers, depth, json_tokens}
use Rattle.json.proofs.Printed.Tokens.{tokens-print}
use Rattle.json.proofs.Printed.Trees.{ArePrintable-json_tokens, value-json_tokens}
use Rattle.serde_json.specs.Data.{Data}
use Rattle.serde_json.specs.Read.{max_depth, of_json, read}
use Rattle.serde_json.specs.Written.{compact_text, outline}
use Rattle.serde_json.proofs.Texts.{print-outline}
use Rattle.apply_json.specs.Verbatim.{verbatim}
use Rattle.apply_json.specs.Tree.{tree_of}
use Rattle.apply_text.specs.Laws.{line_feeds}
use Rattle.apply_text_terraform.specs.Escapes.{escaped}
use Rattle.apply_text_terraform.specs.Lines.{line_of}
use Rattle.apply_text_terraform.proofs.Utf8.{still_utf8}
use Rattle.laws_check.specs.Forms.{IsParsedAs}
use Rattle.laws_check.specs.Sound.{IsSound}
use Rattle.laws_check.proofs.EscapedTokens.{tokens_escaped}
use Rattle.laws_check.proofs.FormFeeds.{escaped_feeds, own_feeds}
use Rattle.laws_check.proofs.ReadBack.{has_numbers, text_utf8}

-- what is read of a text of these tokens
read_of : (text : List ℕ) (j : Json) → tokens text ≡ json_tokens j → depth j ≤ max_depth → read text ≡ of_json j
read_of text j are shallow =
    ap (λ o. option_and_then of_json (option_and_then (λ p. json.if_last p.0 p.1) o))
    (ap (json.value max_depth) (are ∙ sym (append-nil (json_tokens j))) ∙ value-json_tokens j max_depth [] shallow)

tree_of_read : (text : List ℕ) → IsUtf8 text → tree_of text ≡ read text
tree_of_read text utf8 = ap (λ (b : Bool). cond b (read text) None) (is_utf8-from_IsUtf8 text utf8)

-- a printed value is read as the value
pub own_tree : (j : Json) → HasNumbers j → IsUtf8 (verbatim j) → depth j ≤ max_depth → tree_of (verbatim j) ≡ of_json j
own_tree j numbers utf8 shallow =
    tree_of_read (verbatim j) utf8 ∙ read_of (verbatim j) j (tokens-print (json_tokens j) (ArePrintable-json_tokens j numbers)) shallow

-- the text with its escapes
pub escaped_tree : (j : Json) → HasNumbers j → IsUtf8 (verbatim j) → depth j ≤ max_depth → tree_of (escaped (verbatim j)) ≡ of_json j
escaped_tree j numbers utf8 shallow =
    tree_of_read (escaped (verbatim j)) (still_utf8 (verbatim j) utf8)
    ∙ read_of (escaped (verbatim j)) j (tokens_escaped (json_tokens j) (ArePrintable-json_tokens j numbers)) shallow

pub same_tree : (j : Json) → HasNumbers j → IsUtf8 (verbatim j) → tree_of (escaped (verbatim j)) ≡ tree_of (verbatim j)
same_tree j numbers utf8 =
    let printable = ArePrintable-json_tokens j numbers in
    tree_of_read (escaped (verbatim j)) (still_utf8 (verbatim j) utf8)
    ∙ ap (λ ts. option_and_then of_json (option_and_then (λ p. json.if_last p.0 p.1) (json.value max_depth ts)))
    (tokens_escaped (json_tokens j) printable ∙ sym (tokens-print (json_tokens j) printable))
    ∙ sym (tree_of_read (verbatim j) utf8)

-- ---- a line of one object

-- the line of a sound object is read as the members in their order, and its text has no line feed
pub own_line : (d : Data) → IsSound d → depth (outline d) ≤ 3 → (tree_of (escaped (compact_text d)) ≡ of_json (outline d)) × (line_feeds (escaped (compact_text d)) ≡ 0)
own_line d sound shallow =
    let same = print-outline d in (
      ap (λ t. tree_of (escaped t)) (sym same) ∙ escaped_tree (outline d) (has_numbers d sound) (subst IsUtf8 (sym same) (text_utf8 d sound)) (omega (arith, shallow)),
      escaped_feeds (compact_text d) (ap line_feeds (sym same) ∙ own_feeds (outline d) (has_numbers d sound)),
    )

pub line_read : (d located : Data) → IsSound d → (of_json (outline d) ≡ Some located) × (depth (outline d) ≤ 3) → IsParsedAs (line_of d) located
line_read d located sound is =
    let line = own_line d sound is.1 in
    record { text = escaped (compact_text d); line_is = refl; no_feed = line.1; tree_is = line.0 ∙ is.0 }
