-- Ranges and snippets that come back.
use Rattle.std.proofs.Common.{◌≡◌, ℕ, List, [], cond, Bool, true, Some, None, refl, sym, ap, ap₂, ◌∙◌, append-nil}
use Rattle.std.specs.Prelude.{◌&&◌, is_some}
use Rattle.json.specs.Json.{value}
use Rattle.json.specs.Lex.{tokens}
use Rattle.json.specs.Tree.{json_tokens}
use Rattle.json.proofs.Printed.Tokens.{tokens-print}
use Rattle.json.proofs.Printed.Trees.{ArePrintable-json_tokens, value-json_tokens}
use Rattle.serde_json.specs.Read.{converted, of_json}
use Rattle.stream_record_lines.specs.JsonMembers.{if_object, is_object, is_shallow, max_nesting}
use Rattle.laws_lines.specs.Notes.{IsShallowText}

shallow : (text : List ℕ) → IsShallowText max_nesting text → is_shallow text ≡ true
shallow text is =
    let tokens_are : tokens text ≡ json_tokens is.json = ap tokens is.text_is ∙ tokens-print (json_tokens is.json) (ArePrintable-json_tokens is.json is.numbers) in
    ap (λ ts. is_some (converted of_json (value max_nesting ts))) (tokens_are ∙ sym (append-nil (json_tokens is.json)))
    ∙ ap (λ o. is_some (converted of_json o)) (value-json_tokens is.json max_nesting [] is.shallow)
    ∙ rw is.tree_is refl

pub comes_back : (text : List ℕ) → IsShallowText max_nesting text → is_object text ≡ true → if_object text ≡ Some text
comes_back text is object = ap₂ (λ (a b : Bool). cond (a && b) (Some text) None) object (shallow text is)
