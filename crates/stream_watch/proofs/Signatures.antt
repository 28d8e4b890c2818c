-- The names of parameters, with `...` behind the last.
use Rattle.std.proofs.Common.{◌≡◌, ◌∙◌, ℕ, List, [], ◌∷◌, ◌++◌, false, true, Option, None, Some, ap, append-nil, append_assoc, refl, sym}
use Rattle.std.specs.Prelude.{codes, is_some, option_to_list}
use Rattle.std.specs.List.{filter_map}
use Rattle.serde_json.specs.Data.{Data}
use Rattle.apply_json.specs.Tree.{◌>>=◌}
use Rattle.stream_watch.specs.Joined.{before_more, before_next, joined, more_words}
use Rattle.stream_watch.specs.SnippetRow.{dots_after, dots_words, items_of, name_of, signature_words, variadic_of}
use Rattle.stream_watch.proofs.Joins.{before-option, joined-option}

abbrev comma : List ℕ
comma = codes ", "

abbrev words_of : (names : List (List ℕ)) → (variadic : Option Data) → List ℕ
words_of names variadic =
    joined comma (names ++ option_to_list (variadic >>= name_of)) ++ dots_words (is_some variadic) (names ++ option_to_list (variadic >>= name_of))

dots_is : (names : List (List ℕ)) → dots_after (before_more comma names) ≡ dots_words true names
dots_is [] = refl
dots_is (name ∷ names) = refl

dots_none : (names : List (List ℕ)) → [] ≡ dots_words false names
dots_none [] = refl
dots_none (name ∷ names) = refl

some_words : (names : List (List ℕ)) (parameter : Data)
    → joined comma names ++ (more_words (before_more comma names) (name_of parameter) ++ dots_after (before_next comma (before_more comma names) (name_of parameter)))
    ≡ words_of names (Some parameter)
some_words names parameter =
    let name = name_of parameter in
    let all = names ++ option_to_list name in
    let dots = dots_after (before_next comma (before_more comma names) name) in
    sym (append_assoc (joined comma names) (more_words (before_more comma names) name) dots)
    ∙ ap (λ (words : List ℕ). words ++ dots) (sym (joined-option comma names name))
    ∙ ap (λ (before : List ℕ). joined comma all ++ dots_after before) (sym (before-option comma names name))
    ∙ ap (λ (words : List ℕ). joined comma all ++ words) (dots_is all)

none_words : (names : List (List ℕ)) → joined comma names ≡ words_of names None
none_words names =
    ap (joined comma) (sym (append-nil names)) ∙ sym (append-nil (joined comma (names ++ [])))
    ∙ ap (λ (words : List ℕ). joined comma (names ++ []) ++ words) (dots_none (names ++ []))

-- behind these names, and what stands before one more
pub signature_with : (signature parameter : Data) (names : List (List ℕ)) (before : List ℕ)
    → names ≡ filter_map name_of (items_of (codes "params") signature) → before ≡ before_more comma names → Some parameter ≡ variadic_of signature
    → joined comma names ++ (more_words before (name_of parameter) ++ dots_after (before_next comma before (name_of parameter))) ≡ signature_words signature
signature_with signature parameter names before named stands is =
    ap (λ (b : List ℕ). joined comma names ++ (more_words b (name_of parameter) ++ dots_after (before_next comma b (name_of parameter)))) stands
    ∙ some_words names parameter ∙ ap (λ (ns : List (List ℕ)). words_of ns (Some parameter)) named
    ∙ ap (words_of (filter_map name_of (items_of (codes "params") signature))) is

pub signature_without : (signature : Data) (names : List (List ℕ)) → names ≡ filter_map name_of (items_of (codes "params") signature)
    → None ≡ variadic_of signature → joined comma names ≡ signature_words signature
signature_without signature names named is =
    none_words names ∙ ap (λ (ns : List (List ℕ)). words_of ns None) named
    ∙ ap (words_of (filter_map name_of (items_of (codes "params") signature))) is
