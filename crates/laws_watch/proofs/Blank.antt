-- A blank line has no message.
use Rattle.std.proofs.Common.{◌≡◌, ◌∙◌, ℕ, ◌==◌, ◌∷◌, [], Bool, List, Option, None, true, false, ⊎_elim, ap, eqb-true, refl}
use Rattle.std.specs.Prelude.{if◌then◌else◌, option_and_then}
use Rattle.std.specs.List.{list_all}
use Rattle.std.specs.Str.{is_utf8}
use Rattle.std.proofs.lemmas.Bool.{and_parts, cases_Bool}
use Rattle.json.specs.Json as json
use Rattle.json.specs.Lex.{between, fresh, lex, punctuate}
use Rattle.json.proofs.Grammar.{value_is}
use Rattle.serde_json.specs.Data.{Data}
use Rattle.serde_json.specs.Read.{max_depth, of_json, read}
use Rattle.apply_json.specs.Tree.{tree_of}
use Rattle.stream_timeline.specs.Details.{is_blank}
use Rattle.stream_timeline.specs.TimelineRead.{is_blank_line}

space : (byte : ℕ) (bytes : List ℕ) → is_blank byte ≡ true → lex between (byte ∷ bytes) ≡ lex between bytes
unfolding lex
space byte bytes blank =
    ⊎_elim (λ (is : (byte == 32) ≡ true). let same : byte ≡ 32 = eqb-true byte 32 is in ap (λ b. lex between (b ∷ bytes)) same)
    (λ (no_blank : (byte == 32) ≡ false).
    ⊎_elim (λ (is : (byte == 9) ≡ true). let same : byte ≡ 9 = eqb-true byte 9 is in ap (λ b. lex between (b ∷ bytes)) same)
    (λ (no_tab : (byte == 9) ≡ false).
    let is : (byte == 13) ≡ true = rw (no_blank, no_tab) at blank in
    let same : byte ≡ 13 = eqb-true byte 13 is in
    ap (λ b. lex between (b ∷ bytes)) same)
    (cases_Bool (byte == 9)))
    (cases_Bool (byte == 32))

none_read : (line : List ℕ) → is_blank_line line ≡ true → lex between line ≡ []
unfolding lex
none_read [] blank = refl
none_read (byte ∷ bytes) blank =
    let both = and_parts (is_blank byte) (list_all is_blank bytes) blank in
    space byte bytes both.0 ∙ none_read bytes both.1

either : (test : Bool) (x : Option Data) → x ≡ None → (if test then x else None) ≡ None
either true x none = none
either false x none = refl

pub no_tree : (line : List ℕ) → is_blank_line line ≡ true → tree_of line ≡ None
unfolding punctuate
no_tree line blank =
    let empty : read line ≡ None =
    ap (λ lexemes. option_and_then of_json (option_and_then (λ p. json.if_last p.0 p.1) (json.value max_depth (punctuate fresh lexemes)))) (none_read line blank)
    ∙ ap (λ found. option_and_then of_json (option_and_then (λ p. json.if_last p.0 p.1) found)) (value_is max_depth []) in
    either (is_utf8 line) (read line) empty
