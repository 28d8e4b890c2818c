-- Which lines begin a run, and how many runs are counted.
use Rattle.std.proofs.Common.{◌≡◌, ℕ, ◌+◌, List, [], ◌∷◌, codes, Bool, true, false, cond, Option, Some, None, refl, sym, ap, ◌∙◌, subst, ⊎_elim, fold, arith}
use Rattle.std.specs.Prelude.{count_by, unwrap_or}
use Rattle.std.specs.Option.{option_and_then, option_map_or}
use Rattle.std.specs.Str.{is_utf8}
use Rattle.std.proofs.lemmas.Bool.{and_parts, cases_Bool, eqb-true, or_cases}
use Rattle.std.proofs.lemmas.List.Sums.{sum_by-cons}
use Rattle.json.specs.Lex.{Lexeme, between, fresh, lex, punctuate}
use Rattle.json.specs.Json as json
use Rattle.json.proofs.OnLiterals.{json_on_literals}
use Rattle.serde_json.specs.Data.{Data}
use Rattle.serde_json.specs.Read.{max_depth, of_json, read}
use Rattle.apply_json.specs.Tree.{tree_of}
use Rattle.stream_message.specs.Located.{from_mark, message_text}
use Rattle.stream_message.specs.Members.{kind_of}
use Rattle.stream_message.specs.Runs.{begins_run, is_version, is_version_text}
use Rattle.stream_timeline.specs.Details.{is_blank}
use Rattle.stream_timeline.specs.Lines.{log_line}
use Rattle.stream_timeline.specs.TimelineRead.{TimelineRead, is_blank_line, with_line}
use Rattle.stream_timeline.proofs.Counted.{run_counted}

-- ---- blank lines

-- a blank byte is one of three
by_blank : (P : ℕ → Type 0) (byte : ℕ) → P 32 → P 9 → P 13 → is_blank byte ≡ true → P byte
by_blank P byte blank tab return is =
    ⊎_elim
    (λ front.
    ⊎_elim
    (λ here. subst P (sym (eqb-true byte 32 here)) blank)
    (λ here. subst P (sym (eqb-true byte 9 here)) tab)
    (or_cases _ _ front))
    (λ here. subst P (sym (eqb-true byte 13 here)) return)
    (or_cases _ _ is)

-- so a blank line has no token,
no_lexeme : (line : List ℕ) → is_blank_line line ≡ true → lex between line ≡ []
unfolding lex
no_lexeme [] blank = refl
no_lexeme (byte ∷ bytes) blank =
    let parts = and_parts _ _ blank in
    by_blank (λ b. lex between (b ∷ bytes) ≡ []) byte (no_lexeme bytes parts.1) (no_lexeme bytes parts.1) (no_lexeme bytes parts.1) parts.0

-- no value,
abbrev value_of : List Lexeme → Option Data
value_of lexemes = option_and_then of_json (option_and_then (λ p. json.if_last p.0 p.1) (json.value max_depth (punctuate fresh lexemes)))

no_value : value_of [] ≡ None
unfolding json_on_literals
no_value = refl

no_tree : (line : List ℕ) → is_blank_line line ≡ true → tree_of line ≡ None
no_tree line blank = each (is_utf8 line) where
  each : (b : Bool) → cond b (read line) None ≡ None
  each true = ap value_of (no_lexeme line blank) ∙ no_value
  each false = refl

-- and no start of a message
no_mark : (line : List ℕ) → is_blank_line line ≡ true → from_mark line ≡ None
no_mark [] blank = refl
no_mark (byte ∷ bytes) blank =
    let parts = and_parts _ _ blank in
    by_blank (λ b. from_mark (b ∷ bytes) ≡ None) byte (no_mark bytes parts.1) (no_mark bytes parts.1) (no_mark bytes parts.1) parts.0

pub no_run : (line : List ℕ) → tree_of line ≡ None → is_version_text line ≡ false
no_run line none = rw none refl

pub blank_no_run : (line : List ℕ) → is_blank_line line ≡ true → is_version_text line ≡ false
blank_no_run line blank = no_run line (no_tree line blank)

-- ---- the lines of a log

-- the object without members is no `version` message
empty_no_run : is_version_text (codes "{}") ≡ false
unfolding json_on_literals
empty_no_run = each (is_utf8 (codes "{}")) where
  each : (b : Bool) → option_map_or (λ d. is_version (kind_of d)) (cond b (read (codes "{}")) None) false ≡ false
  each true = refl
  each false = refl

-- a line that is read begins a run where the line of the log does
pub log_line_begins : (find : Bool) (line : List ℕ) → is_version_text (log_line find line) ≡ begins_run find line
log_line_begins false line = refl
log_line_begins true line =
    ⊎_elim
    (λ (yes : is_blank_line line ≡ true). rw (yes, no_mark line yes) (blank_no_run line yes))
    (λ (no : is_blank_line line ≡ false). rw no (each (message_text line)))
    (cases_Bool (is_blank_line line))
  where
    each : (text : Option (List ℕ)) → is_version_text (unwrap_or text (codes "{}")) ≡ option_map_or is_version_text text false
    each None = empty_no_run
    each (Some text) = refl

-- ---- all lines

one_begins : (b : Bool) (n m : ℕ) → cond b (n + 1) n + m ≡ n + (cond b 1 0 + m)
one_begins true n m = omega arith
one_begins false n m = omega arith

pub all_begun : (find : Bool) (lines : List (List ℕ)) (t : TimelineRead) → (fold (λ t line. with_line (log_line find line) t) t lines).runs ≡ t.runs + count_by (begins_run find) lines
all_begun find [] t = omega arith
all_begun find (line ∷ lines) t =
    all_begun find lines (with_line (log_line find line) t)
    ∙ (ap (λ (n : ℕ). n + count_by (begins_run find) lines)
    (run_counted (log_line find line) t ∙ ap (λ (b : Bool). cond b (t.runs + 1) t.runs) (log_line_begins find line))
    ∙ (one_begins (begins_run find line) t.runs (count_by (begins_run find) lines)
    ∙ ap (λ (n : ℕ). t.runs + n) (sym (sum_by-cons (λ (line : List ℕ). cond (begins_run find line) 1 0) line lines))))
