-- Values of a tree, their own texts, and what a run reads of the texts.
use Rattle.std.proofs.Common.{◌≡◌, ◌≤◌, ◌==◌, ℕ, List, [], ◌∷◌, ◌++◌, drop, Bool, true, false, not, ◌&&◌, ◌||◌, is_some, Option, Some, None, option_map, option_and_then, refl, sym, ap, ◌∙◌, if◌then◌else◌, ⊎_elim, append-nil}
use Rattle.std.specs.Prelude.{codes}
use Rattle.std.specs.Str.{bytes_eq}
use Rattle.std.proofs.lemmas.Bool.{cases_Bool, eqb-true}
use Rattle.std.proofs.lemmas.Slice.Eq.{bytes_eq-Decides}
use Rattle.json.specs.Json as json
use Rattle.json.specs.Json.{Json}
use Rattle.json.specs.Print.{escape_byte, print_from, quoted}
use Rattle.json.specs.Text.{content, plain}
use Rattle.json.specs.Tree.{HasNumbers, depth, json_tokens}
use Rattle.json.specs.Word.{after_number}
use Rattle.json.proofs.Printed.Strings.{content-escape}
use Rattle.json.proofs.Printed.Tokens.{tokens-print}
use Rattle.json.proofs.Printed.Trees.{ArePrintable-json_tokens, value-json_tokens}
use Rattle.serde_json.specs.Data.{Data, null, boolean, number, string, array, object, no_members}
use Rattle.serde_json.specs.Find.{as_object, as_str}
use Rattle.serde_json.specs.Read.{max_depth, number_of, of_items, of_json, of_members}
use Rattle.apply_json.specs.Tree.{◌>>=◌, unless_null}
use Rattle.apply_model.specs.declared.details.note.Severity.{Severity}
use Rattle.apply_model.specs.declared.details.note.Severity.TheVariants.{Error, Warning}
use Rattle.apply_plan_terraform.specs.Notes.{is_object, object_or_none, decoded, decoded_or_empty, severity_named}
use Rattle.apply_plan_terraform.specs.Outputs.{is_flag_or_absent, is_null}
use Rattle.apply_plan_terraform.specs.Texts.{json_of_text, text_of}
use Rattle.input_validate.specs.declared.findings.expected.Expected.TheVariants as expected
use Rattle.input_validate.specs.Expectations.{is_met, is_severity}
use Rattle.input_validate.proofs.Options.{not_not}

-- the value of a tree is that of JSON, which nests no deeper than it may
pub record IsOf (j : Json) (d : Data) : Type 0 where
  pub numbers : HasNumbers j
  pub shallow : depth j ≤ max_depth
  pub is : of_json j ≡ Some d

some_is : {A : Type 0} (x y : A) → Some x ≡ Some y → x ≡ y
some_is x y e = cc

pub mapped : {A B : Type 0} (f : A → B) (o : Option A) (y : B) → option_map f o ≡ Some y → (x : A) × (o ≡ Some x) × (y ≡ f x)
mapped f None y e = absurd cc
mapped f (Some x) y e = (x, refl, sym (some_is (f x) y e))

-- ---- numbers

-- the text of a number is no word that is none
no_number : (word s : List ℕ) → (after_number word ≡ Some [] → ⊥) → after_number s ≡ Some [] → bytes_eq s word ≡ false
no_number word s never is =
    ⊎_elim (λ (yes : bytes_eq s word ≡ true). absurd (never (ap after_number (sym ((bytes_eq-Decides s word).0 yes)) ∙ is)))
    (λ (no : bytes_eq s word ≡ false). no) (cases_Bool (bytes_eq s word))

never_null : after_number (codes "null") ≡ Some [] → ⊥
unfolding after_number
never_null e = absurd cc

never_true : after_number (codes "true") ≡ Some [] → ⊥
unfolding after_number
never_true e = absurd cc

never_false : after_number (codes "false") ≡ Some [] → ⊥
unfolding after_number
never_false e = absurd cc

never_error : after_number (codes "\"error\"") ≡ Some [] → ⊥
unfolding after_number
never_error e = absurd cc

never_warning : after_number (codes "\"warning\"") ≡ Some [] → ⊥
unfolding after_number
never_warning e = absurd cc

never_brace : (xs : List ℕ) → after_number (123 ∷ xs) ≡ Some [] → ⊥
unfolding after_number
never_brace xs e = absurd cc

no_brace : (s : List ℕ) → after_number s ≡ Some [] → is_object s ≡ false
no_brace [] is = refl
no_brace (x ∷ xs) is =
    ⊎_elim (λ (yes : (123 == x) ≡ true). absurd (never_brace xs (ap (λ (y : ℕ). after_number (y ∷ xs)) (eqb-true 123 x yes) ∙ is)))
    (λ (no : (123 == x) ≡ false). rw no refl) (cases_Bool (123 == x))

-- ---- texts

by_both : (a b : Bool) → (a ≡ true → b ≡ true) → (b ≡ true → a ≡ true) → a ≡ b
by_both true b f g = sym (f refl)
by_both false true f g = g refl
by_both false false f g = refl

same_content : (s w : List ℕ) → quoted s ≡ quoted w → s ≡ w
same_content s w e =
    some_is s w (sym (content-escape s []) ∙ ap (λ (text : List ℕ). content plain (drop 1 text)) e ∙ content-escape w [])

-- a text in quotes is a word in quotes where it is that word
same_quoted : (s w : List ℕ) → bytes_eq (quoted s ++ []) (quoted w) ≡ bytes_eq s w
same_quoted s w =
    ap (λ (text : List ℕ). bytes_eq text (quoted w)) (append-nil (quoted s))
    ∙ by_both (bytes_eq (quoted s) (quoted w)) (bytes_eq s w)
    (λ e. (bytes_eq-Decides s w).1 (same_content s w ((bytes_eq-Decides (quoted s) (quoted w)).0 e)))
    (λ e. (bytes_eq-Decides (quoted s) (quoted w)).1 (ap quoted ((bytes_eq-Decides s w).0 e)))

quoted_error : codes "\"error\"" ≡ quoted (codes "error")
unfolding escape_byte
quoted_error = refl

quoted_warning : codes "\"warning\"" ≡ quoted (codes "warning")
unfolding escape_byte
quoted_warning = refl

-- an own text is read as the value that it is of
pub read_back : (j : Json) → HasNumbers j → depth j ≤ max_depth → json_of_text (text_of j) ≡ Some j
read_back j numbers shallow =
    ap (λ o. option_and_then (λ p. json.if_last p.0 p.1) o)
    (ap (json.value max_depth) (tokens-print (json_tokens j) (ArePrintable-json_tokens j numbers) ∙ sym (append-nil (json_tokens j))) ∙ value-json_tokens j max_depth [] shallow)

-- ---- what a text is

null_by : (j : Json) (d : Data) → HasNumbers j → of_json j ≡ Some d → is_null (Some (text_of j)) ≡ not (is_some (unless_null d))
unfolding print_from
null_by json.null d has is = rw (sym (some_is null d is)) refl
null_by (json.boolean true) d has is = rw (sym (some_is (boolean true) d is)) refl
null_by (json.boolean false) d has is = rw (sym (some_is (boolean false) d is)) refl
null_by (json.number s) d has is =
    let it = mapped number (number_of s) d is in
    rw it.2 (ap (λ (text : List ℕ). bytes_eq text (codes "null")) (append-nil s) ∙ no_number (codes "null") s never_null has)
null_by (json.string s) d has is = rw (sym (some_is (string s) d is)) refl
null_by (json.array js) d has is = let it = mapped array (of_items js) d is in rw it.2 refl
null_by (json.object ms) d has is = let it = mapped object (of_members ms no_members) d is in rw it.2 refl

-- the text is `null` if the value is `null`
pub null_text : (j : Json) (d : Data) → IsOf j d → is_null (Some (text_of j)) ≡ not (is_some (unless_null d))
null_text j d of = null_by j d of.numbers of.is

flag_by : (j : Json) (d : Data) → HasNumbers j → of_json j ≡ Some d → is_flag_or_absent (Some (text_of j)) ≡ is_met expected.FlagOrAbsent (unless_null d)
unfolding print_from
flag_by json.null d has is = rw (sym (some_is null d is)) refl
flag_by (json.boolean true) d has is = rw (sym (some_is (boolean true) d is)) refl
flag_by (json.boolean false) d has is = rw (sym (some_is (boolean false) d is)) refl
flag_by (json.number s) d has is =
    let it = mapped number (number_of s) d is in
    rw it.2
    (ap (λ (text : List ℕ). bytes_eq text (codes "true") || (bytes_eq text (codes "false") || bytes_eq text (codes "null"))) (append-nil s)
    ∙ rw (no_number (codes "true") s never_true has, no_number (codes "false") s never_false has) (no_number (codes "null") s never_null has))
flag_by (json.string s) d has is = rw (sym (some_is (string s) d is)) refl
flag_by (json.array js) d has is = let it = mapped array (of_items js) d is in rw it.2 refl
flag_by (json.object ms) d has is = let it = mapped object (of_members ms no_members) d is in rw it.2 refl

-- the text is `true`, `false` or `null` if the value is
pub flag_text : (j : Json) (d : Data) → IsOf j d → is_flag_or_absent (Some (text_of j)) ≡ is_met expected.FlagOrAbsent (unless_null d)
flag_text j d of = flag_by j d of.numbers of.is

two_words : (b c : Bool) → is_some (let o : Option Severity = if b then Some Error else if c then Some Warning else None in o) ≡ (c || b)
two_words true true = refl
two_words true false = refl
two_words false true = refl
two_words false false = refl

severity_by : (j : Json) (d : Data) → HasNumbers j → of_json j ≡ Some d → is_some (severity_named (text_of j)) ≡ is_severity d
unfolding print_from
severity_by json.null d has is = rw (sym (some_is null d is)) refl
severity_by (json.boolean true) d has is = rw (sym (some_is (boolean true) d is)) refl
severity_by (json.boolean false) d has is = rw (sym (some_is (boolean false) d is)) refl
severity_by (json.number s) d has is =
    let it = mapped number (number_of s) d is in
    rw it.2
    (ap (λ (text : List ℕ). is_some (severity_named text)) (append-nil s)
    ∙ rw (no_number (codes "\"error\"") s never_error has, no_number (codes "\"warning\"") s never_warning has) refl)
severity_by (json.string s) d has is =
    rw (sym (some_is (string s) d is))
    (two_words (bytes_eq (quoted s ++ []) (codes "\"error\"")) (bytes_eq (quoted s ++ []) (codes "\"warning\""))
    ∙ ap (λ (word : List ℕ). bytes_eq (quoted s ++ []) (codes "\"warning\"") || bytes_eq (quoted s ++ []) word) quoted_error
    ∙ ap (λ (word : List ℕ). bytes_eq (quoted s ++ []) word || bytes_eq (quoted s ++ []) (quoted (codes "error"))) quoted_warning
    ∙ ap (λ (b : Bool). b || bytes_eq (quoted s ++ []) (quoted (codes "error"))) (same_quoted s (codes "warning"))
    ∙ ap (λ (b : Bool). bytes_eq s (codes "warning") || b) (same_quoted s (codes "error")))
severity_by (json.array js) d has is = let it = mapped array (of_items js) d is in rw it.2 refl
severity_by (json.object ms) d has is = let it = mapped object (of_members ms no_members) d is in rw it.2 refl

object_by : (j : Json) (d : Data) → HasNumbers j → of_json j ≡ Some d → is_object (text_of j) ≡ is_some (as_object d)
unfolding print_from
object_by json.null d has is = rw (sym (some_is null d is)) refl
object_by (json.boolean true) d has is = rw (sym (some_is (boolean true) d is)) refl
object_by (json.boolean false) d has is = rw (sym (some_is (boolean false) d is)) refl
object_by (json.number s) d has is =
    let it = mapped number (number_of s) d is in
    rw it.2 (ap is_object (append-nil s) ∙ no_brace s has)
object_by (json.string s) d has is = rw (sym (some_is (string s) d is)) refl
object_by (json.array js) d has is = let it = mapped array (of_items js) d is in rw it.2 refl
object_by (json.object ms) d has is = let it = mapped object (of_members ms no_members) d is in rw it.2 refl

decoded_text : (j : Json) (d : Data) → IsOf j d → decoded (text_of j) ≡ as_str d
decoded_text j d of =
    ap (λ (o : Option Json). option_and_then of_json o >>= as_str) (read_back j of.numbers of.shallow) ∙ ap (λ (o : Option Data). o >>= as_str) of.is

-- ---- values that may be missing

-- nothing stands there, or the text is the value's own
abbrev pub AreSpelt : Option Data → Option (List ℕ) → Type 0
AreSpelt None p = p ≡ None
AreSpelt (Some d) p = (j : Json) × IsOf j d × (p ≡ Some (text_of j))

-- a text, where it is not `null`
abbrev pub raw_tree : Option (List ℕ) → Option (List ℕ)
raw_tree p = p >>= λ text. if is_null (Some text) then None else Some text

not_null : (j : Json) (d : Data) → IsOf j d → AreSpelt (unless_null d) (raw_tree (Some (text_of j)))
not_null j null of = rw (null_text j null of) refl
not_null j (boolean b) of = (j, of, rw (null_text j (boolean b) of) refl)
not_null j (number n) of = (j, of, rw (null_text j (number n) of) refl)
not_null j (string s) of = (j, of, rw (null_text j (string s) of) refl)
not_null j (array ds) of = (j, of, rw (null_text j (array ds) of) refl)
not_null j (object ms) of = (j, of, rw (null_text j (object ms) of) refl)

pub verbatim_spelt : (o : Option Data) (p : Option (List ℕ)) → AreSpelt o p → AreSpelt (o >>= unless_null) (raw_tree p)
verbatim_spelt None p a = rw a refl
verbatim_spelt (Some d) p a = rw (a.2) (not_null a.0 d a.1)

there : (o : Option Data) → is_some o ≡ is_met expected.NotNull o
there None = refl
there (Some d) = refl

pub typed_met : (o : Option Data) (p : Option (List ℕ)) → AreSpelt o p → is_met expected.NotNull (o >>= unless_null) ≡ (is_some p && not (is_null p))
typed_met None p a = rw a refl
typed_met (Some d) p a =
    rw (a.2) (sym (there (unless_null d)) ∙ sym (ap not (null_text a.0 d a.1) ∙ not_not (is_some (unless_null d))))

pub flag_met : (o : Option Data) (p : Option (List ℕ)) → AreSpelt o p → is_met expected.FlagOrAbsent (o >>= unless_null) ≡ is_flag_or_absent p
flag_met None p a = rw a refl
flag_met (Some d) p a = rw (a.2) (sym (flag_text a.0 d a.1))

pub severity_met : (o : Option Data) (p : Option (List ℕ)) → AreSpelt o p → is_met expected.NoteSeverity o ≡ is_some (p >>= severity_named)
severity_met None p a = rw a refl
severity_met (Some d) p a = rw (a.2) (sym (severity_by a.0 d a.1.numbers a.1.is))

pub text_met : (o : Option Data) (p : Option (List ℕ)) → AreSpelt o p → is_met expected.Text o ≡ is_some (p >>= decoded)
text_met None p a = rw a refl
text_met (Some d) p a = rw (a.2) (ap (λ (t : Option (List ℕ)). is_some t) (sym (decoded_text a.0 d a.1)))

pub text_or_met : (o : Option Data) (p : Option (List ℕ)) → AreSpelt o p → is_met expected.TextOrAbsent o ≡ is_some (decoded_or_empty p)
text_or_met None p a = rw a refl
text_or_met (Some d) p a = rw (a.2) (ap (λ (t : Option (List ℕ)). is_some t) (sym (decoded_text a.0 d a.1)))

by_object : (b : Bool) (text : List ℕ) → is_some (let o : Option (Option (List ℕ)) = if b then Some (Some text) else None in o) ≡ b
by_object true text = refl
by_object false text = refl

pub object_met : (o : Option Data) (p : Option (List ℕ)) → AreSpelt o p → is_met expected.ObjectOrAbsent o ≡ is_some (object_or_none p)
object_met None p a = rw a refl
object_met (Some d) p a =
    rw (a.2) (sym (object_by a.0 d a.1.numbers a.1.is) ∙ sym (by_object (is_object (text_of a.0)) (text_of a.0)))
