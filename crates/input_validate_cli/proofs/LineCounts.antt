-- The number of lines of a text.
use Rattle.std.proofs.Common.{◌≡◌, ◌≢◌, ◌∙◌, ◌+◌, ◌-◌, ◌<◌, ◌≤◌, ◌^◌, ◌++◌, ℕ, suc, List, [], ◌∷◌, length, get_or, Bool, true, false, cond, Result, Ok, Err, String, Global, ap, arith, refl, subst, sym, string_bytes, ltb, ⊎_elim}
use Rattle.std.specs.Prelude.{◌==◌, IfOk, OnOk, if◌then◌else◌, is_ok, min, nat_lt}
use Rattle.std.specs.declared.alloc.AllocError.{AllocError}
use Rattle.std.specs.Str.{NoCharPasses}
use Rattle.std.proofs.lemmas.Bool.{cases_lt, le-ltb, lt-ltb}
use Rattle.std.proofs.lemmas.Bool.Decides.{nat_tests}
use Rattle.std.proofs.lemmas.List.{length-take}
use Rattle.std.proofs.lemmas.List.Sums.{sum_by-append}
use Rattle.std.proofs.lemmas.Str.{NoCharPasses-byte}
use Rattle.term_text.specs.Shown.{is_hidden}
use Rattle.input_validate.specs.Findings.{Reported, reported}
use Rattle.input_validate.specs.declared.findings.finding.Finding.{Finding}
use Rattle.input_validate_cli.specs.Lines.{line_count, lines_for, lines_of}
use Rattle.input_validate_cli.specs.Validated.{accepted, nothing}

none_counted : (text : List ℕ) → ((i : ℕ) → i < length text → get_or text i 0 ≢ 10) → line_count text ≡ 0
none_counted [] none = refl
none_counted (byte ∷ text) none =
    let first : byte ≢ 10 = none 0 (omega arith) in
    let test : (byte == 10) ≡ false = grind (arith, nat_tests) in
    let rest = none_counted text (λ i below. none (suc i) (omega arith)) in
    rw test (omega (arith, rest))

hidden_feed : is_hidden 10 ≡ true
unfolding is_hidden
hidden_feed = refl

-- what hides nothing has no line feed
pub no_feed : (text : List ℕ) → NoCharPasses is_hidden text → line_count text ≡ 0
no_feed text plain =
    none_counted text (λ i below is.
    let small : get_or text i 0 < 128 = omega (arith, is) in
    let clear : is_hidden (get_or text i 0) ≡ false = NoCharPasses-byte is_hidden text i plain below small in
    let other : is_hidden 10 ≡ false = subst (λ n. is_hidden n ≡ false) is clear in
    let same = hidden_feed in
    cc)

-- one line more
pub one_more : (before shown after : List ℕ) → NoCharPasses is_hidden shown → after ≡ (before ++ shown) ++ 10 ∷ [] → line_count after ≡ line_count before + 1
one_more before shown after plain is =
    let none = no_feed shown plain in
    let parts = sum_by-append (λ (byte : ℕ). cond (byte == 10) 1 0) (before ++ shown) (10 ∷ []) in
    let front = sum_by-append (λ (byte : ℕ). cond (byte == 10) 1 0) before shown in
    ap line_count is ∙ omega (arith, none, parts, front)

pub one_more_on_ok : (made : Result (Unit {0}) AllocError) (before shown mid coded after : List ℕ) → NoCharPasses is_hidden shown → mid ≡ before ++ shown → coded ≡ 10 ∷ []
    → after ≡ (if is_ok made then mid ++ coded else mid) → OnOk made (line_count after ≡ line_count before + 1)
one_more_on_ok (Ok done) before shown mid coded after plain is_mid is_coded is =
    one_more before shown after plain (is ∙ ap (λ (x : List ℕ). mid ++ x) is_coded ∙ ap (λ (m : List ℕ). m ++ 10 ∷ []) is_mid)
one_more_on_ok (Err refused) before shown mid coded after plain is_mid is_coded is = tt

-- ---- as many lines as findings

-- the printed part of two lists, each of which stores its first 1,000, and whether there are more
as_numbers : (a b stored others count more : ℕ) → stored ≡ min 1000 a → others ≡ min 1000 b → count ≡ min a (2 ^ 64 - 1) → more ≡ min b (2 ^ 64 - 1)
    → min 1000 stored + min (1000 - stored) others + cond (nat_lt 1000 (count + more)) 1 0 ≡ min (a + b) 1001
as_numbers a b stored others count more is_kept is_others is_count is_more =
    ⊎_elim
    (λ (many : 1000 < a + b). let over : 1000 < count + more = omega arith in
    let test : ltb 1000 (count + more) ≡ true = lt-ltb _ _ over in
    rw test (omega arith))
    (λ (few : a + b ≤ 1000). let within : count + more ≤ 1000 = omega arith in
    let test : ltb 1000 (count + more) ≡ false = le-ltb _ _ within in
    rw test (omega arith))
    (cases_lt 1000 (a + b))

lines_as_printed : (all more : List Finding) (has_script : Bool) → (has_script ≡ false → more ≡ []) → lines_of (reported all) (reported more) has_script ≡ min (length all + length more) 1001
unfolding reported
lines_as_printed all more true absent =
    as_numbers (length all) (length more) _ _ _ _ (length-take 1000 all) (length-take 1000 more) refl refl
lines_as_printed all more false absent =
    let none : length more ≡ 0 = ap length (absent refl) in
    let same = as_numbers (length all) (length more) _ _ _ _ (length-take 1000 all) (length-take 1000 more) refl refl in
    omega (arith, none, same, length-take 1000 all, length-take 1000 more)

some_found : (all more : List Finding) (text : List ℕ) → (reported all ≡ nothing → reported more ≡ nothing → text ≡ []) → text ≢ [] → 1 ≤ length all + length more
unfolding reported
some_found [] [] text none some = absurd (some (none refl refl))
some_found [] (finding ∷ more) text none some = omega arith
some_found (finding ∷ all) more text none some = omega arith

accepted_counted : (has_script : Bool) → line_count (accepted has_script) ≡ 1
accepted_counted true = refl
accepted_counted false = refl

-- the text with all lines, or where it is empty the one that all is accepted
pub as_many_lines : (of_plan of_script : Reported) (has_script : Bool) (text : List ℕ) (made : Result (String Global) AllocError)
    → line_count text ≡ lines_of of_plan of_script has_script → (of_plan ≡ nothing → of_script ≡ nothing → text ≡ [])
    → (text ≡ [] → IfOk made (λ all. string_bytes all ≡ accepted has_script)) → (text ≢ [] → IfOk made (λ all. string_bytes all ≡ text))
    → (all more : List Finding) → of_plan ≡ reported all → of_script ≡ reported more → (has_script ≡ false → more ≡ [])
    → IfOk made (λ whole. line_count (string_bytes whole) ≡ lines_for (length all + length more))
as_many_lines of_plan of_script has_script text (Err refused) counted none empty same all more is_plan is_script absent = tt
as_many_lines of_plan of_script has_script [] (Ok whole) counted none empty same all more is_plan is_script absent =
    let stored : lines_of of_plan of_script has_script ≡ lines_of (reported all) (reported more) has_script = ap (λ (p : Reported). lines_of p of_script has_script) is_plan ∙ ap (λ (s : Reported). lines_of (reported all) s has_script) is_script in
    let few = lines_as_printed all more has_script absent in
    let none_printed : min (length all + length more) 1001 ≡ 0 = sym (counted ∙ stored ∙ few) in
    let one = accepted_counted has_script in
    ap line_count (empty refl) ∙ one ∙ omega (arith, none_printed)
as_many_lines of_plan of_script has_script (byte ∷ text) (Ok whole) counted none empty same all more is_plan is_script absent =
    let stored : lines_of of_plan of_script has_script ≡ lines_of (reported all) (reported more) has_script = ap (λ (p : Reported). lines_of p of_script has_script) is_plan ∙ ap (λ (s : Reported). lines_of (reported all) s has_script) is_script in
    let some_text : byte ∷ text ≢ [] = λ bad. cc in
    let some = some_found all more (byte ∷ text) (λ p s. none (is_plan ∙ p) (is_script ∙ s)) some_text in
    let printed_count : line_count (byte ∷ text) ≡ min (length all + length more) 1001 = counted ∙ stored ∙ lines_as_printed all more has_script absent in
    ap line_count (same some_text) ∙ printed_count ∙ omega (arith, some)
