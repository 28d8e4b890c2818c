-- The text of a number has no escapes and no line feeds. It has a minus, digits, a point, an
-- exponent.
use Rattle.std.proofs.Common.{◌≡◌, ℕ, suc, ◌+◌, ◌==◌, List, [], ◌∷◌, cond, drop, Bool, true, false, Option, Some, None, refl, ap, ap₂, ◌∙◌, subst, ⊎_elim, arith}
use Rattle.std.specs.Prelude.{◌&&◌, ◌||◌, IfSome, nat_le, not, option_and_then}
use Rattle.std.specs.List.{list_all, prefix_len}
use Rattle.std.specs.Char.{is_ascii_digit}
use Rattle.std.proofs.lemmas.Bool.{and_parts, eqb-true, leb-true, lt-ltb, ne_eqb, not-true, or_cases}
use Rattle.std.proofs.lemmas.List.Sums.{sum_by-cons}
use Rattle.json.specs.Print.{IsNumber}
use Rattle.json.specs.Word.{after_digits, after_exponent, after_fraction, after_minus, after_number, after_sign, after_whole, head}
use Rattle.apply_text.specs.Laws.{line_feeds}
use Rattle.apply_text_terraform.proofs.Cuts.{IsPlain, is_plain}
use Rattle.laws_check.proofs.Given.{is_given}

-- a byte that has no escape and is no line feed
abbrev is_figure : ℕ → Bool
is_figure byte = is_plain byte && not (byte == 10)

abbrev AreFigures : List ℕ → Type 0
AreFigures text = list_all is_figure text ≡ true

-- where the rest is of such bytes, the whole text is
abbrev IsRest : (t rest : List ℕ) → Type 0
IsRest t rest = AreFigures rest → AreFigures t

one_less : (t : List ℕ) → is_figure (head t) ≡ true → IsRest t (drop 1 t)
one_less [] first plain = plain
one_less (x ∷ xs) first plain = ap₂ (λ a b. a && b) first plain

is_known : (h c : ℕ) → is_figure c ≡ true → (h == c) ≡ true → is_figure h ≡ true
is_known h c plain e = ap is_figure (eqb-true h c e) ∙ plain

either_known : (h b c : ℕ) → is_figure b ≡ true → is_figure c ≡ true → ((h == b) || (h == c)) ≡ true → is_figure h ≡ true
either_known h b c first second e = ⊎_elim (λ yes. is_known h b first yes) (λ yes. is_known h c second yes) (or_cases (h == b) (h == c) e)

-- one byte less or none, by a test
may_skip : (t : List ℕ) (b : Bool) → (b ≡ true → is_figure (head t) ≡ true) → IsRest t (cond b (drop 1 t) t)
may_skip t true first = one_less t (first refl)
may_skip t false first = λ plain. plain

digit_plain : (x : ℕ) → is_ascii_digit x ≡ true → is_figure x ≡ true
digit_plain x e =
    let range = and_parts (nat_le 48 x) (nat_le x 57) e in
    let low = leb-true 48 x range.0 in
    let high = leb-true x 57 range.1 in
    rw (lt-ltb x 128 (omega arith), ne_eqb x 60 (λ i. omega arith), ne_eqb x 62 (λ i. omega arith), ne_eqb x 38 (λ i. omega arith), ne_eqb x 226 (λ i. omega arith), ne_eqb x 10 (λ i. omega arith)) refl

behind_digits : (t : List ℕ) → IsRest t (drop (prefix_len is_ascii_digit t) t)
behind_digits [] = λ plain. plain
behind_digits (x ∷ xs) = at (is_ascii_digit x) refl (prefix_len is_ascii_digit xs) (behind_digits xs)
  where
    at : (b : Bool) → is_ascii_digit x ≡ b → (n : ℕ) → IsRest xs (drop n xs) → IsRest (x ∷ xs) (drop (cond b (1 + n) 0) (x ∷ xs))
    at false is n rest = λ plain. plain
    at true is n rest =
        let e : suc n ≡ 1 + n = omega arith in
        subst (λ (k : ℕ). IsRest (x ∷ xs) (drop k (x ∷ xs))) e (λ plain. ap₂ (λ a b. a && b) (digit_plain x is) (rest plain))

digits : (t : List ℕ) → IfSome (after_digits t) (IsRest t)
digits t = at (prefix_len is_ascii_digit t == 0)
  where
    at : (b : Bool) → IfSome (cond b None (Some (drop (prefix_len is_ascii_digit t) t))) (IsRest t)
    at true = tt
    at false = behind_digits t

after : (t u : List ℕ) (o : Option (List ℕ)) → IsRest t u → IfSome o (IsRest u) → IfSome o (IsRest t)
after t u None one other = tt
after t u (Some v) one other = λ plain. one (other plain)

whole : (t : List ℕ) → IfSome (after_whole t) (IsRest t)
whole t = at (head t == 48) (λ e. is_known (head t) 48 refl e)
  where
    at : (b : Bool) → (b ≡ true → is_figure (head t) ≡ true) → IfSome (cond b (Some (drop 1 t)) (after_digits t)) (IsRest t)
    at true first = one_less t (first refl)
    at false first = digits t

fraction : (t : List ℕ) → IfSome (after_fraction t) (IsRest t)
fraction t = at (head t == 46) (λ e. is_known (head t) 46 refl e)
  where
    at : (b : Bool) → (b ≡ true → is_figure (head t) ≡ true) → IfSome (cond b (after_digits (drop 1 t)) (Some t)) (IsRest t)
    at true first = after t (drop 1 t) (after_digits (drop 1 t)) (one_less t (first refl)) (digits (drop 1 t))
    at false first = λ plain. plain

signed : (t : List ℕ) → IfSome (after_digits (after_sign t)) (IsRest t)
signed t =
    after t (after_sign t) (after_digits (after_sign t)) (may_skip t ((head t == 45) || (head t == 43)) (λ e. either_known (head t) 45 43 refl refl e)) (digits (after_sign t))

exponent : (t : List ℕ) → IfSome (after_exponent t) (IsRest t)
exponent t = at ((head t == 101) || (head t == 69)) (λ e. either_known (head t) 101 69 refl refl e)
  where
    at : (b : Bool) → (b ≡ true → is_figure (head t) ≡ true) → IfSome (cond b (after_digits (after_sign (drop 1 t))) (Some t)) (IsRest t)
    at true first = after t (drop 1 t) (after_digits (after_sign (drop 1 t))) (one_less t (first refl)) (signed (drop 1 t))
    at false first = λ plain. plain

then : (f : List ℕ → Option (List ℕ)) (t : List ℕ) (o : Option (List ℕ)) → ((u : List ℕ) → IfSome (f u) (IsRest u)) → IfSome o (IsRest t) → IfSome (option_and_then f o) (IsRest t)
then f t None step h = tt
then f t (Some u) step h = after t u (f u) h (step u)

number_rest : (t : List ℕ) → IfSome (after_number t) (IsRest t)
unfolding after_number
number_rest t =
    then after_exponent t (option_and_then after_fraction (after_whole (after_minus t))) exponent
    (then after_fraction t (after_whole (after_minus t)) fraction
    (after t (after_minus t) (after_whole (after_minus t)) (may_skip t (head t == 45) (λ e. is_known (head t) 45 refl e)) (whole (after_minus t))))

number_figures : (s : List ℕ) → IsNumber s → AreFigures s
number_figures s is = is_given (IsRest s) (after_number s) [] (number_rest s) is refl

pub number_plain : (s : List ℕ) → IsNumber s → IsPlain s
number_plain s is = all_plain s (number_figures s is)
  where
    all_plain : (t : List ℕ) → AreFigures t → IsPlain t
    all_plain [] h = refl
    all_plain (x ∷ xs) h =
        let both = and_parts (is_figure x) (list_all is_figure xs) h in
        ap₂ (λ a b. a && b) (and_parts (is_plain x) (not (x == 10)) both.0).0 (all_plain xs both.1)

pub number_feeds : (s : List ℕ) → IsNumber s → line_feeds s ≡ 0
number_feeds s is = none s (number_figures s is)
  where
    none : (t : List ℕ) → AreFigures t → line_feeds t ≡ 0
    none [] h = refl
    none (x ∷ xs) h =
        let both = and_parts (is_figure x) (list_all is_figure xs) h in
        let other : (x == 10) ≡ false = not-true (x == 10) (and_parts (is_plain x) (not (x == 10)) both.0).1 in
        let here : cond {A = ℕ} (x == 10) 1 0 ≡ 0 = ap (λ (b : Bool). cond b 1 0) other in
        let all = sum_by-cons (λ byte. cond (byte == 10) 1 0) x xs in
        let rest = none xs both.1 in
        omega arith
