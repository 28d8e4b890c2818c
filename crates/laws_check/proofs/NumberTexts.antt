-- The text of a number is ASCII: a minus, digits, a point, an exponent.
use Rattle.std.proofs.Common.{◌≡◌, ℕ, suc, ◌+◌, ◌-◌, ◌<◌, ◌==◌, List, [], ◌∷◌, ◌++◌, IsUtf8, append_assoc, cond, drop, length, length-append, take, Bool, true, false, Option, Some, None, refl, sym, ap, ◌∙◌, subst, ⊎_elim, arith}
use Rattle.std.specs.Prelude.{◌&&◌, ◌||◌, IfSome, nat_le, option_and_then}
use Rattle.std.specs.List.{prefix_len}
use Rattle.std.specs.Char.{is_ascii_digit}
use Rattle.std.proofs.Math.Seq.{take-append_seam}
use Rattle.std.proofs.lemmas.Bool.{and_parts, eqb-true, leb-true, lt-ltb, or_cases}
use Rattle.std.proofs.lemmas.Str.{IsUtf8-append, IsUtf8-nil}
use Rattle.json.specs.Word.{after_digits, after_exponent, after_fraction, after_minus, after_number, after_sign, after_whole, head}
use Rattle.json.proofs.Printed.Utf8.{IsUtf8-are_ascii}

-- the rest of a text after some ASCII bytes
abbrev pub IsRest : (t rest : List ℕ) → Type 0
IsRest t rest = (p : List ℕ) × (t ≡ p ++ rest) × IsUtf8 p

one_ascii : (x : ℕ) → x < 128 → IsUtf8 (x ∷ [])
one_ascii x low = IsUtf8-are_ascii (x ∷ []) (ap (λ (b : Bool). b && true) (lt-ltb x 128 low))

all_left : (t : List ℕ) → IsRest t t
all_left t = ([], refl, IsUtf8-nil)

further : (t u v : List ℕ) → IsRest t u → IsRest u v → IsRest t v
further t u v one other = (one.0 ++ other.0, one.1 ∙ ap (λ (l : List ℕ). one.0 ++ l) other.1 ∙ sym (append_assoc one.0 other.0 v), IsUtf8-append one.0 other.0 one.2 other.2)

one_less : (t : List ℕ) → head t < 128 → IsRest t (drop 1 t)
one_less [] low = all_left []
one_less (x ∷ xs) low = (x ∷ [], refl, one_ascii x low)

is_low : (h c : ℕ) → c < 128 → (h == c) ≡ true → h < 128
is_low h c low e = let is : h ≡ c = eqb-true h c e in omega arith

either_low : (h b c : ℕ) → b < 128 → c < 128 → ((h == b) || (h == c)) ≡ true → h < 128
either_low h b c first second e = ⊎_elim (λ yes. is_low h b first yes) (λ yes. is_low h c second yes) (or_cases (h == b) (h == c) e)

-- one byte less or none, by a test
may_skip : (t : List ℕ) (b : Bool) → (b ≡ true → head t < 128) → IsRest t (cond b (drop 1 t) t)
may_skip t true low = one_less t (low refl)
may_skip t false low = all_left t

digit_low : (x : ℕ) → is_ascii_digit x ≡ true → x < 128
digit_low x e = omega (arith, leb-true x 57 (and_parts (nat_le 48 x) (nat_le x 57) e).1)

behind_digits : (t : List ℕ) → IsRest t (drop (prefix_len is_ascii_digit t) t)
behind_digits [] = all_left []
behind_digits (x ∷ xs) = at (is_ascii_digit x) refl (prefix_len is_ascii_digit xs) (behind_digits xs)
  where
    at : (b : Bool) → is_ascii_digit x ≡ b → (n : ℕ) → IsRest xs (drop n xs) → IsRest (x ∷ xs) (drop (cond b (1 + n) 0) (x ∷ xs))
    at false is n rest = all_left (x ∷ xs)
    at true is n rest =
        let e : suc n ≡ 1 + n = omega arith in
        subst (λ (k : ℕ). IsRest (x ∷ xs) (drop k (x ∷ xs))) e (further (x ∷ xs) xs (drop n xs) (x ∷ [], refl, one_ascii x (digit_low x is)) rest)

digits : (t : List ℕ) → IfSome (after_digits t) (IsRest t)
digits t = at (prefix_len is_ascii_digit t == 0)
  where
    at : (b : Bool) → IfSome (cond b None (Some (drop (prefix_len is_ascii_digit t) t))) (IsRest t)
    at true = tt
    at false = behind_digits t

after : (t u : List ℕ) (o : Option (List ℕ)) → IsRest t u → IfSome o (IsRest u) → IfSome o (IsRest t)
after t u None one other = tt
after t u (Some v) one other = further t u v one other

whole : (t : List ℕ) → IfSome (after_whole t) (IsRest t)
whole t = at (head t == 48) (λ e. is_low (head t) 48 (omega arith) e)
  where
    at : (b : Bool) → (b ≡ true → head t < 128) → IfSome (cond b (Some (drop 1 t)) (after_digits t)) (IsRest t)
    at true low = one_less t (low refl)
    at false low = digits t

fraction : (t : List ℕ) → IfSome (after_fraction t) (IsRest t)
fraction t = at (head t == 46) (λ e. is_low (head t) 46 (omega arith) e)
  where
    at : (b : Bool) → (b ≡ true → head t < 128) → IfSome (cond b (after_digits (drop 1 t)) (Some t)) (IsRest t)
    at true low = after t (drop 1 t) (after_digits (drop 1 t)) (one_less t (low refl)) (digits (drop 1 t))
    at false low = all_left t

signed : (t : List ℕ) → IfSome (after_digits (after_sign t)) (IsRest t)
signed t =
    after t (after_sign t) (after_digits (after_sign t)) (may_skip t ((head t == 45) || (head t == 43)) (λ e. either_low (head t) 45 43 (omega arith) (omega arith) e)) (digits (after_sign t))

exponent : (t : List ℕ) → IfSome (after_exponent t) (IsRest t)
exponent t = at ((head t == 101) || (head t == 69)) (λ e. either_low (head t) 101 69 (omega arith) (omega arith) e)
  where
    at : (b : Bool) → (b ≡ true → head t < 128) → IfSome (cond b (after_digits (after_sign (drop 1 t))) (Some t)) (IsRest t)
    at true low = after t (drop 1 t) (after_digits (after_sign (drop 1 t))) (one_less t (low refl)) (signed (drop 1 t))
    at false low = all_left t

then : (f : List ℕ → Option (List ℕ)) (t : List ℕ) (o : Option (List ℕ)) → ((u : List ℕ) → IfSome (f u) (IsRest u)) → IfSome o (IsRest t) → IfSome (option_and_then f o) (IsRest t)
then f t None step h = tt
then f t (Some u) step h = after t u (f u) h (step u)

-- the rest of a text after a number
pub number_rest : (t : List ℕ) → IfSome (after_number t) (IsRest t)
unfolding after_number
number_rest t =
    then after_exponent t (option_and_then after_fraction (after_whole (after_minus t))) exponent
    (then after_fraction t (after_whole (after_minus t)) fraction
    (after t (after_minus t) (after_whole (after_minus t)) (may_skip t (head t == 45) (λ e. is_low (head t) 45 (omega arith) e)) (whole (after_minus t))))

-- and what stands before it
pub before_rest : (t rest : List ℕ) → IsRest t rest → IsUtf8 (take (length t - length rest) t)
before_rest t rest left =
    let sum : length t ≡ length left.0 + length rest = ap length left.1 ∙ length-append left.0 rest in
    let cut : length t - length rest ≡ length left.0 = omega arith in
    subst IsUtf8 (sym (ap (λ (n : ℕ). take n t) cut ∙ ap (λ (l : List ℕ). take (length left.0) l) left.1 ∙ take-append_seam left.0 rest)) left.2
