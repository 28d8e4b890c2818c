-- Whole units of time, in words.
use Rattle.std.proofs.Common.{◌≡◌, ℕ, ◌*◌, ◌/◌, ◌%◌, ◌<◌, [], ◌∷◌, ◌++◌, codes, decimal, true, false, nat_lt, refl, arith, append_assoc}
use Rattle.std.proofs.lemmas.Bool.{lt-ltb, le-ltb}
use Rattle.std.proofs.lemmas.Fmt.{decimal_digit}
use Rattle.apply_text.specs.Elapsed.{elapsed_of}

pub seconds : (n : ℕ) → n < 60 → elapsed_of n ≡ decimal n ++ codes "s"
seconds n few =
    let short : nat_lt n 60 ≡ true = lt-ltb n 60 few in
    let whole : n % 60 ≡ n = omega (arith, few) in
    rw (short, whole) refl

pub minutes : (n : ℕ) → 0 < n → n < 60 → elapsed_of (n * 60) ≡ decimal n ++ codes "m0s"
minutes n some few =
    let long : nat_lt (n * 60) 60 ≡ false = le-ltb (n * 60) 60 (omega (arith, some)) in
    let short : nat_lt (n * 60) 3600 ≡ true = lt-ltb (n * 60) 3600 (omega (arith, few)) in
    let whole : n * 60 / 60 % 60 ≡ n = omega (arith, few) in
    let no_seconds : n * 60 % 60 ≡ 0 = omega arith in
    let zero : decimal 0 ≡ 48 ∷ [] = decimal_digit 0 (omega arith) in
    rw (long, short, whole, no_seconds, zero) (simp append_assoc)

pub hours : (n : ℕ) → 0 < n → elapsed_of (n * 3600) ≡ decimal n ++ codes "h0m0s"
hours n some =
    let long : nat_lt (n * 3600) 60 ≡ false = le-ltb (n * 3600) 60 (omega (arith, some)) in
    let longer : nat_lt (n * 3600) 3600 ≡ false = le-ltb (n * 3600) 3600 (omega (arith, some)) in
    let whole : n * 3600 / 3600 ≡ n = omega arith in
    let no_minutes : n * 3600 / 60 % 60 ≡ 0 = omega arith in
    let no_seconds : n * 3600 % 60 ≡ 0 = omega arith in
    let zero : decimal 0 ≡ 48 ∷ [] = decimal_digit 0 (omega arith) in
    rw (long, longer, whole, no_minutes, no_seconds, zero) (simp append_assoc)
