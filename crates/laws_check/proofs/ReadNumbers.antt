-- A number that was read and is an integer fits 64 bits.
use Rattle.std.proofs.Common.{◌≡◌, ℕ, zero, suc, ◌<◌, ◌≤◌, ◌^◌, ◌==◌, List, cond, drop, Bool, true, false, nat_lt, Option, Some, None, refl, arith}
use Rattle.std.specs.Prelude.{◌&&◌, nat_le, slice_index, pos, negsuc, ⊤, IfSome}
use Rattle.std.specs.Float.{binary64, float_is_finite}
use Rattle.std.proofs.lemmas.Bool.{and_parts, leb-true, ltb-true}
use Rattle.fast_float.specs.Text.{minus, Parts, digits_of, nearest, scan, with_sign}
use Rattle.serde_json.specs.Data.{Num, unsigned, negative, float}
use Rattle.serde_json.specs.Read.{float_of, is_integer, number_from, number_of}

abbrev pub IsOfBits : Num → Type 0
IsOfBits (unsigned n) = n < 2 ^ 64
IsOfBits (negative (pos n)) = ⊥
IsOfBits (negative (negsuc n)) = n < 2 ^ 63
IsOfBits (float x) = ⊤

signed_fits : (n : ℕ) → 0 < n → n ≤ 2 ^ 63 → IsOfBits (negative (with_sign true n))
signed_fits zero some few = absurd (omega arith)
signed_fits (suc n) some few = omega arith

guarded : (b : Bool) (n : Num) (o : Option Num) → (b ≡ true → IsOfBits n) → IfSome o IsOfBits → IfSome (cond b (Some n) o) IsOfBits
guarded true n o here there = here refl
guarded false n o here there = there

float_fits : (sign : Bool) (p : Parts) → IfSome (float_of sign p) IsOfBits
float_fits sign p = guarded (float_is_finite (nearest binary64 sign p)) (float (nearest binary64 sign p)) None (λ e. tt) tt

from_fits : (sign : Bool) (p : Parts) → IfSome (number_from sign p) IsOfBits
from_fits false p =
    guarded (is_integer p && nat_lt (digits_of p) (2 ^ 64)) (unsigned (digits_of p)) (float_of false p)
    (λ e. ltb-true (digits_of p) (2 ^ 64) (and_parts (is_integer p) (nat_lt (digits_of p) (2 ^ 64)) e).1) (float_fits false p)
from_fits true p =
    guarded (is_integer p && nat_lt 0 (digits_of p) && nat_le (digits_of p) (2 ^ 63)) (negative (with_sign true (digits_of p))) (float_of true p)
    (λ e. let parts = and_parts (is_integer p && nat_lt 0 (digits_of p)) (nat_le (digits_of p) (2 ^ 63)) e in
    signed_fits (digits_of p) (ltb-true 0 (digits_of p) (and_parts (is_integer p) (nat_lt 0 (digits_of p)) parts.0).1) (leb-true (digits_of p) (2 ^ 63) parts.1))
    (float_fits true p)

pub number_fits : (s : List ℕ) → IfSome (number_of s) IsOfBits
unfolding number_of
number_fits s = of_test (slice_index s 0 == minus)
  where
    of_test : (b : Bool) → IfSome (cond b (number_from true (scan (drop 1 s))) (number_from false (scan s))) IsOfBits
    of_test true = from_fits true (scan (drop 1 s))
    of_test false = from_fits false (scan s)
