-- Where the last `(` of a name is, and the first `)`.
use Rattle.std.proofs.Common.{◌≡◌, ◌≤◌, ◌+◌, ◌-◌, ℕ, List, length, get_or, not, true, false, eqb, Option, Some, None, sym, ap, ◌∙◌, ⊎_elim, arith}
use Rattle.std.specs.Prelude.{unwrap_or}
use Rattle.std.specs.List.{position_or_len, suffix_len}
use Rattle.std.specs.Str.{IsCharBoundary, IsUtf8}
use Rattle.std.proofs.lemmas.Bool.{cases_Bool}
use Rattle.std.proofs.lemmas.Bool.Decides.{Decides-eqb}
use Rattle.std.proofs.lemmas.List.Sums.{prefix_len_is, suffix_len_is}
use Rattle.std.proofs.lemmas.Str.{IsCharBoundary-before_ascii, IsCharBoundary-start}
use Rattle.memchr.specs.Find.{IsFirstByte, IsLastByte, is_byte}
use Rattle.input_graph.specs.StepNodes.{last_opening}

not_opening : (byte : ℕ) → (eqb byte 40 ≡ true → ⊥) → not (eqb byte 40) ≡ true
not_opening byte differs = ⊎_elim (λ (yes : eqb byte 40 ≡ true). absurd (differs yes)) (λ (other : eqb byte 40 ≡ false). ap not other) (cases_Bool (eqb byte 40))

pub opening_is : (name : List ℕ) (r : Option ℕ) → IsLastByte (is_byte 40) name r → unwrap_or r 0 ≡ last_opening name
opening_is name None nowhere =
    let size : suffix_len (λ byte. not (eqb byte 40)) name ≡ length name - 0 =
    suffix_len_is (λ byte. not (eqb byte 40)) name 0 0 (omega arith) (λ k low high. not_opening (get_or name k 0) (nowhere k (omega arith) high)) (λ some. absurd (omega (arith, some))) in
    omega (arith, size)
opening_is name (Some place) last =
    let inside = last.0.high in
    let size : suffix_len (λ byte. not (eqb byte 40)) name ≡ length name - (place + 1) =
    suffix_len_is (λ byte. not (eqb byte 40)) name (place + 1) 0 (omega (arith, inside)) (λ k low high. not_opening (get_or name k 0) (last.0.after k low high))
    (λ some. let same : place + 1 - 1 ≡ place = omega arith in ap (λ (k : ℕ). not (eqb (get_or name k 0) 40)) same ∙ ap not last.1) in
    omega (arith, size, inside)

pub opening_boundary : (name : List ℕ) (r : Option ℕ) → IsUtf8 name → IsLastByte (is_byte 40) name r → IsCharBoundary name (unwrap_or r 0)
opening_boundary name None text nowhere = IsCharBoundary-start name text
opening_boundary name (Some place) text last =
    let is : get_or name place 0 ≡ 40 = (Decides-eqb (get_or name place 0) 40).0 last.1 in
    IsCharBoundary-before_ascii name place last.0.high (omega (arith, is))

not_closing : (byte : ℕ) → (eqb byte 41 ≡ true → ⊥) → not (eqb byte 41) ≡ true
not_closing byte differs = ⊎_elim (λ (yes : eqb byte 41 ≡ true). absurd (differs yes)) (λ (other : eqb byte 41 ≡ false). ap not other) (cases_Bool (eqb byte 41))

pub closing_is : (bytes : List ℕ) (r : Option ℕ) → IsFirstByte (is_byte 41) bytes r → unwrap_or r (length bytes) ≡ position_or_len (λ byte. eqb byte 41) bytes
closing_is bytes None nowhere =
    sym (prefix_len_is (λ byte. not (eqb byte 41)) bytes (length bytes) 0 (omega arith) (λ k high. not_closing (get_or bytes k 0) (nowhere k (omega arith) high)) (λ past. absurd (omega (arith, past))))
closing_is bytes (Some place) first =
    let inside = first.0.high in
    sym (prefix_len_is (λ byte. not (eqb byte 41)) bytes place 0 (omega (arith, inside)) (λ k high. not_closing (get_or bytes k 0) (first.0.before k (omega arith) high)) (λ within. ap not first.1))

pub closing_within : (bytes : List ℕ) (r : Option ℕ) → IsFirstByte (is_byte 41) bytes r → unwrap_or r (length bytes) ≤ length bytes
closing_within bytes None nowhere = omega arith
closing_within bytes (Some place) first = let inside = first.0.high in omega (arith, inside)
