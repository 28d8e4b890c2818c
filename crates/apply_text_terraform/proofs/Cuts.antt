-- Cutting a text before escaping. The escapes of both parts give the escapes of the whole, unless
-- the cut lies within a character.
use Rattle.std.proofs.Common.{◌≡◌, ℕ, ◌<◌, ◌≤◌, ◌==◌, ◌⊎◌, inl, inr, List, [], ◌∷◌, ◌++◌, codes, cond, drop, Bool, true, false, nat_lt, refl, sym, ap, ap₂, ◌∙◌, append_assoc, arith, ltb-true}
use Rattle.std.specs.Prelude.{◌&&◌, ◌||◌, not, slice_index}
use Rattle.std.specs.List.{list_all}
use Rattle.std.proofs.lemmas.Bool.{and_parts, ne_eqb}
use Rattle.std.proofs.lemmas.List.Folds.{list_all-append}
use Rattle.apply_text_terraform.specs.Escapes.{begins_with, escaped, escaped_onto, is_special}

-- the text does not begin with a byte that continues a character
abbrev pub Begins : List ℕ → Type 0
Begins [] = Unit {0}
Begins (byte ∷ bytes) = (byte < 128) ⊎ (192 ≤ byte)

other : (byte second : ℕ) → (byte < 128) ⊎ (192 ≤ byte) → 128 ≤ second → second < 192 → (byte == second) ≡ false
other byte second (inl low) least most = ne_eqb byte second (λ e. omega (arith, e))
other byte second (inr high) least most = ne_eqb byte second (λ e. omega (arith, e))

not_first : (text : List ℕ) (second : ℕ) → Begins text → 128 ≤ second → second < 192 → (slice_index text 0 == second) ≡ false
not_first [] second begins least most = ne_eqb 0 second (λ e. omega (arith, e))
not_first (byte ∷ bytes) second begins least most = other byte second begins least most

begins_still : (text : List ℕ) → Begins text → Begins (escaped text)
begins_still [] begins = tt
begins_still (byte ∷ bytes) begins = of_tests (byte == 60) (byte == 62) (byte == 38) ((byte == 226) && begins_with 128 168 (escaped bytes)) ((byte == 226) && begins_with 128 169 (escaped bytes))
  where
    of_tests : (a b c d e : Bool)
        → Begins (cond a (codes "\\u003c" ++ escaped bytes) (cond b (codes "\\u003e" ++ escaped bytes) (cond c (codes "\\u0026" ++ escaped bytes) (cond d (codes "\\u2028" ++ drop 2 (escaped bytes)) (cond e (codes "\\u2029" ++ drop 2 (escaped bytes)) (byte ∷ escaped bytes))))))
    of_tests true b c d e = inl (omega arith)
    of_tests false true c d e = inl (omega arith)
    of_tests false false true d e = inl (omega arith)
    of_tests false false false true e = inl (omega arith)
    of_tests false false false false true = inl (omega arith)
    of_tests false false false false false = begins

-- whether a separator follows depends on the first part only
seen : (second : ℕ) (u v : List ℕ) → Begins v → 128 ≤ second → second < 192 → begins_with 128 second (u ++ v) ≡ begins_with 128 second u
seen second [] v begins least most = ap (λ t. t && (slice_index v 1 == second)) (not_first v 128 begins (omega arith) (omega arith))
seen second (x ∷ []) v begins least most = ap (λ t. (x == 128) && t) (not_first v second begins least most ∙ sym (ne_eqb 0 second (λ e. omega (arith, e, least))))
seen second (x ∷ y ∷ u) v begins least most = refl

never : (p q : Bool) → q ≡ false → (p && q) ≡ true → ⊥
never true q h e = absurd cc
never false q h e = absurd cc

dropped : (second : ℕ) (u v : List ℕ) → 128 ≤ second → begins_with 128 second u ≡ true → drop 2 (u ++ v) ≡ drop 2 u ++ v
dropped second [] v least e = absurd cc
dropped second (x ∷ []) v least e = absurd (never (x == 128) (0 == second) (ne_eqb 0 second (λ z. omega (arith, z, least))) e)
dropped second (x ∷ y ∷ u) v least e = refl

-- puts a byte before both parts
byte_before : (byte : ℕ) (u v : List ℕ) → Begins v → escaped_onto byte (u ++ v) ≡ escaped_onto byte u ++ v
byte_before byte u v begins =
    ap₂ (λ d e. cond (byte == 60) (codes "\\u003c" ++ (u ++ v)) (cond (byte == 62) (codes "\\u003e" ++ (u ++ v)) (cond (byte == 38) (codes "\\u0026" ++ (u ++ v)) (cond ((byte == 226) && d) (codes "\\u2028" ++ drop 2 (u ++ v)) (cond ((byte == 226) && e) (codes "\\u2029" ++ drop 2 (u ++ v)) (byte ∷ (u ++ v)))))))
    (seen 168 u v begins (omega arith) (omega arith)) (seen 169 u v begins (omega arith) (omega arith))
    ∙ of_tests (byte == 60) (byte == 62) (byte == 38) (byte == 226) (begins_with 128 168 u) (begins_with 128 169 u) refl refl
  where
    of_tests : (a b c p d e : Bool) → begins_with 128 168 u ≡ d → begins_with 128 169 u ≡ e
        → cond a (codes "\\u003c" ++ (u ++ v)) (cond b (codes "\\u003e" ++ (u ++ v)) (cond c (codes "\\u0026" ++ (u ++ v)) (cond (p && d) (codes "\\u2028" ++ drop 2 (u ++ v)) (cond (p && e) (codes "\\u2029" ++ drop 2 (u ++ v)) (byte ∷ (u ++ v))))))
        ≡ cond a (codes "\\u003c" ++ u) (cond b (codes "\\u003e" ++ u) (cond c (codes "\\u0026" ++ u) (cond (p && d) (codes "\\u2028" ++ drop 2 u) (cond (p && e) (codes "\\u2029" ++ drop 2 u) (byte ∷ u))))) ++ v
    of_tests true b c p d e at_d at_e = refl
    of_tests false true c p d e at_d at_e = refl
    of_tests false false true p d e at_d at_e = refl
    of_tests false false false true true e at_d at_e = ap (λ t. codes "\\u2028" ++ t) (dropped 168 u v (omega arith) at_d)
    of_tests false false false true false true at_d at_e = ap (λ t. codes "\\u2029" ++ t) (dropped 169 u v (omega arith) at_e)
    of_tests false false false true false false at_d at_e = refl
    of_tests false false false false d e at_d at_e = refl

pub cut : (a b : List ℕ) → Begins b → escaped (a ++ b) ≡ escaped a ++ escaped b
cut [] b begins = refl
cut (byte ∷ a) b begins = ap (escaped_onto byte) (cut a b begins) ∙ byte_before byte (escaped a) (escaped b) (begins_still b begins)

-- ---- texts without escapes, between which a text may be cut

abbrev pub is_plain : ℕ → Bool
is_plain byte = nat_lt byte 128 && not (is_special byte)

abbrev pub IsPlain : List ℕ → Type 0
IsPlain text = list_all is_plain text ≡ true

pub both_plain : (xs ys : List ℕ) → IsPlain xs → IsPlain ys → IsPlain (xs ++ ys)
both_plain xs ys first second = list_all-append is_plain xs ys ∙ ap₂ (λ a b. a && b) first second

stays : (byte : ℕ) (text : List ℕ) → is_plain byte ≡ true → escaped_onto byte text ≡ byte ∷ text
stays byte text plain = of_tests (byte == 60) (byte == 62) (byte == 38) (byte == 226) (begins_with 128 168 text) (begins_with 128 169 text) (and_parts _ _ plain).1
  where
    of_tests : (a b c d e f : Bool) → not (a || b || c || d) ≡ true
        → cond a (codes "\\u003c" ++ text) (cond b (codes "\\u003e" ++ text) (cond c (codes "\\u0026" ++ text) (cond (d && e) (codes "\\u2028" ++ drop 2 text) (cond (d && f) (codes "\\u2029" ++ drop 2 text) (byte ∷ text))))) ≡ byte ∷ text
    of_tests true b c d e f h = absurd cc
    of_tests false true c d e f h = absurd cc
    of_tests false false true d e f h = absurd cc
    of_tests false false false true e f h = absurd cc
    of_tests false false false false e f h = refl

pub plain_then : (xs rest : List ℕ) → IsPlain xs → escaped (xs ++ rest) ≡ xs ++ escaped rest
plain_then [] rest plain = refl
plain_then (byte ∷ xs) rest plain =
    let parts = and_parts _ _ plain in
    stays byte (escaped (xs ++ rest)) parts.0 ∙ ap (λ t. byte ∷ t) (plain_then xs rest parts.1)

pub plain_whole : (xs : List ℕ) → IsPlain xs → escaped xs ≡ xs
plain_whole [] plain = refl
plain_whole (byte ∷ xs) plain =
    let parts = and_parts _ _ plain in
    stays byte (escaped xs) parts.0 ∙ ap (λ t. byte ∷ t) (plain_whole xs parts.1)

pub plain_begins : (xs ys : List ℕ) → IsPlain xs → Begins ys → Begins (xs ++ ys)
plain_begins [] ys plain begins = begins
plain_begins (byte ∷ xs) ys plain begins = inl (ltb-true _ _ (and_parts _ _ (and_parts _ _ plain).0).0)

pub plain_starts : (xs : List ℕ) → IsPlain xs → Begins xs
plain_starts [] plain = tt
plain_starts (byte ∷ xs) plain = inl (ltb-true _ _ (and_parts _ _ (and_parts _ _ plain).0).0)

pub both_begin : (xs ys : List ℕ) → Begins xs → Begins ys → Begins (xs ++ ys)
both_begin [] ys first second = second
both_begin (byte ∷ xs) ys first second = first

in_a_row : (f e m d t rest : List ℕ) → ((f ++ (e ++ m)) ++ (d ++ t)) ++ rest ≡ f ++ ((e ++ (m ++ (d ++ t))) ++ rest)
in_a_row f e m d t rest = simp append_assoc

-- of seven texts in a row, two may need escapes
pub two_of_seven : (f e m d t b s z : List ℕ) → IsPlain e → IsPlain m → IsPlain d → IsPlain t → IsPlain s → IsPlain z → Begins (b ++ (s ++ z))
    → escaped (((f ++ (e ++ m)) ++ (d ++ t)) ++ (b ++ (s ++ z))) ≡ ((escaped f ++ (e ++ m)) ++ (d ++ t)) ++ (escaped b ++ (s ++ z))
two_of_seven f e m d t b s z pe pm pd pt ps pz begins =
    let plain = e ++ (m ++ (d ++ t)) in
    let all : IsPlain plain = both_plain e (m ++ (d ++ t)) pe (both_plain m (d ++ t) pm (both_plain d t pd pt)) in
    let last : IsPlain (s ++ z) = both_plain s z ps pz in
    let rest = b ++ (s ++ z) in
    ap escaped (in_a_row f e m d t rest)
    ∙ cut f (plain ++ rest) (plain_begins plain rest all begins)
    ∙ ap (λ x. escaped f ++ x) (plain_then plain rest all ∙ ap (λ x. plain ++ x) (cut b (s ++ z) (plain_starts (s ++ z) last) ∙ ap (λ x. escaped b ++ x) (plain_whole (s ++ z) last)))
    ∙ sym (in_a_row (escaped f) e m d t (escaped b ++ (s ++ z)))
