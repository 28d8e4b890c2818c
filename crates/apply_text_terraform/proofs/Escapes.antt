-- What escapes do to a text, byte by byte.
use Rattle.std.proofs.Common.{◌≡◌, ℕ, zero, suc, ◌+◌, ◌-◌, ◌≤◌, ◌==◌, List, [], ◌∷◌, ◌++◌, Bool, true, false, drop, length, take, refl, sym, ap, ap₂, ◌∙◌, append_assoc, arith}
use Rattle.std.specs.Prelude.{◌||◌}
use Rattle.std.proofs.Math.Seq.{take-length}
use Rattle.std.proofs.lemmas.List.{drop-drop, length-drop, length-take-le, take-take}
use Rattle.std.specs.List.{list_any}
use Rattle.memchr.specs.Find.{Nowhere, Passes, is_byte, is_byte3}
use Rattle.apply_text_terraform.specs.Escapes.{escaped, is_special}

-- a text in whose front no byte is the begin of something with an escape
pub plain_front : (k : ℕ) (text : List ℕ) → list_any is_special (take k text) ≡ false → escaped text ≡ take k text ++ escaped (drop k text)
plain_front zero text none = refl
plain_front (suc k) [] none = refl
plain_front (suc k) (byte ∷ bytes) none = of_tests (byte == 60) (byte == 62) (byte == 38) (byte == 226) refl refl refl refl (plain_front k bytes) none
  where
    of_tests : (a b c d : Bool) → (byte == 60) ≡ a → (byte == 62) ≡ b → (byte == 38) ≡ c → (byte == 226) ≡ d
        → (list_any is_special (take k bytes) ≡ false → escaped bytes ≡ take k bytes ++ escaped (drop k bytes))
        → ((a || b || c || d) || list_any is_special (take k bytes)) ≡ false → escaped (byte ∷ bytes) ≡ byte ∷ (take k bytes ++ escaped (drop k bytes))
    of_tests true b c d h60 h62 h38 h226 rest h = absurd cc
    of_tests false true c d h60 h62 h38 h226 rest h = absurd cc
    of_tests false false true d h60 h62 h38 h226 rest h = absurd cc
    of_tests false false false true h60 h62 h38 h226 rest h = absurd cc
    of_tests false false false false h60 h62 h38 h226 rest h = rw (h60, h62, h38, h226) (ap (λ t. byte ∷ t) (rest h))

-- ---- searches

-- where a search finds nothing
pub none_before : (test : ℕ → Bool) (k : ℕ) (text : List ℕ) → Nowhere (Passes test text) 0 k → k ≤ length text → list_any test (take k text) ≡ false
none_before test zero text none within = refl
none_before test (suc k) [] none within = refl
none_before test (suc k) (byte ∷ bytes) none within =
    of_test (test byte) refl (none_before test k bytes (λ i low below. none (suc i) (omega arith) (omega (arith, below))) (omega (arith, within)))
  where
    of_test : (b : Bool) → test byte ≡ b → list_any test (take k bytes) ≡ false → (test byte || list_any test (take k bytes)) ≡ false
    of_test true is rest = absurd (none 0 (omega arith) (omega arith) is)
    of_test false is rest = rw is rest

or_false : (a b : Bool) → (a || b) ≡ false → (a ≡ false) × (b ≡ false)
or_false true b e = absurd cc
or_false false b e = (refl, e)

none_in_front : (test : ℕ → Bool) (k : ℕ) (text : List ℕ) → list_any test text ≡ false → list_any test (take k text) ≡ false
none_in_front test zero text none = refl
none_in_front test (suc k) [] none = refl
none_in_front test (suc k) (byte ∷ bytes) none =
    let parts = or_false (test byte) (list_any test bytes) none in
    ap₂ (λ a b. a || b) parts.0 (none_in_front test k bytes parts.1)

neither : (text : List ℕ) → list_any (is_byte3 60 62 38) text ≡ false → list_any (is_byte 226) text ≡ false → list_any is_special text ≡ false
neither [] brackets separators = refl
neither (byte ∷ bytes) brackets separators =
    let first = or_false (is_byte3 60 62 38 byte) (list_any (is_byte3 60 62 38) bytes) brackets in
    let second = or_false (is_byte 226 byte) (list_any (is_byte 226) bytes) separators in
    ap₂ (λ a b. a || b) (of_tests (byte == 60) (byte == 62) (byte == 38) (byte == 226) first.0 second.0) (neither bytes first.1 second.1)
  where
    of_tests : (a b c d : Bool) → (a || b || c) ≡ false → d ≡ false → (a || b || c || d) ≡ false
    of_tests true b c d h k = absurd cc
    of_tests false true c d h k = absurd cc
    of_tests false false true d h k = absurd cc
    of_tests false false false d h k = k

-- what stands before the first byte of either search
pub both_searches : (bracket separator : ℕ) (text : List ℕ) → list_any (is_byte3 60 62 38) (take bracket text) ≡ false → list_any (is_byte 226) (take separator (take bracket text)) ≡ false
    → list_any is_special (take separator (take bracket text)) ≡ false
both_searches bracket separator text brackets separators = neither (take separator (take bracket text)) (none_in_front (is_byte3 60 62 38) separator (take bracket text) brackets) separators

-- the first bytes of a text, and those before the match of an earlier search
pub searched_front : (size bracket separator : ℕ) (text : List ℕ) → bracket ≤ length (take size text) → separator ≤ length (take bracket (take size text)) → size ≤ length text
    → list_any is_special (take separator (take bracket (take size text))) ≡ false → list_any is_special (take separator text) ≡ false
searched_front size bracket separator text brackets separators within none =
    let a : bracket ≤ size = omega (arith, brackets, length-take-le size text within) in
    let b : separator ≤ bracket = omega (arith, separators, length-take-le bracket (take size text) brackets) in
    sym (ap (λ t. list_any is_special t) (take-take separator bracket (take size text) b ∙ take-take separator size text (omega (arith, a, b)))) ∙ none

-- ---- what was appended

-- a whole text that stands as it is
pub plain_written : (old new text : List ℕ) (plain : ℕ) → plain ≡ length text → list_any is_special (take plain text) ≡ false → new ≡ old ++ take plain text → new ++ escaped (drop plain text) ≡ old ++ escaped text
plain_written old new text plain is none grown =
    ap (λ t. t ++ escaped (drop plain text)) grown ∙ append_assoc old (take plain text) (escaped (drop plain text)) ∙ ap (λ t. old ++ t) (sym (plain_front plain text none))

to_end : (n : ℕ) (text : List ℕ) → take (length text - n) (drop n text) ≡ drop n text
to_end n text = ap (λ k. take k (drop n text)) (sym (length-drop n text)) ∙ take-length (drop n text)

-- bytes that stand as they are, and a character
pub front_written : (old mid new piece text : List ℕ) (plain size : ℕ) → list_any is_special (take plain text) ≡ false → mid ≡ old ++ take plain text → new ≡ mid ++ piece
    → piece ++ escaped (drop size (take (length text - plain) (drop plain text))) ≡ escaped (take (length text - plain) (drop plain text)) → new ++ escaped (drop (plain + size) text) ≡ old ++ escaped text
front_written old mid new piece text plain size none begun grown fields =
    let rest = escaped (drop (plain + size) text) in
    ap (λ t. t ++ rest) (grown ∙ ap (λ t. t ++ piece) begun) ∙ append_assoc (old ++ take plain text) piece rest ∙ append_assoc old (take plain text) (piece ++ rest)
    ∙ ap (λ t. old ++ t) (ap (λ t. take plain text ++ t) (ap (λ t. piece ++ escaped t) (sym (drop-drop size plain text)) ∙ ap (λ t. piece ++ escaped (drop size t)) (sym (to_end plain text)) ∙ fields ∙ ap escaped (to_end plain text)) ∙ sym (plain_front plain text none))
