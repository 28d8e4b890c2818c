-- Bytes before a line feed.
use Rattle.std.proofs.Common.{◌≡◌, ◌≢◌, ◌+◌, ◌<◌, ◌≤◌, ℕ, zero, suc, List, [], ◌∷◌, ◌++◌, All, Some, length, take, get_or, refl, ap, ◌∙◌, arith, add-one}
use Rattle.std.proofs.lemmas.List.{take_more}
use Rattle.std.proofs.lemmas.List.Elements.{All-more, All-nil}
use Rattle.std.proofs.lemmas.Option.{get_or_from_slice_get}
use Rattle.std.specs.Prelude.{slice_get}
use Rattle.memchr.specs.Find.{Nowhere, Passes, is_byte}

-- where a search finds no line feed
pub before_feed : (bytes : List ℕ) (k : ℕ) → k ≤ length bytes → Nowhere (Passes (is_byte 10) bytes) 0 k → All (λ byte. byte ≢ 10) (take k bytes)
before_feed bytes zero within none = All-nil (λ byte. byte ≢ 10)
before_feed bytes (suc k) within none =
    let earlier = before_feed bytes k (omega (arith, within)) (λ i low below. none i low (omega (arith, below))) in
    let differs : get_or bytes k 0 ≢ 10 = λ is. none k (omega arith) (omega arith) (rw is refl) in
    rw (add-one) at (All-more (λ byte. byte ≢ 10) bytes k 0 (omega (arith, within)) earlier differs)

-- what stands before a line feed, and the feed
pub through_feed : (bytes : List ℕ) (k : ℕ) → k < length bytes → slice_get bytes k ≡ Some 10 → take (k + 1) bytes ≡ take k bytes ++ 10 ∷ []
through_feed bytes k below feed = take_more bytes k 0 below ∙ ap (λ (byte : ℕ). take k bytes ++ byte ∷ []) (get_or_from_slice_get bytes k 10 0 feed)
