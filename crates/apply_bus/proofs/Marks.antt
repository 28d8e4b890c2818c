-- How many workers have the mark.
use Rattle.std.proofs.Common.{◌≡◌, ◌≢◌, ℕ, zero, suc, ◌+◌, ◌<◌, ◌≤◌, Bool, true, false, sym, ap, ◌∙◌, refl, ⊎_elim, lt_of_not-le, arith, if◌then◌else◌}
use Rattle.std.proofs.lemmas.Bool.Decides.{eqb_tells}
use Rattle.apply_bus.specs.ClaimsState.{marks}

abbrev bit : Bool → ℕ
bit b = if b then 1 else 0

bit_le : (b : Bool) → bit b ≤ 1
bit_le true = omega arith
bit_le false = omega arith

pub marks_le : (met : ℕ → Bool) (m : ℕ) → marks met m ≤ m
marks_le met zero = omega arith
marks_le met (suc m) = let h = marks_le met m in let b = bit_le (met m) in omega arith

pub marks_same : (a b : ℕ → Bool) (m : ℕ) → ((k : ℕ) → k < m → a k ≡ b k) → marks a m ≡ marks b m
marks_same a b zero h = refl
marks_same a b (suc m) h = let r : marks a m ≡ marks b m = marks_same a b m (λ k lt. h k (omega arith)) in let e : bit (a m) ≡ bit (b m) = ap bit (h m (omega arith)) in omega arith

-- one worker more has the mark
pub marks_more : (a b : ℕ → Bool) (w m : ℕ) → w < m → a w ≡ false → b w ≡ true → ((k : ℕ) → k ≢ w → a k ≡ b k) → marks b m ≡ marks a m + 1
marks_more a b w zero lt f t h = absurd (omega arith)
marks_more a b w (suc m) lt f t h = ⊎_elim
    (λ (c : _ × (w ≡ m)).
    let e = c.1 in
    let r : marks a m ≡ marks b m = marks_same a b m (λ k low. h k (λ s. omega arith)) in
    let x : bit (a m) ≡ 0 = ap (λ k. bit (a k)) (sym e) ∙ ap bit f in
    let y : bit (b m) ≡ 1 = ap (λ k. bit (b k)) (sym e) ∙ ap bit t in omega arith)
    (λ (c : _ × (w ≢ m)).
    let ne = c.1 in
    let r : marks b m ≡ marks a m + 1 = marks_more a b w m (lt_of_not-le (λ le. ne (omega arith))) f t h in
    let x : bit (a m) ≡ bit (b m) = ap bit (h m (λ s. ne (sym s))) in omega arith)
    (eqb_tells w m)

-- a worker that has the mark is counted
pub marks_some : (met : ℕ → Bool) (w m : ℕ) → w < m → met w ≡ true → 1 ≤ marks met m
marks_some met w zero lt t = absurd (omega arith)
marks_some met w (suc m) lt t = ⊎_elim
    (λ (c : _ × (w ≡ m)). let y : bit (met m) ≡ 1 = ap (λ k. bit (met k)) (sym c.1) ∙ ap bit t in omega arith)
    (λ (c : _ × (w ≢ m)). let ne = c.1 in let r = marks_some met w m (lt_of_not-le (λ le. ne (omega arith))) t in omega arith)
    (eqb_tells w m)

pub none_marked : (met : ℕ → Bool) (w : ℕ) → ((k : ℕ) → met k ≡ false) → marks met w ≡ 0
none_marked met zero h = refl
none_marked met (suc w) h = let r = none_marked met w h in let b : bit (met w) ≡ 0 = ap bit (h w) in omega arith
