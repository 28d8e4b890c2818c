-- How many numbers below a limit have something.
use Rattle.std.proofs.Common.{◌≡◌, ◌≢◌, ℕ, zero, suc, ◌+◌, ◌<◌, ◌≤◌, ◌==◌, cond, Option, Some, None, refl, ap, ◌∙◌, ◌⊎◌, inl, inr, ⊎_elim, arith, lt_of_not-le, eq-eqb, ne_eqb}
use Rattle.std.specs.Prelude.{is_some, count_by}
use Rattle.std.specs.List.{range_with_len}
use Rattle.std.proofs.lemmas.Bool.Decides.{eqb_tells}
use Rattle.std.proofs.lemmas.List.Sums.{sum_by-cons}

-- 1 where there is something
abbrev pub weight : Option ℕ → ℕ
weight located = cond (is_some located) 1 0

-- how many of n numbers from `low` on have something
abbrev pub counted : (ℕ → Option ℕ) → (low n : ℕ) → ℕ
counted h low n = count_by (λ c. is_some (h c)) (range_with_len low n)

first : (h : ℕ → Option ℕ) (low n : ℕ) → counted h low (suc n) ≡ weight (h low) + counted h (low + 1) n
first h low n = sum_by-cons (λ c. cond (is_some (h c)) 1 0) low (range_with_len (low + 1) n)

pub same : (h g : ℕ → Option ℕ) (low n : ℕ) → ((c : ℕ) → low ≤ c → c < low + n → g c ≡ h c) → counted g low n ≡ counted h low n
same h g low zero e = refl
same h g low (suc n) e =
    let one = first h low n in
    let other = first g low n in
    let here : weight (g low) ≡ weight (h low) = ap weight (e low (omega arith) (omega arith)) in
    let rest = same h g (low + 1) n (λ c above below. e c (omega arith) (omega arith)) in
    omega arith

-- what one of them has is changed
pub changed : (h g : ℕ → Option ℕ) (c low n : ℕ) → ((b : ℕ) → b ≢ c → g b ≡ h b) → low ≤ c → c < low + n
    → counted g low n + weight (h c) ≡ counted h low n + weight (g c)
changed h g c low zero others above below = absurd (omega arith)
changed h g c low (suc n) others above below =
    let one = first h low n in
    let other = first g low n in
    ⊎_elim
    (λ (p : _ × (low ≡ c)).
    let is : low ≡ c = p.1 in
    let here : weight (h low) ≡ weight (h c) = ap (λ (x : ℕ). weight (h x)) is in
    let there : weight (g low) ≡ weight (g c) = ap (λ (x : ℕ). weight (g x)) is in
    let rest = same h g (low + 1) n (λ b over under. others b (λ e. omega arith)) in
    omega arith)
    (λ (p : _ × (low ≢ c)).
    let is = p.1 in
    let here : weight (g low) ≡ weight (h low) = ap weight (others low is) in
    let higher : low < c = lt_of_not-le (λ le. is (omega arith)) in
    let rest = changed h g c (low + 1) n others (omega arith) (omega arith) in
    omega arith)
    (eqb_tells low c)

pub at_most : (h : ℕ → Option ℕ) (low n : ℕ) → counted h low n ≤ n
at_most h low zero = omega arith
at_most h low (suc n) =
    let one = first h low n in
    let rest = at_most h (low + 1) n in
    let few : weight (h low) ≤ 1 = small (h low) in
    omega arith
  where
    small : (o : Option ℕ) → weight o ≤ 1
    small None = omega arith
    small (Some x) = omega arith

-- no number has something, or some number has
pub none_or_some : (h : ℕ → Option ℕ) (low n : ℕ)
    → (counted h low n ≡ 0) ⊎ ((c : ℕ) × (x : ℕ) × (c < low + n) × (h c ≡ Some x))
none_or_some h low zero = inl refl
none_or_some h low (suc n) = of_first (h low) refl (none_or_some h (low + 1) n)
  where
    of_first : (o : Option ℕ) → h low ≡ o → (counted h (low + 1) n ≡ 0) ⊎ ((c : ℕ) × (x : ℕ) × (c < low + 1 + n) × (h c ≡ Some x))
        → (counted h low (suc n) ≡ 0) ⊎ ((c : ℕ) × (x : ℕ) × (c < low + suc n) × (h c ≡ Some x))
    of_first (Some x) e rest = inr (low, x, omega arith, e)
    of_first None e rest =
        let one = first h low n in
        let here : weight (h low) ≡ 0 = ap weight e in
        ⊎_elim (λ none. inl (omega arith)) (λ p. inr (p.0, p.1, (let less : p.0 < low + 1 + n = p.2 in omega arith), p.3)) rest

-- h without what c has
without : (ℕ → Option ℕ) → (c : ℕ) → ℕ → Option ℕ
without h c b = cond (b == c) None (h b)

pub one_at_least : (h : ℕ → Option ℕ) (c n x : ℕ) → c < n → h c ≡ Some x → 1 ≤ counted h 0 n
unfolding without
one_at_least h c n x less e =
    let all = changed h (without h c) c 0 n (λ b ne. ap (λ t. cond t None (h b)) (ne_eqb b c ne)) (omega arith) (omega arith) in
    let here : weight (h c) ≡ 1 = ap weight e in
    let there : weight (without h c c) ≡ 0 = ap (λ t. weight (cond t None (h c))) (eq-eqb c c refl) in
    omega arith

pub two_at_least : (h : ℕ → Option ℕ) (b c n x y : ℕ) → b < n → c < n → b ≢ c → h b ≡ Some x → h c ≡ Some y → 2 ≤ counted h 0 n
unfolding without
two_at_least h b c n x y first_less second_less apart e f =
    let all = changed h (without h c) c 0 n (λ d ne. ap (λ t. cond t None (h d)) (ne_eqb d c ne)) (omega arith) (omega arith) in
    let here : weight (h c) ≡ 1 = ap weight f in
    let there : weight (without h c c) ≡ 0 = ap (λ t. weight (cond t None (h c))) (eq-eqb c c refl) in
    let left : without h c b ≡ Some x = ap (λ t. cond t None (h b)) (ne_eqb b c apart) ∙ e in
    let one = one_at_least (without h c) b n x first_less left in
    omega arith
