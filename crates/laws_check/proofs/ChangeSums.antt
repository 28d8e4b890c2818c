-- Sums over changes: of their events, and of what is planned of them.
use Rattle.std.proofs.Common.{◌≡◌, ◌≢◌, ℕ, zero, suc, ◌+◌, ◌<◌, ◌≤◌, ◌==◌, List, [], ◌∷◌, cond, count_by, flat_map, length, Bool, true, false, Some, refl, sym, ap, ◌∙◌, subst, ⊎_elim, slice_get, arith}
use Rattle.std.specs.Prelude.{◌&&◌}
use Rattle.std.specs.List.{enumerate_from}
use Rattle.std.proofs.lemmas.Bool.{cases_lt}
use Rattle.std.proofs.lemmas.Bool.Decides.{eqb_tells}
use Rattle.std.proofs.lemmas.List.Sums.{sum_by-append, sum_by-cons}
use Rattle.apply_events.specs.declared.event.Event.{Event}
use Rattle.laws_check.specs.WholeSteps.{events_of_change}
use Rattle.laws_check.proofs.Parts.{Each}

-- the sum of so many numbers from this one on
abbrev pub total : (low n : ℕ) → (ℕ → ℕ) → ℕ
total low zero g = 0
total low (suc n) g = g low + total (low + 1) n g

pub total_most : (low n : ℕ) (g h : ℕ → ℕ) → ((c : ℕ) → low ≤ c → c < low + n → g c ≤ h c) → total low n g ≤ total low n h
total_most low zero g h each = omega arith
total_most low (suc n) g h each =
    let first = each low (omega arith) (omega arith) in
    let rest = total_most (low + 1) n g h (λ c above below. each c (omega arith) (omega arith)) in
    omega arith

pub next_above : (b low : ℕ) → low ≤ b → b ≢ low → low + 1 ≤ b
next_above zero zero above apart = absurd (apart refl)
next_above zero (suc low) above apart = absurd (omega arith)
next_above (suc b) zero above apart = omega arith
next_above (suc b) (suc low) above apart = let rest = next_above b low (omega arith) (λ e. apart (ap suc e)) in omega arith

-- sums of the same numbers
pub total_same : (low n : ℕ) (g h : ℕ → ℕ) → ((c : ℕ) → g c ≡ h c) → total low n g ≡ total low n h
total_same low zero g h each = refl
total_same low (suc n) g h each = let first = each low in let rest = total_same (low + 1) n g h each in omega arith

-- of a smaller sum, one of the numbers is smaller
pub smaller_found : (low n : ℕ) (g h : ℕ → ℕ) → total low n g < total low n h → (c : ℕ) × (low ≤ c) × (c < low + n) × (g c < h c)
smaller_found low zero g h less = absurd (omega arith)
smaller_found low (suc n) g h less =
    ⊎_elim
    (λ (here : g low < h low). (low, omega arith, omega arith, here))
    (λ (no : h low ≤ g low).
    let rest = smaller_found (low + 1) n g h (omega arith) in
    (rest.0, (let above = rest.1 in omega arith), (let below = rest.2 in omega arith), rest.3))
    (cases_lt (g low) (h low))

-- where no number is greater and one is smaller, the sum is smaller
pub smaller_sum : (low n : ℕ) (g h : ℕ → ℕ) (c : ℕ) → ((d : ℕ) → low ≤ d → d < low + n → g d ≤ h d) → low ≤ c → c < low + n → g c < h c → total low n g < total low n h
smaller_sum low zero g h c each above below less = absurd (omega arith)
smaller_sum low (suc n) g h c each above below less =
    let first = each low (omega arith) (omega arith) in
    let others : (d : ℕ) → low + 1 ≤ d → d < low + 1 + n → g d ≤ h d = λ d up down. each d (omega arith) (omega arith) in
    ⊎_elim
    (λ (same : ((c == low) ≡ true) × (c ≡ low)).
    let here : g low < h low = subst (λ (d : ℕ). g d < h d) same.1 less in
    let rest = total_most (low + 1) n g h others in
    omega arith)
    (λ (apart : ((c == low) ≡ false) × (c ≢ low)).
    let up : low + 1 ≤ c = next_above c low above apart.1 in
    let rest = smaller_sum (low + 1) n g h c others up (omega arith) less in
    omega arith)
    (eqb_tells c low)

pub ones : (low n : ℕ) → total low n (λ c. 1) ≡ n
ones low zero = refl
ones low (suc n) = let rest = ones (low + 1) n in omega arith

none_at_all : (low n : ℕ) (g : ℕ → ℕ) → ((c : ℕ) → g c ≡ 0) → total low n g ≡ 0
none_at_all low zero g each = refl
none_at_all low (suc n) g each = let first = each low in let rest = none_at_all (low + 1) n g each in omega arith

-- the sum grows by x if one of the numbers grows by x
one_more : (low n b x : ℕ) (g h : ℕ → ℕ) → ((c : ℕ) → h c ≡ cond (b == c) x 0 + g c) → (b < low → total low n h ≡ total low n g) × (low ≤ b → b < low + n → total low n h ≡ x + total low n g)
one_more low zero b x g h is = (λ below. refl, λ above below. absurd (omega arith))
one_more low (suc n) b x g h is =
    let rest = one_more (low + 1) n b x g h is in
    let first = is low in
    ⊎_elim
    (λ (same : ((b == low) ≡ true) × (b ≡ low)).
    let e = same.1 in
    let here : cond {A = ℕ} (b == low) x 0 ≡ x = ap (λ (t : Bool). cond t x 0) same.0 in (
      λ below. absurd (omega arith),
      λ above below. let others = rest.0 (omega arith) in omega arith,
    ))
    (λ (apart : ((b == low) ≡ false) × (b ≢ low)).
    let here : cond {A = ℕ} (b == low) x 0 ≡ 0 = ap (λ (t : Bool). cond t x 0) apart.0 in
    let other = apart.1 in (
      λ below. let others = rest.0 (omega arith) in omega arith,
      λ above below. let higher : low + 1 ≤ b = next_above b low above other in let others = rest.1 higher (omega arith) in omega arith,
    ))
    (eqb_tells b low)

pub count_here : (p : Event → Bool) (c : ℕ) (e : Event) (es : List Event) → count_by p (events_of_change c (e ∷ es)) ≡ cond (e.change == c) (cond (p e) 1 0) 0 + count_by p (events_of_change c es)
count_here p c e es = either (e.change == c)
  where
    either : (b : Bool) → count_by p (cond b (e ∷ events_of_change c es) (events_of_change c es)) ≡ cond b (cond (p e) 1 0) 0 + count_by p (events_of_change c es)
    either true = sum_by-cons (λ x. cond (p x) 1 0) e (events_of_change c es)
    either false = omega arith

-- the events are the events of the changes
pub by_changes : (p : Event → Bool) (limit : ℕ) (es : List Event) → Each (λ e. e.change < limit) es → count_by p es ≡ total 0 limit (λ c. count_by p (events_of_change c es))
by_changes p limit [] within = sym (none_at_all 0 limit (λ c. count_by p (events_of_change c [])) (λ c. refl))
by_changes p limit (e ∷ es) within =
    let rest = by_changes p limit es within.1 in
    let less : e.change < limit = within.0 in
    let all = (one_more 0 limit e.change (cond (p e) 1 0) (λ c. count_by p (events_of_change c es)) (λ c. count_by p (events_of_change c (e ∷ es))) (λ c. count_here p c e es)).1 (omega arith) (omega arith) in
    let first = sum_by-cons (λ x. cond (p x) 1 0) e es in
    omega arith

-- a test of the change keeps all events of a change, or none
module _ (keep : ℕ → Bool) (c : ℕ) (p : Event → Bool) where
  pub verbatim_or_none : (es : List Event) → count_by (λ e. keep e.change && p e) (events_of_change c es) ≡ cond (keep c) (count_by p (events_of_change c es)) 0
  verbatim_or_none [] = none (keep c)
    where
      none : (b : Bool) → 0 ≡ cond {A = ℕ} b 0 0
      none true = refl
      none false = refl
  verbatim_or_none (e ∷ es) =
      ⊎_elim (λ (same : ((e.change == c) ≡ true) × (e.change ≡ c)). of_this (verbatim_or_none es) (e.change == c) (λ yes. same.1))
      (λ (apart : ((e.change == c) ≡ false) × (e.change ≢ c)). of_this (verbatim_or_none es) (e.change == c) (λ yes. absurd (let both : true ≡ false = sym yes ∙ apart.0 in cc)))
      (eqb_tells e.change c)
    where
      of_one : (k b : Bool) (x y : ℕ) → x ≡ cond k y 0 → cond {A = ℕ} (k && b) 1 0 + x ≡ cond k (cond b 1 0 + y) 0
      of_one true b x y is = omega arith
      of_one false b x y is = omega arith

      of_this : count_by (λ e. keep e.change && p e) (events_of_change c es) ≡ cond (keep c) (count_by p (events_of_change c es)) 0 → (b : Bool) → (b ≡ true → e.change ≡ c)
          → count_by (λ e. keep e.change && p e) (cond b (e ∷ events_of_change c es) (events_of_change c es)) ≡ cond (keep c) (count_by p (cond b (e ∷ events_of_change c es) (events_of_change c es))) 0
      of_this rest true same =
          let one = of_one (keep c) (p e) (count_by (λ e. keep e.change && p e) (events_of_change c es)) (count_by p (events_of_change c es)) rest in
          let here : cond {A = ℕ} (keep e.change && p e) 1 0 ≡ cond (keep c && p e) 1 0 = ap (λ (d : ℕ). cond (keep d && p e) 1 0) (same refl) in
          let left = sum_by-cons (λ e. cond (keep e.change && p e) 1 0) e (events_of_change c es) in
          let right = sum_by-cons (λ x. cond (p x) 1 0) e (events_of_change c es) in
          let first : count_by (λ e. keep e.change && p e) (e ∷ events_of_change c es) ≡ cond (keep c) (cond (p e) 1 0 + count_by p (events_of_change c es)) 0 = omega arith in
          first ∙ ap (λ (n : ℕ). cond (keep c) n 0) (sym right)
      of_this rest false same = rest

-- if as many events of each change pass one test as the other, then as many events of some changes
-- do
pub as_many_filtered : (keep : ℕ → Bool) (p q : Event → Bool) (limit : ℕ) (es : List Event) → Each (λ e. e.change < limit) es → ((c : ℕ) → c < limit → count_by p (events_of_change c es) ≡ count_by q (events_of_change c es))
    → count_by (λ e. keep e.change && p e) es ≡ count_by (λ e. keep e.change && q e) es
as_many_filtered keep p q limit es within same =
    let one = by_changes (λ e. keep e.change && p e) limit es within in
    let other = by_changes (λ e. keep e.change && q e) limit es within in
    let alike : (c : ℕ) → c < 0 + limit → count_by (λ e. keep e.change && p e) (events_of_change c es) ≡ count_by (λ e. keep e.change && q e) (events_of_change c es) =
    λ c less. verbatim_or_none keep c p es ∙ ap (λ (n : ℕ). cond (keep c) n 0) (same c (omega arith)) ∙ sym (verbatim_or_none keep c q es) in
    let most = total_most 0 limit (λ c. count_by (λ e. keep e.change && p e) (events_of_change c es)) (λ c. count_by (λ e. keep e.change && q e) (events_of_change c es)) (λ c above below. let e = alike c below in omega arith) in
    let least = total_most 0 limit (λ c. count_by (λ e. keep e.change && q e) (events_of_change c es)) (λ c. count_by (λ e. keep e.change && p e) (events_of_change c es)) (λ c above below. let e = alike c below in omega arith) in
    omega arith

-- what is made of elements with their numbers is the sum of what is made of each
pub by_elements : {X M : Type 0} (p : M → Bool) (f : ℕ × X → List M) (g : ℕ → ℕ) (low : ℕ) (xs : List X) → ((i : ℕ) (x : X) → slice_get xs i ≡ Some x → count_by p (f (low + i, x)) ≡ g (low + i))
    → count_by p (flat_map f (enumerate_from low xs)) ≡ total low (length xs) g
by_elements p f g low [] each = refl
by_elements p f g low (x ∷ xs) each =
    let here : count_by p (f (low, x)) ≡ g low = subst (λ (k : ℕ). count_by p (f (k, x)) ≡ g k) (let e : low + 0 ≡ low = omega arith in e) (each 0 x refl) in
    let rest = by_elements p f g (low + 1) xs (λ i y is. subst (λ (k : ℕ). count_by p (f (k, y)) ≡ g k) (let e : low + suc i ≡ low + 1 + i = omega arith in e) (each (suc i) y is)) in
    let both = sum_by-append (λ m. cond (p m) 1 0) (f (low, x)) (flat_map f (enumerate_from (low + 1) xs)) in
    omega arith
