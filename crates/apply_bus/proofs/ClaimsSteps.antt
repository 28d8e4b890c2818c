-- Each kind of step keeps the rule of claims.
use Rattle.std.proofs.Common.{◌≡◌, ◌≢◌, ℕ, zero, suc, ◌+◌, ◌-◌, ◌%◌, ◌^◌, ◌<◌, ◌≤◌, min, Bool, true, false, List, [], ◌∷◌, ◌++◌, All, length, set, slice_set, slice_index, eqb, sym, refl, ap, ◌∙◌, subst, ⊎_elim, lt_of_not-le, mod-eq_of_lt, arith, lt-ltb, le-ltb, if◌then◌else◌}
use Rattle.std.proofs.lemmas.Bool.{cases_lt}
use Rattle.std.proofs.lemmas.Bool.Decides.{eqb_tells}
use Rattle.std.specs.List.{AllByRecursion}
use mathlib.Core.Option.{some, some-ne-none}
use lib.ListN.{get_elem?}
use Rattle.atomic_table.specs.Table.{State, Me, Allows, Splits, Joins, Enters, keeps, opening}
use Rattle.atomic_table.proofs.Lists.{at_set, set_again}
use Rattle.apply_events.specs.Partition.{numbers_of}
use Rattle.apply_events.proofs.Numbers.{numbers_else, numbers_here, numbers_same, numbers_up}
use Rattle.apply_bus.specs.declared.claims_rule.Hand.{Hand}
use Rattle.apply_bus.specs.declared.claims_rule.Share.{Share}
use Rattle.apply_bus.specs.ClaimsRule.{share, hand, drawer, new_shares, without_first, first_alone, spent, with_shares_of, IsDrawn, Knows, KnowsAll, IsLawful, IsDealt, AreDealt}
use Rattle.apply_bus.specs.ClaimsState.{marks}
use Rattle.apply_bus.proofs.ClaimsStates.{Counted, Plain, from_plain, allows_from, splits_from, joins_from, enters_from}
use Rattle.apply_bus.proofs.Each.{each_map, each_append}
use Rattle.apply_bus.proofs.Marks.{marks_le, marks_more, marks_some, none_marked}
use Rattle.apply_bus.proofs.Views.{AtEach, each_set, at_end, pick, picked, left_out}

abbrev at : List ℕ → List Hand → State ℕ Hand
at ws views = record { words = ws; homes = []; views = views }

fresh_knows : (owner : ℕ → ℕ) (who : ℕ → ℕ) (met : ℕ → Bool) (n w i m : ℕ) → ((k : ℕ) → owner k ≡ 0) → ((k : ℕ) → met k ≡ false) → i + m ≤ w → AllByRecursion (Knows owner who met n w 0 0) (new_shares n w i m)
fresh_knows owner who met n w i zero o f le = tt
fresh_knows owner who met n w i (suc m) o f le =
    let none : min 0 n ≡ zero = omega arith in
    ((o i, (let g : i < w = omega arith in g), refl, refl, ap (numbers_of who i) (sym none), sym (f i)), fresh_knows owner who met n w (suc i) m o f (omega arith))

begins_plain : (n w : ℕ) → n < 4294967296 → w ≤ 8 → Plain n w (opening (0 ∷ []) [] (hand (new_shares n w 0 w)))
begins_plain n w small few = let first : Hand = hand (new_shares n w 0 w) in let zeros : ℕ → ℕ = λ _. 0 in let met : ℕ → Bool = λ _. false in (
  zeros,
  zeros,
  met,
  0,
  refl,
  (few, small, (λ k low. absurd (omega arith)), (let z = none_marked met w (λ k. refl) in let g : marks met w ≡ 0 - n = omega arith in g)),
  λ j u e. ⊎_elim (λ (x : get_elem? [] j ≡ some u). absurd (some-ne-none u (sym x)))
      (λ (x : (j ≡ 0) × (first ≡ u)). subst (λ (y : ℕ × Hand). KnowsAll zeros zeros met n w 0 y.0 y.1) (λ i. (sym x.0 i, x.1 i)) (fresh_knows zeros zeros met n w 0 w (λ k. refl) (λ k. refl) (omega arith))) (at_end [] first u j e),
)

-- the word doesn't wrap
room : (met : ℕ → Bool) (w n x : ℕ) → w ≤ 8 → n < 4294967296 → marks met w ≡ x - n → (x + 1) % 2 ^ 64 ≡ x + 1
room met w n x few small count = let m = marks_le met w in mod-eq_of_lt (let g : x + 1 < 18446744073709551616 = omega arith in g)

drawn_low : (n w x id d : ℕ) (xs : List ℕ) (views : List Hand) → x < n → Plain n w (at (x ∷ []) views) → get_elem? views id ≡ some (drawer d n w xs false)
    → Plain n w (at ((x + 1) % 2 ^ 64 ∷ []) (set views id (drawer d n w (xs ++ x ∷ []) false)))
drawn_low n w x id d xs views low h here =
    let mine = (h.6 id (drawer d n w xs false) here).0 in
    let owner = h.0 in let old = h.1 in let met = h.2 in
    let is : x ≡ h.3 = cc in
    let count : Counted old met n w x = subst (Counted old met n w) (sym is) h.5 in
    let few = count.0 in let small = count.1 in let sum = count.3 in
    let who : ℕ → ℕ = λ k. pick (eqb k x) d (old k) in
    let same : (k : ℕ) → k < x → who k ≡ old k = λ k lt. left_out k x d (old k) (λ e. omega arith) in
    let was : min h.3 n ≡ x = omega arith in
    let now : min (x + 1) n ≡ suc x = omega arith in
    let now' : suc x ≡ min (x + 1) n = sym now in
    let new : Hand = drawer d n w (xs ++ x ∷ []) false in
    let F : ℕ → Hand → Type 0 = KnowsAll owner who met n w (x + 1) in
    let grown : xs ++ x ∷ [] ≡ numbers_of who d (min (x + 1) n) =
    ap (λ l. l ++ x ∷ []) (mine.4 ∙ ap (numbers_of old d) was ∙ sym (numbers_same who old d x same)) ∙ sym (numbers_here who d x (picked x x d (old x) refl)) ∙ ap (numbers_of who d) now' in (
      owner,
      who,
      met,
      x + 1,
      ap (λ k. k ∷ []) (room met w n x few small sum),
      (
        few,
        small,
        (λ k lt. ⊎_elim
            (λ (c : _ × (k ≡ x)). subst (λ p. p < w) (sym (picked k x d (old k) c.1)) mine.1)
            (λ (c : _ × (k ≢ x)). let ne = c.1 in subst (λ p. p < w) (sym (left_out k x d (old k) ne)) (count.2 k (let le : k < x = lt_of_not-le (λ le. ne (omega arith)) in let g : k < min x n = omega arith in g)))
            (eqb_tells k x)),
        (let z : marks met w ≡ x - n = sum in let g : marks met w ≡ (x + 1) - n = omega arith in g),
      ),
      each_set F views id new ((mine.0, mine.1, refl, refl, grown, mine.5), tt)
          (λ j u other e.
          each_map (Knows owner old met n w h.3 j) (Knows owner who met n w (x + 1) j) u.shares
          (λ k fits.
          let apart : who x ≢ k.worker = λ s. other (sym fits.0 ∙ ap owner (sym s ∙ picked x x d (old x) refl) ∙ mine.0) in (
            fits.0,
            fits.1,
            fits.2,
            fits.3,
            fits.4 ∙ ap (numbers_of old k.worker) was ∙ sym (numbers_same who old k.worker x same) ∙ sym (numbers_else who k.worker x apart) ∙ ap (numbers_of who k.worker) now',
            fits.5,
          ))
          (h.6 j u e)),
    )

drawn_high : (n w x id d : ℕ) (xs : List ℕ) (views : List Hand) → n ≤ x → Plain n w (at (x ∷ []) views) → get_elem? views id ≡ some (drawer d n w xs false)
    → Plain n w (at ((x + 1) % 2 ^ 64 ∷ []) (set views id (drawer d n w xs true)))
drawn_high n w x id d xs views high h here =
    let mine = (h.6 id (drawer d n w xs false) here).0 in
    let owner = h.0 in let who = h.1 in let old = h.2 in
    let is : x ≡ h.3 = cc in
    let count : Counted who old n w x = subst (Counted who old n w) (sym is) h.5 in
    let few = count.0 in let small = count.1 in let sum = count.3 in
    let met : ℕ → Bool = λ k. pick (eqb k d) true (old k) in
    let stays : min h.3 n ≡ min (x + 1) n = omega arith in
    let more : marks met w ≡ marks old w + 1 = marks_more old met d w mine.1 (sym mine.5) (picked d d true (old d) refl) (λ k ne. sym (left_out k d true (old k) ne)) in
    let new : Hand = drawer d n w xs true in
    let F : ℕ → Hand → Type 0 = KnowsAll owner who met n w (x + 1) in (
      owner,
      who,
      met,
      x + 1,
      ap (λ k. k ∷ []) (room old w n x few small sum),
      (
        few,
        small,
        (λ k lt. count.2 k (let g : k < min x n = omega arith in g)),
        (let g : marks met w ≡ (x + 1) - n = omega arith in g),
      ),
      each_set F views id new ((mine.0, mine.1, refl, refl, mine.4 ∙ ap (numbers_of who d) stays, sym (picked d d true (old d) refl)), tt)
          (λ j u other e.
          each_map (Knows owner who old n w h.3 j) (Knows owner who met n w (x + 1) j) u.shares
          (λ k fits. (
            fits.0,
            fits.1,
            fits.2,
            fits.3,
            fits.4 ∙ ap (numbers_of who k.worker) stays,
            fits.5 ∙ sym (left_out k.worker d true (old k.worker) (λ s. other (sym fits.0 ∙ ap owner s ∙ mine.0))),
          ))
          (h.6 j u e)),
    )

step_at : (n w x id d : ℕ) (xs : List ℕ) (views : List Hand) → Plain n w (at (x ∷ []) views) → get_elem? views id ≡ some (drawer d n w xs false)
    → (v : Hand) × Plain n w (at ((x + 1) % 2 ^ 64 ∷ []) (set views id v)) × IsDrawn (drawer d n w xs false, []) x (v, [])
step_at n w x id d xs views h here =
    let mine = (h.6 id (drawer d n w xs false) here).0 in
    let is : x ≡ h.3 = cc in
    let under : All (λ e. e < x) xs = subst (All (λ e. e < x)) (sym mine.4) (numbers_up h.1 d (min h.3 n) x (omega arith)) in
    ⊎_elim
    (λ (low : x < n). (
      drawer d n w (xs ++ x ∷ []) false,
      drawn_low n w x id d xs views low h here,
      (ap (λ b. (hand ((if b then share d n w (xs ++ x ∷ []) false else share d n w xs true) ∷ []), [])) (sym (lt-ltb x n low)), (under, tt)),
    ))
    (λ (high : n ≤ x). (
      drawer d n w xs true,
      drawn_high n w x id d xs views high h here,
      (ap (λ b. (hand ((if b then share d n w (xs ++ x ∷ []) false else share d n w xs true) ∷ []), [])) (sym (le-ltb x n high)), (under, tt)),
    ))
    (cases_lt x n)

draws_of : (n w slots id d : ℕ) (xs : List ℕ) → Allows (Plain n w) slots id (drawer d n w xs false, []) 0 (λ k. (k + 1) % 2 ^ 64) (IsDrawn (drawer d n w xs false, []))
draws_of n w slots id d xs s h sized here fits =
    let v : Hand = drawer d n w xs false in
    let given : Plain n w (at (h.3 ∷ []) s.views) = (h.0, h.1, h.2, h.3, refl, h.5, h.6) in
    let Goal : List ℕ → Type 0 = λ ws. (u : Hand) × Plain n w (at (slice_set ws 0 ((slice_index ws 0 + 1) % 2 ^ 64)) (set s.views id u)) × IsDrawn (v, []) (slice_index ws 0) (u, []) in
    let got : Goal s.words = subst Goal (sym h.4) (step_at n w h.3 id d xs s.views given here) in
    (got.0, keeps, tt, got.1, got.2)

draws_plain : (n w slots id : ℕ) (me : Me ℕ Hand) (d : ℕ) (xs : List ℕ) → me ≡ (drawer d n w xs false, []) → Allows (Plain n w) slots id me 0 (λ k. (k + 1) % 2 ^ 64) (IsDrawn me)
draws_plain n w slots id me d xs is = subst (λ m. Allows (Plain n w) slots id m 0 (λ k. (k + 1) % 2 ^ 64) (IsDrawn m)) (sym is) (draws_of n w slots id d xs)

-- the drawers that are left are above i
above : (P : Share → Type 0) (n w i j m : ℕ) → i < j → AllByRecursion P (new_shares n w j m) → AllByRecursion (λ s. P s × (i < s.worker)) (new_shares n w j m)
above P n w i j zero lt e = tt
above P n w i j (suc m) lt e = ((e.0, lt), above P n w i (suc j) m (omega arith) e.1)

deals_of : (n w id i m : ℕ) → Splits (Plain n w) id (hand (new_shares n w i (suc m))) (hand (new_shares n w (suc i) m)) (drawer i n w [] false)
deals_of n w id i m s h here =
    let views = s.views in
    let mine = h.6 id (hand (new_shares n w i (suc m))) here in
    let left : Hand = hand (new_shares n w (suc i) m) in
    let vs : List Hand = set views id left in let seat = length vs in let right : Hand = drawer i n w [] false in
    let owner : ℕ → ℕ = λ p. pick (eqb p i) seat (h.0 p) in
    let Old : ℕ → Share → Type 0 = Knows h.0 h.1 h.2 n w h.3 in
    let New : ℕ → Share → Type 0 = Knows owner h.1 h.2 n w h.3 in
    let F : ℕ → Hand → Type 0 = KnowsAll owner h.1 h.2 n w h.3 in
    let old : AtEach F vs = each_set F views id left
    (each_map (λ k. Old id k × (i < k.worker)) (New id) (new_shares n w (suc i) m)
    (λ k fits. let lt = fits.1 in (left_out k.worker i seat (h.0 k.worker) (λ e. omega arith) ∙ fits.0.0, fits.0.1, fits.0.2, fits.0.3, fits.0.4, fits.0.5))
    (above (Old id) n w i (suc i) m (omega arith) mine.1))
    (λ j u other e. each_map (Old j) (New j) u.shares
    (λ k fits. (left_out k.worker i seat (h.0 k.worker) (λ s. other (sym fits.0 ∙ ap h.0 s ∙ mine.0.0)) ∙ fits.0, fits.1, fits.2, fits.3, fits.4, fits.5))
    (h.6 j u e)) in (
      owner,
      h.1,
      h.2,
      h.3,
      h.4,
      h.5,
      λ j u e. ⊎_elim (λ z. old j u z)
          (λ (z : (j ≡ seat) × (right ≡ u)). subst (λ (y : ℕ × Hand). F y.0 y.1) (λ k. (sym z.0 k, z.1 k))
          ((picked i i seat (h.0 i) refl, mine.0.1, mine.0.2, mine.0.3, mine.0.4, mine.0.5), tt))
          (at_end vs right u j e),
    )

deals_at : (n w id i m : ℕ) (v : Hand) → v ≡ hand (new_shares n w i (suc m)) → Splits (Plain n w) id v (hand (without_first v.shares)) (hand (first_alone v.shares))
deals_at n w id i m v is = subst (λ (u : Hand). Splits (Plain n w) id u (hand (without_first u.shares)) (hand (first_alone u.shares))) (sym is) (deals_of n w id i m)

joins_plain : (n w id : ℕ) (v : Hand) (other : ℕ) (u : Hand) → Joins (Plain n w) id v other u (with_shares_of v u) spent
joins_plain n w id v other u s h here apart there =
    let views = s.views in
    let both : Hand = with_shares_of v u in let mine = h.6 id v here in let vs : List Hand = set views id both in
    let was : get_elem? views other ≡ some u = ⊎_elim (λ z. absurd (apart z.0)) (λ z. z.1) (at_set views id other both u there) in let theirs = h.6 other u was in
    let owner : ℕ → ℕ = λ p. pick (eqb (h.0 p) other) id (h.0 p) in
    let Old : ℕ → Share → Type 0 = Knows h.0 h.1 h.2 n w h.3 in
    let New : ℕ → Share → Type 0 = Knows owner h.1 h.2 n w h.3 in
    let stays : (j : ℕ) (ks : List Share) → j ≢ other → AllByRecursion (Old j) ks → AllByRecursion (New j) ks = λ j ks ne. each_map (Old j) (New j) ks
    (λ k fits. (left_out (h.0 k.worker) other id (h.0 k.worker) (λ e. ne (sym fits.0 ∙ e)) ∙ fits.0, fits.1, fits.2, fits.3, fits.4, fits.5)) in
    let comes : AllByRecursion (New id) u.shares = each_map (Old other) (New id) u.shares (λ k fits. (picked (h.0 k.worker) other id (h.0 k.worker) fits.0, fits.1, fits.2, fits.3, fits.4, fits.5)) theirs in
    let F : ℕ → Hand → Type 0 = KnowsAll owner h.1 h.2 n w h.3 in let Now : ℕ → Hand → Type 0 = λ j y. j ≢ other → F j y in
    let now : AtEach Now vs = each_set Now views id both (λ ne. each_append (New id) v.shares u.shares (stays id v.shares ne mine) comes)
    (λ j y _ e ne. stays j y.shares ne (h.6 j y e)) in
    (owner, h.1, h.2, h.3, h.4, h.5, each_set F vs other spent tt (λ j y ne e. now j y e ne))

looks_plain : (n w slots id : ℕ) (me : Me ℕ Hand) → Allows (Plain n w) slots id me 0 (λ k. k) (λ _ after. (after ≡ me) × AreDealt me.0)
looks_plain n w slots id me s h sized here fits =
    let v = me.0 in let mine = h.6 id v here in
    let m : ℕ = min h.3 n in
    let learned : AreDealt v = (
      h.1,
      m,
      each_map (Knows h.0 h.1 h.2 n w h.3 id) (IsDealt h.1 m) v.shares
          (λ k fits. let top = fits.2 in let few = fits.3 in (
            (let g : m ≤ k.limit = omega arith in g),
            (λ p lt. let l = h.5.2 p lt in let g : h.1 p < k.workers = omega arith in g),
            fits.4,
            λ t. let some_mark = marks_some h.2 k.worker w fits.1 (sym fits.5 ∙ t) in let sum : marks h.2 w ≡ h.3 - n = h.5.3 in let g : m ≡ k.limit = omega arith in g,
          ))
          mine,
    ) in
    let Goal : List ℕ → Type 0 = λ ws. slice_set ws 0 (slice_index ws 0) ≡ ws in
    let words : Goal s.words = subst Goal (sym h.4) refl in
    let held : Plain n w (at (slice_set s.words 0 (slice_index s.words 0)) (set s.views id v)) =
    subst (λ (y : List ℕ × List Hand). Plain n w (at y.0 y.1)) (λ i. (sym words i, sym (set_again s.views id v here) i)) h in
    (v, keeps, tt, held, (refl, learned))

-- the dealer's seat, before and after the drawer i is split off
deals_plain : (key : ℕ × ℕ) (n w id i : ℕ) (me : Me ℕ Hand) → key ≡ (n, w) → i < w → me ≡ (hand (new_shares n w i (w - i)), []) → Splits (Plain key.0 key.1) id me.0 (hand (without_first me.0.shares)) (hand (first_alone me.0.shares))
deals_plain key n w id i me k lt is =
    let more : w - i ≡ suc (w - suc i) = omega arith in
    subst (λ (y : ℕ × ℕ). Splits (Plain y.0 y.1) id me.0 (hand (without_first me.0.shares)) (hand (first_alone me.0.shares))) (sym k)
    (deals_at n w id i (w - suc i) me.0 (ap (λ (y : Me ℕ Hand). y.0) is ∙ ap (λ l. hand (new_shares n w i l)) more))

pub left_over : (n w i : ℕ) (me after : Me ℕ Hand) → i < w → me ≡ (hand (new_shares n w i (w - i)), []) → after ≡ (hand (without_first me.0.shares), me.1) → after ≡ (hand (new_shares n w (i + 1) (w - (i + 1))), [])
left_over n w i me after lt is then' =
    let more : w - i ≡ suc (w - suc i) = omega arith in let up : suc i ≡ i + 1 = omega arith in
    then' ∙ ap (λ (y : Me ℕ Hand). (hand (without_first y.0.shares), y.1)) (is ∙ ap (λ l. (hand (new_shares n w i l), [])) more) ∙ ap (λ l. (hand (new_shares n w l (w - l)), [])) up

pub split_off : (n w i : ℕ) (me after : Me ℕ Hand) → i < w → me ≡ (hand (new_shares n w i (w - i)), []) → after ≡ (hand (first_alone me.0.shares), []) → after ≡ (drawer i n w [] false, [])
split_off n w i me after lt is then' =
    let more : w - i ≡ suc (w - suc i) = omega arith in
    then' ∙ ap (λ (y : Me ℕ Hand). (hand (first_alone y.0.shares), [])) (is ∙ ap (λ l. (hand (new_shares n w i l), [])) more)

enters_plain : (n w slots : ℕ) → Enters (Plain n w) slots 0 (λ _ v. ◌≡◌ {A = Me ℕ Hand} (v, []) (spent, []))
enters_plain n w slots s h sized fits = (
  spent,
  (h.0, h.1, h.2, h.3, h.4, h.5, λ j u e. ⊎_elim (λ z. h.6 j u z) (λ (z : (j ≡ length s.views) × (spent ≡ u)). subst (λ (y : Hand). KnowsAll h.0 h.1 h.2 n w h.3 j y) z.1 tt) (at_end s.views spent u j e)),
  refl,
)

-- ---- the same of the rule

pub begins : (n w : ℕ) → n < 4294967296 → w ≤ 8 → IsLawful n w (opening (0 ∷ []) [] (hand (new_shares n w 0 w)))
begins n w small few = from_plain n w (opening (0 ∷ []) [] (hand (new_shares n w 0 w))) (begins_plain n w small few)

pub draws : (n w slots id : ℕ) (me : Me ℕ Hand) (d : ℕ) (xs : List ℕ) → me ≡ (drawer d n w xs false, []) → Allows (IsLawful n w) slots id me 0 (λ k. (k + 1) % 2 ^ 64) (IsDrawn me)
draws n w slots id me d xs is = allows_from n w slots id me (λ k. (k + 1) % 2 ^ 64) (IsDrawn me) (draws_plain n w slots id me d xs is)

pub deals : (key : ℕ × ℕ) (n w id i : ℕ) (me : Me ℕ Hand) → key ≡ (n, w) → i < w → me ≡ (hand (new_shares n w i (w - i)), []) → Splits (IsLawful key.0 key.1) id me.0 (hand (without_first me.0.shares)) (hand (first_alone me.0.shares))
deals key n w id i me k lt is = splits_from key.0 key.1 id me.0 (hand (without_first me.0.shares)) (hand (first_alone me.0.shares)) (deals_plain key n w id i me k lt is)

pub joins : (n w id : ℕ) (v : Hand) (other : ℕ) (u : Hand) → Joins (IsLawful n w) id v other u (with_shares_of v u) spent
joins n w id v other u = joins_from n w id v other u (with_shares_of v u) spent (joins_plain n w id v other u)

pub looks : (n w slots id : ℕ) (me : Me ℕ Hand) → Allows (IsLawful n w) slots id me 0 (λ k. k) (λ _ after. (after ≡ me) × AreDealt me.0)
looks n w slots id me = allows_from n w slots id me (λ k. k) (λ _ after. (after ≡ me) × AreDealt me.0) (looks_plain n w slots id me)

pub enters : (n w slots : ℕ) → Enters (IsLawful n w) slots 0 (λ _ v. ◌≡◌ {A = Me ℕ Hand} (v, []) (spent, []))
enters n w slots = enters_from n w slots (λ _ v. ◌≡◌ {A = Me ℕ Hand} (v, []) (spent, [])) (enters_plain n w slots)
