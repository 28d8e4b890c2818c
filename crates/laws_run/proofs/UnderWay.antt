-- No more turns are under way than lanes: each has a lane to itself until it has ended.
use Rattle.std.proofs.Common.{◌≡◌, ℕ, zero, suc, ◌+◌, ◌<◌, ◌≤◌, Bool, true, false, ◌==◌, ◌&&◌, List, [], ◌∷◌, Option, Some, None, cond, count_by, get_or, length, nat_lt, set, refl, sym, ap, ◌∙◌, ⊎_elim, arith}
use Rattle.std.specs.Prelude.{not}
use Rattle.std.proofs.lemmas.Bool.{and_parts, cases_Bool, ltb-true, true≢false}
use Rattle.std.proofs.lemmas.List.Sums.{sum_by-cons}
use Rattle.apply_events.specs.declared.lanes.lane_time.LaneTime.{LaneTime}
use Rattle.apply_events.specs.declared.lanes.turn.StartedTurn.{StartedTurn}
use Rattle.apply_events.specs.Step.{Work}
use Rattle.apply_events.specs.Waits.Done.{end_of_turn}
use Rattle.apply_events.specs.Waits.LaneTime.{IsNoLater, first_lane_time, is_earlier}
use Rattle.apply_events.specs.Waits.Schedule.{Ready, first_earliest, first_ready, free_after, schedule, scheduled, started_in, with_next}
use Rattle.apply_events.specs.Waits.Turn.{begun_steps, turns}
use Rattle.apply_events.proofs.Waits.Free.{first_earliest_lt, length-free}
use Rattle.apply_events.proofs.Waits.Moments.{end_no_earlier, no_later_both, no_later_on, second_no_later, emits}
use Rattle.laws_run.specs.WaitingSteps.{is_under_way}

-- ---- times

self_ltb : (n : ℕ) → nat_lt n n ≡ false
self_ltb n = ⊎_elim (λ (its : nat_lt n n ≡ true). absurd (let lt = ltb-true n n its in omega arith)) (λ (its : nat_lt n n ≡ false). its) (cases_Bool (nat_lt n n))

none_and : (b : Bool) → (b && false) ≡ false
none_and true = refl
none_and false = refl

not_self : (m : LaneTime) → is_earlier m m ≡ false
not_self m = rw (self_ltb m.second, self_ltb m.round) (none_and (m.second == m.second))

not_earlier : (a b : LaneTime) → IsNoLater b a → is_earlier a b ≡ false
not_earlier a b low = ⊎_elim
    (λ (c : (is_earlier a b ≡ true) × IsNoLater a b).
    let same : a ≡ b = no_later_both a b c.1 low in
    absurd (true≢false (sym c.0 ∙ ap (is_earlier a) (sym same) ∙ not_self a)))
    (λ (c : (is_earlier a b ≡ false) × IsNoLater b a). c.0)
    (emits a b)

still_earlier : (a f e : LaneTime) → is_earlier a f ≡ true → IsNoLater f e → is_earlier a e ≡ true
still_earlier a f e its low = ⊎_elim
    (λ (c : (is_earlier a e ≡ true) × IsNoLater a e). c.0)
    (λ (c : (is_earlier a e ≡ false) × IsNoLater e a). absurd (true≢false (sym its ∙ not_earlier a f (no_later_on f e a low c.1))))
    (emits a e)

-- ---- how many pass a test, where one of them is set anew

module _ {X : Type 0} (p : X → Bool) where
  abbrev one_if : Bool → ℕ
  one_if b = cond b 1 0

  counted : (x : X) (xs : List X) → count_by p (x ∷ xs) ≡ one_if (p x) + count_by p xs
  counted x xs = sum_by-cons (λ y. cond (p y) 1 0) x xs

  at_most_all : (xs : List X) → count_by p xs ≤ length xs
  at_most_all [] = omega arith
  at_most_all (x ∷ xs) =
      let sum = counted x xs in
      let rest = at_most_all xs in
      let one : one_if (p x) ≤ 1 = elim (p x) as (λ b. one_if b ≤ 1) [ true ↦ omega arith | false ↦ omega arith ] in
      omega arith

  one_more : (xs : List X) (k : ℕ) (x d : X) → k < length xs → p (get_or xs k d) ≡ false → p x ≡ true → count_by p (set xs k x) ≡ count_by p xs + 1
  one_more [] k x d lt before after = absurd (omega arith)
  one_more (y ∷ xs) zero x d lt before after =
      let old = counted y xs in
      let new = counted x xs in
      let none : one_if (p y) ≡ 0 = ap one_if before in
      let one : one_if (p x) ≡ 1 = ap one_if after in
      omega arith
  one_more (y ∷ xs) (suc k) x d lt before after =
      let old = counted y xs in
      let new = counted y (set xs k x) in
      let rest = one_more xs k x d (omega arith) before after in
      omega arith

  no_fewer : (xs : List X) (k : ℕ) (x d : X) → k < length xs → (p (get_or xs k d) ≡ true → p x ≡ true) → count_by p xs ≤ count_by p (set xs k x)
  no_fewer [] k x d lt keeps = absurd (omega arith)
  no_fewer (y ∷ xs) zero x d lt keeps =
      let old = counted y xs in
      let new = counted x xs in
      let preserved : one_if (p y) ≤ one_if (p x) = ⊎_elim
      (λ (its : p y ≡ true). let one : one_if (p x) ≡ 1 = ap one_if (keeps its) in let was : one_if (p y) ≡ 1 = ap one_if its in omega arith)
      (λ (its : p y ≡ false). let none : one_if (p y) ≡ 0 = ap one_if its in omega arith)
      (cases_Bool (p y)) in
      omega arith
  no_fewer (y ∷ xs) (suc k) x d lt keeps =
      let old = counted y xs in
      let new = counted y (set xs k x) in
      let rest = no_fewer xs k x d (omega arith) keeps in
      omega arith

-- ---- lanes

module _ (w : Work) (n : ℕ) (some : 0 < n) (at : LaneTime) where
  abbrev under : List StartedTurn → ℕ
  under taken = count_by (is_under_way w at) taken

  -- lanes that are not free by then
  abbrev busy : List LaneTime → ℕ
  busy free = count_by (is_earlier at) free

  one_on : (taken : List StartedTurn) (ready : Ready) → under taken ≤ busy (free_after w n taken)
      → under (started_in (free_after w n taken) ready ∷ taken) ≤ busy (free_after w n (started_in (free_after w n taken) ready ∷ taken))
  one_on taken ready few =
      let free = free_after w n taken in
      let lane = first_earliest free in
      let new = started_in free ready in
      let end = end_of_turn w new in
      let size : length free ≡ n = length-free w n taken in
      let fits : lane < length free = first_earliest_lt free (omega arith) in
      let begins : IsNoLater (get_or free lane first_lane_time) new.begin = second_no_later ready.at (get_or free lane first_lane_time) in
      let ends : IsNoLater (get_or free lane first_lane_time) end = no_later_on (get_or free lane first_lane_time) new.begin end begins (end_no_earlier new.begin (begun_steps w new.turn)) in
      let sum = counted (is_under_way w at) new taken in
      ⊎_elim
      (λ (its : is_under_way w at new ≡ true).
      let both = and_parts (not (is_earlier at new.begin)) (is_earlier at end) its in
      let begun : IsNoLater new.begin at = begun_by new.begin both.0 in
      let was : is_earlier at (get_or free lane first_lane_time) ≡ false = not_earlier at (get_or free lane first_lane_time) (no_later_on (get_or free lane first_lane_time) new.begin at begins begun) in
      let more = one_more (is_earlier at) free lane end first_lane_time fits was both.1 in
      let one : cond {A = ℕ} (is_under_way w at new) 1 0 ≡ 1 = ap (λ (b : Bool). cond b 1 0) its in
      omega arith)
      (λ (its : is_under_way w at new ≡ false).
      let preserved = no_fewer (is_earlier at) free lane end first_lane_time fits (λ early. still_earlier at (get_or free lane first_lane_time) end early ends) in
      let none : cond {A = ℕ} (is_under_way w at new) 1 0 ≡ 0 = ap (λ (b : Bool). cond b 1 0) its in
      omega arith)
      (cases_Bool (is_under_way w at new))
    where
      begun_by : (begin : LaneTime) → not (is_earlier at begin) ≡ true → IsNoLater begin at
      begun_by begin its = ⊎_elim
          (λ (c : (is_earlier at begin ≡ true) × IsNoLater at begin). absurd (true≢false (sym its ∙ ap not c.0)))
          (λ (c : (is_earlier at begin ≡ false) × IsNoLater begin at). c.1)
          (emits at begin)

  next_on : (taken : List StartedTurn) (located : Option Ready) → under taken ≤ busy (free_after w n taken) → under (with_next w n taken located) ≤ busy (free_after w n (with_next w n taken located))
  next_on taken None few = few
  next_on taken (Some ready) few = one_on taken ready few

  few_under : (count : ℕ) → under (scheduled w n count) ≤ busy (free_after w n (scheduled w n count))
  few_under zero = omega arith
  few_under (suc count) = next_on (scheduled w n count) (first_ready w (scheduled w n count) (turns w)) (few_under count)

  pub few_under_way : under (schedule w n) ≤ n
  few_under_way =
      let few = few_under (length (turns w)) in
      let all = at_most_all (is_earlier at) (free_after w n (schedule w n)) in
      let size = length-free w n (schedule w n) in
      omega arith
