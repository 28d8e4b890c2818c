-- The turn that is ready first is taken.
use Rattle.std.proofs.Common.{◌≡◌, ◌≢◌, ℕ, ◌+◌, ◌<◌, ◌≤◌, false, List, [], ◌∷◌, Option, cond, length, refl, sym, ap, ◌∙◌, subst, ⊎_elim, ◌⊎◌, inl, inr, arith, eqb, eq-eqb, ne_eqb, lt-ltb, le-ltb}
use Rattle.std.specs.BinaryHeap.{IsHeap, IsUpperBound}
use Rattle.std.specs.List.{AllByRecursion, Contains}
use Rattle.std.specs.Ordering.{is_lt, nat_cmp, ordering_then}
use Rattle.std.specs.declared.cmp.Ordering.TheVariants.{Less, Equal, Greater}
use Rattle.std.specs.List.Sorted.{IsPermutation}
use Rattle.std.specs.declared.cmp.Reverse.{Reverse}
use Rattle.std.proofs.lemmas.Bool.{cases_eq, cases_lt, true≢false}
use Rattle.std.proofs.lemmas.List.Elements.{All-head, All-tail}
use Rattle.std.proofs.lemmas.List.Sorted.{All-permutation, sum_by_popped}
use Rattle.std.proofs.lemmas.List.Sums.{sum_by-cons}
use Rattle.apply_model.specs.declared.script.wait.Wait.{Wait}
use Rattle.apply_events.specs.declared.lanes.lane_time.LaneTime.{LaneTime}
use Rattle.apply_events.specs.declared.lanes.queue.ReadyTurn.{ReadyTurn}
use Rattle.apply_events.specs.declared.lanes.queue.Waiting.{Waiting}
use Rattle.apply_events.specs.Waits.LaneTime.{IsNoLater, first_lane_time}
use Rattle.apply_events.specs.Waits.Queue.{IsDue, IsFirstDue, IsRipe, Stands, ready_round_of, names_at, one_if, ready_cmp, reverse_cmp, standing, waiting_at}
use Rattle.apply_events.proofs.Waits.Members.{in_cases, in_head, in_tail, not_in_none}
use Rattle.apply_events.proofs.Waits.TurnSteps.{all_at}

some_stand : (number : ℕ) (ready : List (Reverse ReadyTurn)) → 0 < standing number ready → (one : Reverse ReadyTurn) × Contains ready one × (one.0.number ≡ number)
some_stand number [] some = absurd (omega arith)
some_stand number (one ∷ ready) some =
    let sum = sum_by-cons (λ (x : Reverse ReadyTurn). one_if (eqb x.0.number number)) one ready in ⊎_elim
    (λ (is : one.0.number ≡ number). (one, in_head one ready, is))
    (λ (ne : one.0.number ≢ number).
    let off = ap one_if (ne_eqb one.0.number number ne) in
    let rest = some_stand number ready (omega arith) in (rest.0, in_tail one ready rest.0 rest.1, rest.2))
    (cases_eq one.0.number number)

pub none_stand : (waiting : List Waiting) (number : ℕ) (ready : List (Reverse ReadyTurn)) → length waiting ≤ number → AllByRecursion (IsRipe waiting) ready → standing number ready ≡ 0
none_stand waiting number [] high ripe = refl
none_stand waiting number (one ∷ ready) high ripe =
    let sum = sum_by-cons (λ (x : Reverse ReadyTurn). one_if (eqb x.0.number number)) one ready in
    let low = ripe.0.0 in
    let off = ap one_if (ne_eqb one.0.number number (omega arith)) in
    let rest = none_stand waiting number ready high ripe.1 in omega arith

-- what the order of ready turns means
three : (a b : ℕ) → ((a < b) × (nat_cmp a b ≡ Less)) ⊎ ((a ≡ b) × (nat_cmp a b ≡ Equal)) ⊎ ((b < a) × (nat_cmp a b ≡ Greater))
three a b = ⊎_elim
    (λ (lt : a < b). inl (lt, ap (λ t. cond t Less (cond (eqb a b) Equal Greater)) (lt-ltb a b lt)))
    (λ (ge : b ≤ a). inr (
    let late = ap (λ t. cond t Less (cond (eqb a b) Equal Greater)) (le-ltb a b ge) in ⊎_elim
    (λ (is : a ≡ b). inl (is, late ∙ ap (λ t. cond t Equal Greater) (eq-eqb a b is)))
    (λ (ne : a ≢ b). inr (omega arith, late ∙ ap (λ t. cond t Equal Greater) (ne_eqb a b ne)))
    (cases_eq a b)))
    (cases_lt a b)

module _ (a b : ReadyTurn) (late : is_lt (ready_cmp b a) ≡ false) where
  abbrev IsNotBefore : Type 0
  IsNotBefore = IsNoLater a.at b.at × (a.at ≡ b.at → a.number ≤ b.number)

  by_number : b.at.second ≡ a.at.second → b.at.round ≡ a.at.round → nat_cmp b.at.second a.at.second ≡ Equal → nat_cmp b.at.round a.at.round ≡ Equal → IsNotBefore
  by_number second round seconds rounds =
      let numbers : is_lt (nat_cmp b.number a.number) ≡ false =
      sym (ap (λ o. is_lt (ordering_then (ordering_then o (nat_cmp b.at.round a.at.round)) (nat_cmp b.number a.number))) seconds
      ∙ ap (λ o. is_lt (ordering_then o (nat_cmp b.number a.number))) rounds) ∙ late in (
        (omega arith, λ _. omega arith),
        λ _. ⊎_elim
            (λ (lt : (b.number < a.number) × (nat_cmp b.number a.number ≡ Less)). absurd (true≢false (sym (ap is_lt lt.1) ∙ numbers)))
            (λ (other : ((b.number ≡ a.number) × (nat_cmp b.number a.number ≡ Equal)) ⊎ ((a.number < b.number) × (nat_cmp b.number a.number ≡ Greater))). ⊎_elim
            (λ (same : (b.number ≡ a.number) × (nat_cmp b.number a.number ≡ Equal)). let is = same.0 in omega arith)
            (λ (less : (a.number < b.number) × (nat_cmp b.number a.number ≡ Greater)). let is = less.0 in omega arith)
            other)
            (three b.number a.number),
      )

  by_round : b.at.second ≡ a.at.second → nat_cmp b.at.second a.at.second ≡ Equal → IsNotBefore
  by_round second seconds = ⊎_elim
      (λ (lt : (b.at.round < a.at.round) × (nat_cmp b.at.round a.at.round ≡ Less)).
      absurd (true≢false (sym (ap (λ o. is_lt (ordering_then (ordering_then o (nat_cmp b.at.round a.at.round)) (nat_cmp b.number a.number))) seconds
      ∙ ap (λ o. is_lt (ordering_then o (nat_cmp b.number a.number))) lt.1) ∙ late)))
      (λ (other : ((b.at.round ≡ a.at.round) × (nat_cmp b.at.round a.at.round ≡ Equal)) ⊎ ((a.at.round < b.at.round) × (nat_cmp b.at.round a.at.round ≡ Greater))). ⊎_elim
      (λ (same : (b.at.round ≡ a.at.round) × (nat_cmp b.at.round a.at.round ≡ Equal)). by_number second same.0 seconds same.1)
      (λ (less : (a.at.round < b.at.round) × (nat_cmp b.at.round a.at.round ≡ Greater)).
      let is = less.0 in ((omega arith, λ _. omega arith), λ same. (let round = ap (λ (m : LaneTime). m.round) same in absurd (omega arith))))
      other)
      (three b.at.round a.at.round)

  not_before : IsNotBefore
  not_before = ⊎_elim
      (λ (lt : (b.at.second < a.at.second) × (nat_cmp b.at.second a.at.second ≡ Less)).
      absurd (true≢false (sym (ap (λ o. is_lt (ordering_then (ordering_then o (nat_cmp b.at.round a.at.round)) (nat_cmp b.number a.number))) lt.1) ∙ late)))
      (λ (other : ((b.at.second ≡ a.at.second) × (nat_cmp b.at.second a.at.second ≡ Equal)) ⊎ ((a.at.second < b.at.second) × (nat_cmp b.at.second a.at.second ≡ Greater))). ⊎_elim
      (λ (same : (b.at.second ≡ a.at.second) × (nat_cmp b.at.second a.at.second ≡ Equal)). by_round same.0 same.1)
      (λ (less : (a.at.second < b.at.second) × (nat_cmp b.at.second a.at.second ≡ Greater)).
      let is = less.0 in ((omega arith, λ same. absurd (omega arith)), λ same. (let second = ap (λ (m : LaneTime). m.second) same in absurd (omega arith))))
      other)
      (three b.at.second a.at.second)

bounded : (x : Reverse ReadyTurn) (ready : List (Reverse ReadyTurn)) (one : Reverse ReadyTurn) → IsUpperBound reverse_cmp x ready → Contains ready one → is_lt (reverse_cmp x one) ≡ false
bounded x [] one bound there = absurd (not_in_none one there)
bounded x (y ∷ ready) one bound there = ⊎_elim
    (λ (is : y ≡ one). subst (λ z. is_lt (reverse_cmp x z) ≡ false) is bound.0)
    (λ (later : Contains ready one). bounded x ready one bound.1 later)
    (in_cases y ready one there)

module _ (names : List (List Wait)) (done : Wait → Option LaneTime) (started : List ℕ) (waiting : List Waiting) (ready : List (Reverse ReadyTurn)) (h : Stands names done [] first_lane_time started waiting ready) where
  -- a due turn is in the list of ready turns, and its time is known
  due_stands : (number : ℕ) → IsDue names done started number → 0 < standing number ready
  due_stands number due =
      let lt = due.0 in
      let missing = h.missing number lt in
      let none = due.1 in
      let each = h.each number lt in
      let new = due.2 in
      let zero : (waiting_at waiting number).missing ≡ 0 = omega arith in
      let one = ap one_if (eq-eqb (waiting_at waiting number).missing 0 zero) in omega arith

  pub none_due : ready ≡ [] → (number : ℕ) → IsDue names done started number → ⊥
  none_due empty number due = let some = due_stands number due in let none = ap (standing number) empty in absurd (omega arith)

  module _ (one : ReadyTurn) (rest : List (Reverse ReadyTurn)) (moved : IsPermutation ready (record { 0 = one } ∷ rest)) where
    first_ripe : IsRipe waiting (record { 0 = one })
    first_ripe = All-head (IsRipe waiting) (record { 0 = one }) rest (All-permutation (IsRipe waiting) ready (record { 0 = one } ∷ rest) moved h.ripe)

    popped : (number : ℕ) → standing number rest + one_if (eqb one.number number) ≡ standing number ready
    popped number = sum_by_popped (λ (x : Reverse ReadyTurn). one_if (eqb x.0.number number)) (record { 0 = one }) ready rest moved

    pub is_started_first : IsUpperBound reverse_cmp (record { 0 = one }) ready → IsFirstDue names done started one
    is_started_first bound =
        let size = h.size in
        let low = first_ripe.0 in
        let number = one.number in
        let missing = h.missing number (omega arith) in
        let none = first_ripe.1 in
        let each = h.each number (omega arith) in
        let full = ap one_if (eq-eqb (waiting_at waiting number).missing 0 none) in
        let mine = ap one_if (eq-eqb number number refl) in
        let sum = popped number in
        record {
          due = (omega arith, omega arith, omega arith);
          at = sym (h.late number (omega arith)) ∙ first_ripe.2;
          first = λ other due. (
              let answer = some_stand other ready (due_stands other due) in
              let ripe = all_at (IsRipe waiting) ready answer.0 h.ripe answer.1 in
              let late : answer.0.0.at ≡ ready_round_of done (names_at names other) = sym ripe.2 ∙ ap (λ j. (waiting_at waiting j).at) answer.2 ∙ h.late other due.0 in
              let order = not_before one answer.0.0 (bounded (record { 0 = one }) ready answer.0 bound answer.1) in
              let is = answer.2 in
              (subst (IsNoLater one.at) late order.0, λ same. (let before = order.1 (same ∙ sym late) in omega arith)));
        }

    pub is_started_out : IsHeap reverse_cmp rest → Stands names done [] first_lane_time (one.number ∷ started) waiting rest
    is_started_out heap = record {
      size = h.size;
      known = tt;
      missing = h.missing;
      late = h.late;
      ripe = All-tail (IsRipe waiting) (record { 0 = one }) rest (All-permutation (IsRipe waiting) ready (record { 0 = one } ∷ rest) moved h.ripe);
      each = λ number lt. (let each = h.each number lt in let sum = popped number in omega arith);
      heap = heap;
    }
