-- The turns of a work by their numbers, and the turns that were taken.
use Rattle.std.proofs.Common.{◌≡◌, ◌≢◌, ℕ, zero, suc, ◌+◌, ◌*◌, ◌<◌, ◌≤◌, Bool, true, false, ◌||◌, List, [], ◌∷◌, ◌++◌, Option, Some, None, cond, get_or, length, refl, sym, ap, ◌∙◌, subst, ⊎_elim, arith, eqb, eq-eqb, ne_eqb, length-append}
use Rattle.std.specs.List.{Contains, flat_map, range_with_len}
use Rattle.std.proofs.lemmas.Bool.{and_parts, cases_Bool, cases_eq, cases_lt, true≢false}
use Rattle.apply_model.specs.declared.script.wait.Wait.{Wait}
use Rattle.apply_model.specs.Script.OutcomeMap.{outcome_of}
use Rattle.apply_model.specs.Script.Waits.{names_a_wait}
use Rattle.apply_events.specs.Step.{Work, kinds_applied}
use Rattle.apply_events.specs.declared.lanes.lane_time.LaneTime.{LaneTime}
use Rattle.apply_events.specs.declared.lanes.turn.StartedTurn.{StartedTurn}
use Rattle.apply_events.specs.declared.lanes.turn.Turn.{Turn}
use Rattle.apply_events.specs.Waits.Done.{done_at, done_in, first_some}
use Rattle.apply_events.specs.Waits.Queue.{one_if, times}
use Rattle.apply_events.specs.Waits.Schedule.{is_same_turn, is_started}
use Rattle.apply_events.specs.Waits.Turn.{single, turns, turns_of, whole}
use Rattle.apply_events.proofs.Waits.Followers.{from_test}
use Rattle.apply_events.proofs.Waits.Once.{IsTurnOf, is_split, same_turn, turn_is}
use Rattle.apply_events.proofs.Waits.Standing.{any_default}
use Rattle.apply_events.proofs.Waits.StartedTurns.{same_itself}
use Rattle.apply_events.proofs.Waits.TurnEvents.{done_in_turn}
use Rattle.apply_events.proofs.Waits.TurnSteps.{begun_within}

-- ---- each turn is another

abbrev key : Turn → ℕ
key turn = 2 * turn.change + turn.first

-- turns of changes below a limit, of steps that their changes have, each after the turns before it
abbrev Ascend : Work → (low limit : ℕ) → List Turn → Type 0
Ascend w low limit [] = Unit {0}
Ascend w low limit (turn ∷ ts) =
    (low ≤ key turn) × (turn.change < limit) × (turn.first + turn.count ≤ length (kinds_applied w.plan w.script turn.change)) × Ascend w (key turn + 1) limit ts

ascend_from : (w : Work) (low high limit : ℕ) (ts : List Turn) → low ≤ high → Ascend w high limit ts → Ascend w low limit ts
ascend_from w low high limit [] le h = tt
ascend_from w low high limit (turn ∷ ts) le h = let first = h.0 in (omega arith, h.1, h.2, h.3)

has_two_steps : (w : Work) (c : ℕ) → is_split w c ≡ true → length (kinds_applied w.plan w.script c) ≡ 2
has_two_steps w c is = from_test (length (kinds_applied w.plan w.script c)) 2 (and_parts (eqb (length (kinds_applied w.plan w.script c)) 2) (names_a_wait (outcome_of w.script c 1)) is).0

ascend_change : (w : Work) (c limit : ℕ) (rest : List Turn) (t : Bool) → is_split w c ≡ t → c < limit → Ascend w (2 * (c + 1)) limit rest
    → Ascend w (2 * c) limit (cond t (single c 0 ∷ single c 1 ∷ []) (whole w c ∷ []) ++ rest)
ascend_change w c limit rest true is lt h =
    let two = has_two_steps w c is in
    (omega arith, lt, omega arith, (omega arith, lt, omega arith, ascend_from w (2 * c + 1 + 1) (2 * (c + 1)) limit rest (omega arith) h))
ascend_change w c limit rest false is lt h =
    (omega arith, lt, omega arith, ascend_from w (2 * c + 0 + 1) (2 * (c + 1)) limit rest (omega arith) h)

ascend_all : (w : Work) (c n limit : ℕ) → c + n ≤ limit → Ascend w (2 * c) limit (flat_map (turns_of w) (range_with_len c n))
ascend_all w c zero limit le = tt
ascend_all w c (suc n) limit le =
    ascend_change w c limit (flat_map (turns_of w) (range_with_len (c + 1) n)) (is_split w c) refl (omega arith) (ascend_all w (c + 1) n limit (omega arith))

pub turns_ascend : (w : Work) → Ascend w 0 (length w.plan.changes) (turns w)
turns_ascend w = ascend_all w 0 (length w.plan.changes) (length w.plan.changes) (omega arith)

few_of_change : (w : Work) (c : ℕ) (t : Bool) → length (cond t (single c 0 ∷ single c 1 ∷ []) (whole w c ∷ [])) ≤ 2
few_of_change w c true = omega arith
few_of_change w c false = omega arith

few_all : (w : Work) (c n : ℕ) → length (flat_map (turns_of w) (range_with_len c n)) ≤ 2 * n
few_all w c zero = omega arith
few_all w c (suc n) =
    let rest = few_all w (c + 1) n in
    let here = few_of_change w c (is_split w c) in
    let all = length-append (turns_of w c) (flat_map (turns_of w) (range_with_len (c + 1) n)) in omega arith

pub few_turns : (w : Work) → length (turns w) ≤ 2 * length w.plan.changes
few_turns w = few_all w 0 (length w.plan.changes)

abbrev pub turn_at : List Turn → ℕ → Turn
turn_at ts number = get_or ts number (record { change = 0; first = 0; count = 0 })

at_number : (w : Work) (low limit : ℕ) (ts : List Turn) (k : ℕ) → Ascend w low limit ts → k < length ts
    → (low ≤ key (turn_at ts k)) × ((turn_at ts k).change < limit) × ((turn_at ts k).first + (turn_at ts k).count ≤ length (kinds_applied w.plan w.script (turn_at ts k).change))
at_number w low limit [] k h lt = absurd (omega arith)
at_number w low limit (turn ∷ ts) zero h lt = (h.0, h.1, h.2)
at_number w low limit (turn ∷ ts) (suc k) h lt =
    let rest = at_number w (key turn + 1) limit ts k h.3 (omega arith) in let first = h.0 in let next = rest.0 in (omega arith, rest.1, rest.2)

pub turn_fits : (w : Work) (k : ℕ) → k < length (turns w)
    → ((turn_at (turns w) k).change < length w.plan.changes) × ((turn_at (turns w) k).first + (turn_at (turns w) k).count ≤ length (kinds_applied w.plan w.script (turn_at (turns w) k).change))
turn_fits w k lt = let all = at_number w 0 (length w.plan.changes) (turns w) k (turns_ascend w) lt in (all.1, all.2)

apart : (w : Work) (low limit : ℕ) (ts : List Turn) (k j : ℕ) → Ascend w low limit ts → k < j → j < length ts → key (turn_at ts k) < key (turn_at ts j)
apart w low limit [] k j h less lt = absurd (omega arith)
apart w low limit (turn ∷ ts) k zero h less lt = absurd (omega arith)
apart w low limit (turn ∷ ts) zero (suc j) h less lt = let rest = (at_number w (key turn + 1) limit ts j h.3 (omega arith)).0 in omega arith
apart w low limit (turn ∷ ts) (suc k) (suc j) h less lt = apart w (key turn + 1) limit ts k j h.3 (omega arith) (omega arith)

same_number : (w : Work) (k j : ℕ) → k < length (turns w) → j < length (turns w) → is_same_turn (turn_at (turns w) k) (turn_at (turns w) j) ≡ true → k ≡ j
same_number w k j lk lj same =
    let a = turn_at (turns w) k in let b = turn_at (turns w) j in
    let both = and_parts (eqb a.change b.change) (eqb a.first b.first) same in
    let change = from_test a.change b.change both.0 in
    let first = from_test a.first b.first both.1 in ⊎_elim
    (λ (less : k < j). let low = apart w 0 (length w.plan.changes) (turns w) k j (turns_ascend w) less lj in absurd (omega arith))
    (λ (ge : j ≤ k). ⊎_elim
    (λ (more : j < k). let low = apart w 0 (length w.plan.changes) (turns w) j k (turns_ascend w) more lk in absurd (omega arith))
    (λ (le : k ≤ j). omega arith)
    (cases_lt j k))
    (cases_lt k j)

pub turn_in : (ts : List Turn) (k : ℕ) → k < length ts → Contains ts (turn_at ts k)
turn_in ts k lt = (k, lt, any_default ts k (turn_at ts k) (record { change = 0; first = 0; count = 0 }) lt)

-- ---- the turns that were taken

-- those turns have these numbers
abbrev pub HaveNumbers : List Turn → List ℕ → List StartedTurn → Type 0
HaveNumbers ts [] [] = Unit {0}
HaveNumbers ts [] (one ∷ started) = ⊥
HaveNumbers ts (number ∷ numbers) [] = ⊥
HaveNumbers ts (number ∷ numbers) (one ∷ started) = (number < length ts) × (one.turn ≡ turn_at ts number) × HaveNumbers ts numbers started

module _ (w : Work) where
  pub not_started : (numbers : List ℕ) (started : List StartedTurn) (k : ℕ) → HaveNumbers (turns w) numbers started → k < length (turns w) → times k numbers ≡ 0 → is_started started (turn_at (turns w) k) ≡ false
  not_started [] [] k h lt none = refl
  not_started [] (one ∷ started) k h lt none = absurd h
  not_started (number ∷ numbers) [] k h lt none = absurd h
  not_started (number ∷ numbers) (one ∷ started) k h lt none =
      let rest : is_started started (turn_at (turns w) k) ≡ false = not_started numbers started k h.2 lt (omega arith) in
      let other : number ≢ k = λ is. (let itself = ap one_if (eq-eqb number k is) in absurd (omega arith)) in ⊎_elim
      (λ (same : is_same_turn one.turn (turn_at (turns w) k) ≡ true).
      absurd (other (same_number w number k h.0 lt (sym (ap (λ t. is_same_turn t (turn_at (turns w) k)) h.1) ∙ same))))
      (λ (differ : is_same_turn one.turn (turn_at (turns w) k) ≡ false). ap (λ t. t || is_started started (turn_at (turns w) k)) differ ∙ rest)
      (cases_Bool (is_same_turn one.turn (turn_at (turns w) k)))

  either : (t u : Bool) → u ≡ true → (t || u) ≡ true
  either true u is = refl
  either false u is = is

  pub was_started : (numbers : List ℕ) (started : List StartedTurn) (k : ℕ) → HaveNumbers (turns w) numbers started → 0 < times k numbers → is_started started (turn_at (turns w) k) ≡ true
  was_started [] started k h some = absurd (omega arith)
  was_started (number ∷ numbers) [] k h some = absurd h
  was_started (number ∷ numbers) (one ∷ started) k h some = ⊎_elim
      (λ (is : number ≡ k).
      let same : is_same_turn one.turn (turn_at (turns w) k) ≡ true = ap (λ t. is_same_turn t (turn_at (turns w) k)) (h.1 ∙ ap (turn_at (turns w)) is) ∙ same_itself (turn_at (turns w) k) in
      ap (λ t. t || is_started started (turn_at (turns w) k)) same)
      (λ (ne : number ≢ k).
      let off = ap one_if (ne_eqb number k ne) in
      either (is_same_turn one.turn (turn_at (turns w) k)) (is_started started (turn_at (turns w) k)) (was_started numbers started k h.2 (omega arith)))
      (cases_eq number k)

  or_off : (t u : Bool) → (t || u) ≡ false → (t ≡ false) × (u ≡ false)
  or_off true u is = absurd cc
  or_off false u is = (refl, is)

  -- no step of a turn is done before the turn is taken
  pub not_done : (numbers : List ℕ) (started : List StartedTurn) (k step : ℕ) → HaveNumbers (turns w) numbers started → k < length (turns w) → is_started started (turn_at (turns w) k) ≡ false
      → (turn_at (turns w) k).first ≤ step → step < (turn_at (turns w) k).first + (turn_at (turns w) k).count
      → done_at w started (record { change = (turn_at (turns w) k).change; step = step }) ≡ None
  not_done [] [] k step h lt new low high = refl
  not_done [] (one ∷ started) k step h lt new low high = absurd h
  not_done (number ∷ numbers) [] k step h lt new low high = absurd h
  not_done (number ∷ numbers) (one ∷ started) k step h lt new low high =
      let turn = turn_at (turns w) k in
      let name : Wait = record { change = turn.change; step = step } in
      let both = or_off (is_same_turn one.turn turn) (is_started started turn) new in
      let here : done_in w one name ≡ None = by_answer one name (done_in w one name) refl (λ m is. (
      let there = done_in_turn w one name m is in
      let within = begun_within w one.turn there.step.0 there.step.1 in
      let at = there.step.2 in let from = within.0 in let to = within.1 in
      let its = turn_is w (turn_at (turns w) number) (turn_in (turns w) number h.0) in
      let mine = subst (λ t. IsTurnOf w t.change t) (sym h.1) its in
      let same : one.turn ≡ turn = same_turn w turn.change step one.turn turn (subst (λ c. IsTurnOf w c one.turn) there.change mine) (turn_is w turn (turn_in (turns w) k lt))
      (omega arith) (omega arith) low high in
      true≢false (sym (ap (λ t. is_same_turn t turn) same ∙ same_itself turn) ∙ both.0))) in
      ap (λ f. first_some f (done_at w started name)) here ∙ not_done numbers started k step h.2 lt both.1 low high
    where
      by_answer : (one : StartedTurn) (name : Wait) (answer : Option LaneTime) → done_in w one name ≡ answer → ((m : LaneTime) → done_in w one name ≡ Some m → ⊥) → done_in w one name ≡ None
      by_answer one name None is never = is
      by_answer one name (Some m) is never = absurd (never m is)
