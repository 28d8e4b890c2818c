-- The turn that the queue gives is the one that is ready first.
use Rattle.std.proofs.Common.{◌≡◌, ◌≢◌, ℕ, zero, suc, ◌+◌, ◌<◌, ◌≤◌, true, false, List, [], ◌∷◌, Option, Some, None, cond, length, map, refl, sym, ap, ◌∙◌, subst, ⊎_elim, arith}
use Rattle.std.specs.Prelude.{option_map}
use Rattle.std.proofs.lemmas.Bool.{cases_Bool, cases_lt, true≢false}
use Rattle.std.proofs.lemmas.List.{get_or-map, length-map}
use Rattle.apply_model.specs.declared.script.wait.Wait.{Wait}
use Rattle.apply_events.specs.Step.{Work}
use Rattle.apply_events.specs.declared.lanes.lane_time.LaneTime.{LaneTime}
use Rattle.apply_events.specs.declared.lanes.queue.ReadyTurn.{ReadyTurn}
use Rattle.apply_events.specs.declared.lanes.turn.StartedTurn.{StartedTurn}
use Rattle.apply_events.specs.declared.lanes.turn.Turn.{Turn}
use Rattle.apply_events.specs.Waits.Done.{done_at, done_by, later_if_both, ready_at}
use Rattle.apply_events.specs.Waits.LaneTime.{IsNoLater, is_earlier, next_round}
use Rattle.apply_events.specs.Waits.Queue.{IsDue, IsFirstDue, later_round_if, ready_round_of, names_at, missing_if, missing_count, times, turn_waits}
use Rattle.apply_events.specs.Waits.Schedule.{Ready, earlier_of, first_ready, is_started, next_of, ready_turn, scheduled, with_next}
use Rattle.apply_events.specs.Waits.Turn.{turns}
use Rattle.apply_events.proofs.Waits.Merge.{not_before_itself}
use Rattle.apply_events.proofs.Waits.Moments.{no_later_both, emits}
use Rattle.apply_events.proofs.Waits.Standing.{any_default}
use Rattle.apply_events.proofs.Waits.StartedTurns.{is_fit}
use Rattle.apply_events.proofs.Waits.TurnNumbers.{HaveNumbers, not_started, turn_at, was_started}

-- ---- when some steps are all done

all_done : (w : Work) (started : List StartedTurn) (names : List Wait) → missing_count (done_at w started) names ≡ 0 → done_by w started names ≡ Some (ready_round_of (done_at w started) names)
all_done w started [] none = refl
all_done w started (name ∷ names) none =
    by_answer (done_at w started name) (done_by w started names) (ready_round_of (done_at w started) names) (λ _. all_done w started names (omega arith)) none
  where
    by_answer : (answer rest : Option LaneTime) (late : LaneTime) → (missing_if answer + missing_count (done_at w started) names ≡ 0 → rest ≡ Some late) → missing_if answer + missing_count (done_at w started) names ≡ 0
        → later_if_both (option_map next_round answer) rest ≡ Some (later_round_if answer late)
    by_answer None rest late h none = absurd (omega arith)
    by_answer (Some m) rest late h none = ap (λ r. later_if_both (Some (next_round m)) r) (h none)

when_done : (w : Work) (started : List StartedTurn) (names : List Wait) (at : LaneTime) → done_by w started names ≡ Some at → missing_count (done_at w started) names ≡ 0
when_done w started [] at is = refl
when_done w started (name ∷ names) at is = by_answer (done_at w started name) (done_by w started names) is (λ m answer. when_done w started names m answer)
  where
    by_answer : (answer rest : Option LaneTime) → later_if_both (option_map next_round answer) rest ≡ Some at → ((m : LaneTime) → rest ≡ Some m → missing_count (done_at w started) names ≡ 0)
        → missing_if answer + missing_count (done_at w started) names ≡ 0
    by_answer None rest is h = absurd cc
    by_answer (Some m) None is h = absurd cc
    by_answer (Some m) (Some late) is h = let none = h late refl in omega arith

-- ---- the first of several

not_earlier : (a b : LaneTime) → IsNoLater a b → is_earlier b a ≡ false
not_earlier a b le = ⊎_elim
    (λ (c : (is_earlier b a ≡ true) × IsNoLater b a). let same = no_later_both a b le c.1 in ap (λ m. is_earlier m a) (sym same) ∙ not_before_itself a)
    (λ (c : (is_earlier b a ≡ false) × IsNoLater a b). c.0)
    (emits b a)

strictly : (a b : LaneTime) → IsNoLater a b → a ≢ b → is_earlier a b ≡ true
strictly a b le ne = ⊎_elim
    (λ (c : (is_earlier a b ≡ true) × IsNoLater a b). c.0)
    (λ (c : (is_earlier a b ≡ false) × IsNoLater b a). absurd (ne (no_later_both a b le c.1)))
    (emits a b)

module _ (w : Work) (started : List StartedTurn) where
  is_next : (turn : Turn) (at : LaneTime) → is_started started turn ≡ false → ready_at w started turn ≡ Some at → next_of w started turn ≡ Some (ready_turn turn at)
  is_next turn at new ready = ap (λ t. cond t None (option_map (ready_turn turn) (ready_at w started turn))) new ∙ ap (option_map (ready_turn turn)) ready

  -- none of these turns is ready before turn k, or at the same time with a lower number
  abbrev IsBefore : (ready : Ready) (k j : ℕ) → Option Ready → Type 0
  IsBefore ready k j None = Unit {0}
  IsBefore ready k j (Some other) = IsNoLater ready.at other.at × (ready.at ≡ other.at → k ≤ j)

  before_on : (ready : Ready) (k j : ℕ) (answer : Option Ready) → IsBefore ready (suc k) (suc j) answer → IsBefore ready k j answer
  before_on ready k j None h = tt
  before_on ready k j (Some other) h = (h.0, λ same. (let le = h.1 same in omega arith))

  first_of_rest : (ts : List Turn) (ready : Ready) (answer : Option Ready) → first_ready w started ts ≡ answer
      → ((j : ℕ) → j < length ts → IsBefore ready 0 (suc j) (next_of w started (turn_at ts j))) → earlier_of (Some ready) answer ≡ Some ready
  first_of_rest ts ready None is h = refl
  first_of_rest ts ready (Some other) is h =
      let fit = is_fit w started ts other is in
      let j = fit.is_known.0 in
      let there : turn_at ts j ≡ other.turn = any_default ts j (record { change = 0; first = 0; count = 0 }) other.turn fit.is_known.1 ∙ fit.is_known.2 in
      let its : next_of w started (turn_at ts j) ≡ Some (ready_turn other.turn other.at) = ap (next_of w started) there ∙ is_next other.turn other.at fit.is_new fit.is_ready in
      let before = subst (IsBefore ready 0 (suc j)) its (h j fit.is_known.1) in
      ap (λ t. cond t (Some other) (Some ready)) (not_earlier ready.at other.at before.0)

  first_after : (ready : Ready) (k : ℕ) (head : Option Ready) → IsBefore ready (suc k) 0 head → earlier_of head (Some ready) ≡ Some ready
  first_after ready k None h = refl
  first_after ready k (Some other) h =
      ap (λ t. cond t (Some ready) (Some other)) (strictly ready.at other.at h.0 (λ same. (let le = h.1 same in absurd (omega arith))))

  first_is : (ts : List Turn) (k : ℕ) (ready : Ready) → k < length ts → next_of w started (turn_at ts k) ≡ Some ready
      → ((j : ℕ) → j < length ts → IsBefore ready k j (next_of w started (turn_at ts j))) → first_ready w started ts ≡ Some ready
  first_is [] k ready lt is h = absurd (omega arith)
  first_is (turn ∷ ts) zero ready lt is h =
      ap (λ o. earlier_of o (first_ready w started ts)) is ∙ first_of_rest ts ready (first_ready w started ts) refl (λ j less. h (suc j) (omega arith))
  first_is (turn ∷ ts) (suc k) ready lt is h =
      ap (earlier_of (next_of w started turn)) (first_is ts k ready (omega arith) is (λ j less. before_on ready k j (next_of w started (turn_at ts j)) (h (suc j) (omega arith))))
      ∙ first_after ready k (next_of w started turn) (h 0 (omega arith))

some_same : (a b : Ready) → Some a ≡ Some b → a ≡ b
some_same a b is = cc

-- ---- what the queue gives

module _ (w : Work) (started : List StartedTurn) (numbers : List ℕ) (h : HaveNumbers (turns w) numbers started) where
  abbrev pub all_names : List (List Wait)
  all_names = map (turn_waits w.script) (turns w)

  names_of : (k : ℕ) → k < length (turns w) → names_at all_names k ≡ turn_waits w.script (turn_at (turns w) k)
  names_of k lt = get_or-map (turn_waits w.script) (turns w) k (record { change = 0; first = 0; count = 0 }) [] lt

  count : length all_names ≡ length (turns w)
  count = length-map (turns w) (turn_waits w.script)

  due_next : (k : ℕ) → IsDue all_names (done_at w started) numbers k
      → next_of w started (turn_at (turns w) k) ≡ Some (ready_turn (turn_at (turns w) k) (ready_round_of (done_at w started) (names_at all_names k)))
  due_next k due =
      let size = count in let low = due.0 in
      let lt : k < length (turns w) = omega arith in
      let turn = turn_at (turns w) k in
      let ready : ready_at w started turn ≡ Some (ready_round_of (done_at w started) (names_at all_names k)) =
      ap (done_by w started) (sym (names_of k lt)) ∙ all_done w started (names_at all_names k) due.1 in
      is_next w started turn (ready_round_of (done_at w started) (names_at all_names k)) (not_started w numbers started k h lt due.2) ready

  next_due : (k : ℕ) → k < length (turns w) → (other : Ready) → next_of w started (turn_at (turns w) k) ≡ Some other → IsDue all_names (done_at w started) numbers k
  next_due k lt other is =
      let size = count in
      let turn = turn_at (turns w) k in
      let new : is_started started turn ≡ false = ⊎_elim
      (λ (yes : is_started started turn ≡ true). (let none : None ≡ Some other = sym (ap (λ t. cond t None (option_map (ready_turn turn) (ready_at w started turn))) yes) ∙ is in absurd cc))
      (λ (new : is_started started turn ≡ false). new)
      (cases_Bool (is_started started turn)) in
      let never : times k numbers ≡ 0 = ⊎_elim
      (λ (some : 0 < times k numbers). absurd (true≢false (sym (was_started w numbers started k h some) ∙ new)))
      (λ (none : times k numbers ≤ 0). omega arith)
      (cases_lt 0 (times k numbers)) in
      let ready = sym (ap (λ t. cond t None (option_map (ready_turn turn) (ready_at w started turn))) new) ∙ is in
      let done = by_answer turn (ready_at w started turn) other ready in
      let closed : missing_count (done_at w started) (names_at all_names k) ≡ 0 = ap (missing_count (done_at w started)) (names_of k lt) ∙ when_done w started (turn_waits w.script turn) done.0 done.1 in
      (omega arith, closed, never)
    where
      by_answer : (turn : Turn) (answer : Option LaneTime) (other : Ready) → option_map (ready_turn turn) answer ≡ Some other → (at : LaneTime) × (answer ≡ Some at)
      by_answer turn None other is = absurd cc
      by_answer turn (Some at) other is = (at, refl)

  pub first_due : (one : ReadyTurn) → IsFirstDue all_names (done_at w started) numbers one
      → first_ready w started (turns w) ≡ Some (ready_turn (turn_at (turns w) one.number) one.at)
  first_due one first =
      let size = count in let low = first.due.0 in
      let turn = turn_at (turns w) one.number in
      first_is w started (turns w) one.number (ready_turn turn one.at) (omega arith)
      (due_next one.number first.due ∙ ap (λ m. let r : Option Ready = Some (ready_turn turn m) in r) first.at)
      (λ j lt. each j lt (next_of w started (turn_at (turns w) j)) refl)
    where
      each : (j : ℕ) → j < length (turns w) → (answer : Option Ready) → next_of w started (turn_at (turns w) j) ≡ answer → IsBefore w started (ready_turn (turn_at (turns w) one.number) one.at) one.number j answer
      each j lt None is = tt
      each j lt (Some other) is =
          let due = next_due j lt other is in
          let same : ready_turn (turn_at (turns w) j) (ready_round_of (done_at w started) (names_at all_names j)) ≡ other = some_same _ _ (sym (due_next j due) ∙ is) in
          let at : ready_round_of (done_at w started) (names_at all_names j) ≡ other.at = ap (λ (r : Ready). r.at) same in
          let order = first.first j due in
          (subst (IsNoLater one.at) at order.0, λ is. order.1 (is ∙ sym at))

  pub none_first : ((k : ℕ) → IsDue all_names (done_at w started) numbers k → ⊥) → first_ready w started (turns w) ≡ None
  none_first never = by_answer (first_ready w started (turns w)) refl
    where
      by_answer : (answer : Option Ready) → first_ready w started (turns w) ≡ answer → answer ≡ None
      by_answer None is = refl
      by_answer (Some other) is =
          let fit = is_fit w started (turns w) other is in
          let j = fit.is_known.0 in
          let there : turn_at (turns w) j ≡ other.turn = any_default (turns w) j (record { change = 0; first = 0; count = 0 }) other.turn fit.is_known.1 ∙ fit.is_known.2 in
          absurd (never j (next_due j fit.is_known.1 (ready_turn other.turn other.at) (ap (next_of w started) there ∙ is_next w started other.turn other.at fit.is_new fit.is_ready)))

-- ---- where none is ready the schedule is over

pub is_over : (w : Work) (n count : ℕ) → first_ready w (scheduled w n count) (turns w) ≡ None → (more : ℕ) → scheduled w n (more + count) ≡ scheduled w n count
is_over w n count none zero = ap (scheduled w n) (let same : zero + count ≡ count = omega arith in same)
is_over w n count none (suc more) =
    let next : suc more + count ≡ suc (more + count) = omega arith in
    let rest = is_over w n count none more in
    ap (scheduled w n) next
    ∙ ap (λ l. with_next w n l (first_ready w l (turns w))) rest
    ∙ ap (with_next w n (scheduled w n count)) none
