-- The turns of the schedule: one after another, each ready and not started before.
use Rattle.std.proofs.Common.{◌≡◌, ℕ, zero, suc, ◌+◌, ◌<◌, ◌≤◌, All, List, [], ◌∷◌, ◌++◌, Bool, true, false, ◌||◌, ◌&&◌, Option, Some, None, cond, get_or, length, refl, sym, ap, ◌∙◌, subst, ⊎_elim, ◌⊎◌, inl, inr, arith, eqb, eq-eqb}
use Rattle.std.specs.Prelude.{option_map}
use Rattle.std.specs.List.{Contains}
use Rattle.std.proofs.lemmas.List.Elements.{All-cons, All-nil, All-weaker}
use Rattle.apply_events.specs.Step.{Work}
use Rattle.apply_events.specs.declared.lanes.turn.StartedTurn.{StartedTurn}
use Rattle.apply_events.specs.Waits.Done.{end_of_turn, ready_at}
use Rattle.apply_events.specs.declared.lanes.lane_time.LaneTime.{LaneTime}
use Rattle.apply_events.specs.Waits.LaneTime.{IsNoLater, first_lane_time, is_earlier, later_of}
use Rattle.apply_events.specs.Waits.Schedule.{Ready, earlier_of, first_earliest, first_ready, free_after, is_same_turn, is_started, next_of, ready_turn, schedule, scheduled, started_in, with_next}
use Rattle.apply_events.specs.Waits.StartedTurns.{IsFree, IsReady, WereStarted}
use Rattle.apply_events.specs.declared.lanes.turn.Turn.{Turn}
use Rattle.apply_events.specs.Waits.Turn.{turns}
use Rattle.apply_events.proofs.Waits.Free.{first_earliest_lt, have_ended, length-free}
use Rattle.apply_events.proofs.Waits.Members.{in_head, in_tail}
use Rattle.apply_events.proofs.Waits.Moments.{first_no_later, no_later_on, second_no_later}

-- ---- a fact of each start, in view of the starts before it

abbrev pub EachAfter : (List StartedTurn → StartedTurn → Type 0) → List StartedTurn → Type 0
EachAfter P [] = Unit {0}
EachAfter P (one ∷ before) = P before one × EachAfter P before

pub each_split : (P : List StartedTurn → StartedTurn → Type 0) (later before : List StartedTurn) (one : StartedTurn) (started : List StartedTurn) → EachAfter P started → started ≡ later ++ one ∷ before → P before one
each_split P [] before one [] h is = absurd cc
each_split P [] before one (x ∷ xs) h is =
    let first : x ≡ one = cc in let rest : xs ≡ before = cc in subst (λ l. P l one) rest (subst (P xs) first h.0)
each_split P (l ∷ later) before one [] h is = absurd cc
each_split P (l ∷ later) before one (x ∷ xs) h is = each_split P later before one xs h.1 cc

module _ (w : Work) (n : ℕ) (P : List StartedTurn → StartedTurn → Type 0)
    (next : (count : ℕ) (ready : Ready) → first_ready w (scheduled w n count) (turns w) ≡ Some ready
    → P (scheduled w n count) (started_in (free_after w n (scheduled w n count)) ready)) where
  one_more : (count : ℕ) (answer : Option Ready) → first_ready w (scheduled w n count) (turns w) ≡ answer → EachAfter P (scheduled w n count)
      → EachAfter P (with_next w n (scheduled w n count) answer)
  one_more count None is h = h
  one_more count (Some ready) is h = (next count ready is, h)

  pub each_scheduled : (count : ℕ) → EachAfter P (scheduled w n count)
  each_scheduled zero = tt
  each_scheduled (suc count) = one_more count (first_ready w (scheduled w n count) (turns w)) refl (each_scheduled count)

-- ---- the turn that is ready first is ready, was not started, and is a turn of the work

pub record IsFit (w : Work) (started : List StartedTurn) (ts : List Turn) (ready : Ready) : Type 0 where
  pub is_ready : ready_at w started ready.turn ≡ Some ready.at
  pub is_new : is_started started ready.turn ≡ false
  pub is_known : Contains ts ready.turn

abbrev AreFit : Work → List StartedTurn → List Turn → Option Ready → Type 0
AreFit w started ts None = Unit {0}
AreFit w started ts (Some ready) = IsFit w started ts ready

fit_earlier : (w : Work) (started : List StartedTurn) (ts : List Turn) (a b : Option Ready) → AreFit w started ts a → AreFit w started ts b → AreFit w started ts (earlier_of a b)
fit_earlier w started ts None b p q = q
fit_earlier w started ts (Some a) None p q = p
fit_earlier w started ts (Some a) (Some b) p q =
    elim (is_earlier b.at a.at) as (λ t. AreFit w started ts (cond t (Some b) (Some a))) [ true ↦ q | false ↦ p ]

fit_turn : (w : Work) (started : List StartedTurn) (turn : Turn) (ts : List Turn) (answer : Option LaneTime) → ready_at w started turn ≡ answer → is_started started turn ≡ false
    → AreFit w started (turn ∷ ts) (option_map (ready_turn turn) answer)
fit_turn w started turn ts None is new = tt
fit_turn w started turn ts (Some at) is new = record { is_ready = is; is_new = new; is_known = in_head turn ts }

fit_next : (w : Work) (started : List StartedTurn) (turn : Turn) (ts : List Turn) (t : Bool) → is_started started turn ≡ t
    → AreFit w started (turn ∷ ts) (cond t None (option_map (ready_turn turn) (ready_at w started turn)))
fit_next w started turn ts true is = tt
fit_next w started turn ts false is = fit_turn w started turn ts (ready_at w started turn) refl is

fit_more : (w : Work) (started : List StartedTurn) (turn : Turn) (ts : List Turn) (answer : Option Ready) → AreFit w started ts answer → AreFit w started (turn ∷ ts) answer
fit_more w started turn ts None h = tt
fit_more w started turn ts (Some ready) h = record { is_ready = h.is_ready; is_new = h.is_new; is_known = in_tail turn ts ready.turn h.is_known }

fit_first : (w : Work) (started : List StartedTurn) (ts : List Turn) → AreFit w started ts (first_ready w started ts)
fit_first w started [] = tt
fit_first w started (turn ∷ ts) = fit_earlier w started (turn ∷ ts) _ _ (fit_next w started turn ts (is_started started turn) refl) (fit_more w started turn ts (first_ready w started ts) (fit_first w started ts))

pub is_fit : (w : Work) (started : List StartedTurn) (ts : List Turn) (ready : Ready) → first_ready w started ts ≡ Some ready → IsFit w started ts ready
is_fit w started ts ready is = subst (AreFit w started ts) is (fit_first w started ts)

-- ---- no turn starts twice, before it is ready, or before the earlier turns of its lane have ended

abbrev IsNew : List StartedTurn → StartedTurn → Type 0
IsNew before one = is_started before one.turn ≡ false

lane_is_free : (w : Work) (n : ℕ) → 0 < n → (count : ℕ) (ready : Ready)
    → IsFree w (scheduled w n count) (started_in (free_after w n (scheduled w n count)) ready)
lane_is_free w n some count ready =
    let started = scheduled w n count in
    let free = free_after w n started in
    let lane = first_earliest free in
    All-weaker (λ (one : StartedTurn). IsNoLater (end_of_turn w one) (get_or free one.lane first_lane_time))
    (λ (one : StartedTurn). one.lane ≡ lane → IsNoLater (end_of_turn w one) (later_of ready.at (get_or free lane first_lane_time)))
    (λ one low is. no_later_on (end_of_turn w one) (get_or free lane first_lane_time) (later_of ready.at (get_or free lane first_lane_time))
    (subst (λ l. IsNoLater (end_of_turn w one) (get_or free l first_lane_time)) is low) (second_no_later ready.at (get_or free lane first_lane_time)))
    started (have_ended w n some count)

-- what holds of each next start holds of all
module _ (w : Work) (n : ℕ) (P : StartedTurn → Type 0)
    (next : (started : List StartedTurn) (ready : Ready) → first_ready w started (turns w) ≡ Some ready → P (started_in (free_after w n started) ready)) where
  all_next : (started : List StartedTurn) (answer : Option Ready) → first_ready w started (turns w) ≡ answer → All P started → All P (with_next w n started answer)
  all_next started None is h = h
  all_next started (Some ready) is h = All-cons P (started_in (free_after w n started) ready) started (next started ready is) h

  pub all_scheduled : (count : ℕ) → All P (scheduled w n count)
  all_scheduled zero = All-nil P
  all_scheduled (suc count) = all_next (scheduled w n count) (first_ready w (scheduled w n count) (turns w)) refl (all_scheduled count)

in_a_lane : (w : Work) (n : ℕ) → 0 < n → (started : List StartedTurn) → first_earliest (free_after w n started) < n
in_a_lane w n some started =
    let size : length (free_after w n started) ≡ n = length-free w n started in
    let fits : first_earliest (free_after w n started) < length (free_after w n started) = first_earliest_lt (free_after w n started) (omega arith) in
    omega arith

-- ---- what is left out is never ready

earlier_none : (a b : Option Ready) → earlier_of a b ≡ None → (a ≡ None) × (b ≡ None)
earlier_none None b is = (refl, is)
earlier_none (Some a) None is = (is, refl)
earlier_none (Some a) (Some b) is = by_test (is_earlier b.at a.at) is
  where
    by_test : (t : Bool) → cond t (Some b) (Some a) ≡ None → (Some a ≡ None) × (Some b ≡ None)
    by_test true is = absurd cc
    by_test false is = absurd cc

turn_none : (turn : Turn) (answer : Option LaneTime) → option_map (ready_turn turn) answer ≡ None → answer ≡ None
turn_none turn None is = refl
turn_none turn (Some at) is = absurd cc

next_none : (w : Work) (started : List StartedTurn) (turn : Turn) (t : Bool) → t ≡ false → cond t None (option_map (ready_turn turn) (ready_at w started turn)) ≡ None → ready_at w started turn ≡ None
next_none w started turn true new is = absurd cc
next_none w started turn false new is = turn_none turn (ready_at w started turn) is

abbrev IsLeftOut : Work → List StartedTurn → Turn → Type 0
IsLeftOut w started turn = is_started started turn ≡ false → ready_at w started turn ≡ None

none_ready : (w : Work) (started : List StartedTurn) (ts : List Turn) → first_ready w started ts ≡ None → All (IsLeftOut w started) ts
none_ready w started [] is = All-nil _
none_ready w started (turn ∷ ts) is =
    let both = earlier_none (next_of w started turn) (first_ready w started ts) is in
    All-cons (IsLeftOut w started) turn ts (λ new. next_none w started turn (is_started started turn) new both.0) (none_ready w started ts both.1)

-- ---- as many as there are turns are enough

abbrev one_if_new : Bool → ℕ
one_if_new true = 0
one_if_new false = 1

-- how many of the turns were not started
abbrev missing : List StartedTurn → List Turn → ℕ
missing started [] = 0
missing started (turn ∷ ts) = one_if_new (is_started started turn) + missing started ts

fewer_if : (t u : Bool) → one_if_new (t || u) ≤ one_if_new u
fewer_if true true = omega arith
fewer_if true false = omega arith
fewer_if false true = omega arith
fewer_if false false = omega arith

no_more_missing : (one : StartedTurn) (started : List StartedTurn) (ts : List Turn) → missing (one ∷ started) ts ≤ missing started ts
no_more_missing one started [] = omega arith
no_more_missing one started (turn ∷ ts) =
    let here = fewer_if (is_same_turn one.turn turn) (is_started started turn) in let rest = no_more_missing one started ts in omega arith

few_missing : (started : List StartedTurn) (ts : List Turn) → missing started ts ≤ length ts
few_missing started [] = omega arith
few_missing started (turn ∷ ts) = let rest = few_missing started ts in
    elim (is_started started turn) as (λ t. one_if_new t + missing started ts ≤ suc (length ts)) [ true ↦ omega arith | false ↦ omega arith ]

pub same_itself : (turn : Turn) → is_same_turn turn turn ≡ true
same_itself turn = ap (λ t. t && eqb turn.first turn.first) (eq-eqb turn.change turn.change refl) ∙ eq-eqb turn.first turn.first refl

-- which of two it was
either_earlier : (a b : Option Ready) (ready : Ready) → earlier_of a b ≡ Some ready → (a ≡ Some ready) ⊎ (b ≡ Some ready)
either_earlier None b ready is = inr is
either_earlier (Some a) None ready is = inl is
either_earlier (Some a) (Some b) ready is = by_test (is_earlier b.at a.at) is
  where
    by_test : (t : Bool) → cond t (Some b) (Some a) ≡ Some ready → (Some a ≡ Some ready) ⊎ (Some b ≡ Some ready)
    by_test true is = inr is
    by_test false is = inl is

turn_some : (turn : Turn) (answer : Option LaneTime) (ready : Ready) → option_map (ready_turn turn) answer ≡ Some ready → turn ≡ ready.turn
turn_some turn None ready is = absurd cc
turn_some turn (Some at) ready is = let one : ready_turn turn at ≡ ready = cc in ap (λ (r : Ready). r.turn) one

next_some : (w : Work) (started : List StartedTurn) (turn : Turn) (ready : Ready) (t : Bool) → cond t None (option_map (ready_turn turn) (ready_at w started turn)) ≡ Some ready → (t ≡ false) × (turn ≡ ready.turn)
next_some w started turn ready true is = absurd cc
next_some w started turn ready false is = (refl, turn_some turn (ready_at w started turn) ready is)

fewer_missing : (w : Work) (started : List StartedTurn) (one : StartedTurn) (ts : List Turn) (ready : Ready) → one.turn ≡ ready.turn → first_ready w started ts ≡ Some ready
    → missing (one ∷ started) ts < missing started ts
fewer_missing w started one [] ready of_it is = absurd cc
fewer_missing w started one (turn ∷ ts) ready of_it is = ⊎_elim
    (λ (head : next_of w started turn ≡ Some ready).
    let it = next_some w started turn ready (is_started started turn) head in
    let before : one_if_new (is_started started turn) ≡ 1 = ap one_if_new it.0 in
    let same : is_same_turn one.turn turn ≡ true = ap (λ t. is_same_turn t turn) (of_it ∙ sym it.1) ∙ same_itself turn in
    let after : one_if_new (is_same_turn one.turn turn || is_started started turn) ≡ 0 = ap (λ t. one_if_new (t || is_started started turn)) same in
    let rest = no_more_missing one started ts in omega arith)
    (λ (tail : first_ready w started ts ≡ Some ready).
    let rest = fewer_missing w started one ts ready of_it tail in let here = fewer_if (is_same_turn one.turn turn) (is_started started turn) in omega arith)
    (either_earlier (next_of w started turn) (first_ready w started ts) ready is)

-- no turn is ready any more, or so many were started
abbrev HasStopped : (w : Work) (started : List StartedTurn) (count : ℕ) → Type 0
HasStopped w started count = (first_ready w started (turns w) ≡ None) ⊎ (missing started (turns w) + count ≤ length (turns w))

stopped_next : (w : Work) (n count : ℕ) (started : List StartedTurn) (answer : Option Ready) → first_ready w started (turns w) ≡ answer → HasStopped w started count
    → HasStopped w (with_next w n started answer) (suc count)
stopped_next w n count started None is h = inl is
stopped_next w n count started (Some ready) is h = ⊎_elim
    (λ (none : first_ready w started (turns w) ≡ None). absurd cc)
    (λ (few : missing started (turns w) + count ≤ length (turns w)).
    let less = fewer_missing w started (started_in (free_after w n started) ready) (turns w) ready refl is in inr (omega arith))
    h

stopped : (w : Work) (n count : ℕ) → HasStopped w (scheduled w n count) count
stopped w n zero = inr (let few = few_missing [] (turns w) in omega arith)
stopped w n (suc count) = stopped_next w n count (scheduled w n count) (first_ready w (scheduled w n count) (turns w)) refl (stopped w n count)

at_end : (w : Work) (started : List StartedTurn) (answer : Option Ready) → first_ready w started (turns w) ≡ answer → missing started (turns w) ≡ 0 → answer ≡ None
at_end w started None is none = refl
at_end w started (Some ready) is none =
    let less = fewer_missing w started (record { turn = ready.turn; lane = 0; begin = ready.at }) (turns w) ready refl is in absurd (omega arith)

pub none_is_ready : (w : Work) (n : ℕ) → first_ready w (schedule w n) (turns w) ≡ None
none_is_ready w n = ⊎_elim
    (λ (none : first_ready w (schedule w n) (turns w) ≡ None). none)
    (λ (few : missing (schedule w n) (turns w) + length (turns w) ≤ length (turns w)).
    at_end w (schedule w n) (first_ready w (schedule w n) (turns w)) refl (omega arith))
    (stopped w n (length (turns w)))

-- ---- together

pub were_started : (w : Work) (n : ℕ) → 0 < n → WereStarted w n (schedule w n)
were_started w n some = record {
  known = all_scheduled w n (λ one. Contains (turns w) one.turn) (λ started ready answer. (is_fit w started (turns w) ready answer).is_known) (length (turns w));
  in_lanes = all_scheduled w n (λ one. one.lane < n) (λ started ready answer. in_a_lane w n some started) (length (turns w));
  ready = λ later before one is. each_split (IsReady w) later before one (schedule w n)
      (each_scheduled w n (IsReady w) (λ count ready answer. record { at = ready.at; ready = (is_fit w (scheduled w n count) (turns w) ready answer).is_ready; in_time = first_no_later ready.at _ }) _) is;
  free = λ later before one is. each_split (IsFree w) later before one (schedule w n)
      (each_scheduled w n (IsFree w) (λ count ready answer. lane_is_free w n some count ready) _) is;
  once = λ later before one is. each_split IsNew later before one (schedule w n)
      (each_scheduled w n IsNew (λ count ready answer. (is_fit w (scheduled w n count) (turns w) ready answer).is_new) _) is;
  left_out = none_ready w (schedule w n) (turns w) (none_is_ready w n);
}
