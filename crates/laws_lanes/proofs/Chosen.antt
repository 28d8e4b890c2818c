-- The turns that lanes start, of all turns of a work or of some of them.
use Rattle.std.proofs.Common.{◌≡◌, ◌≢◌, ℕ, zero, suc, ◌+◌, ◌<◌, ◌≤◌, All, Bool, true, false, ◌||◌, List, [], ◌∷◌, ◌++◌, Option, Some, None, cond, get_or, set, take, drop, refl, sym, ap, ◌∙◌, subst, ⊎_elim, ◌⊎◌, inl, inr, arith, eqb, eq-eqb, ne_eqb}
use Rattle.std.specs.Prelude.{option_map}
use Rattle.std.specs.List.{Contains, filter}
use Rattle.std.proofs.lemmas.Bool.{and_parts, cases_Bool, true≢false}
use Rattle.std.proofs.lemmas.Bool.Decides.{eqb_tells}
use Rattle.std.proofs.lemmas.List.{append-nil, set-get_or}
use Rattle.std.proofs.lemmas.List.Elements.{All-cons, All-nil}
use Rattle.apply_model.specs.declared.script.wait.Wait.{Wait}
use Rattle.apply_model.specs.Script.Waits.{waits_of}
use Rattle.apply_events.specs.ChangeEvents.{begun, in_turn}
use Rattle.apply_events.specs.Step.{Work, steps_of}
use Rattle.apply_events.specs.StepEvents.{step_events, step_time}
use Rattle.apply_events.specs.declared.lanes.lane_time.LaneTime.{LaneTime}
use Rattle.apply_events.specs.declared.lanes.turn.StartedTurn.{StartedTurn}
use Rattle.apply_events.specs.declared.lanes.turn.Turn.{Turn}
use Rattle.apply_events.specs.Waits.Done.{done_among, done_at, done_by, done_in, end_after, end_of_turn, first_some, later_if_both, ready_at}
use Rattle.apply_events.specs.Waits.LaneTime.{first_lane_time, is_earlier, later_of, next_round}
use Rattle.apply_events.specs.Waits.Schedule.{Ready, first_ready, free_after, is_same_turn, is_started, next_of, ready_turn, scheduled, started_in, with_next}
use Rattle.apply_events.specs.Waits.TimeLine.{lane_turns, turn_events}
use Rattle.apply_events.specs.Waits.Turn.{begun_steps, turns, waits_of_turn}
use Rattle.apply_events.proofs.Waits.Earliest.{no_earlier_is}
use Rattle.apply_events.proofs.Waits.Members.{filter_in, in_tail}
use Rattle.apply_events.proofs.Waits.Moments.{no_later_both}
use Rattle.apply_events.proofs.Waits.Once.{IsTurnOf, turn_is}
use Rattle.apply_events.proofs.Waits.StartedTurns.{is_fit}
use Rattle.laws_lanes.proofs.FirstReady.{first_of_some, first_same, none_of_some}

-- ---- rounds

-- the turns that n lanes start of these, in so many rounds
abbrev pub chosen : Work → (n : ℕ) → List Turn → (count : ℕ) → List StartedTurn
chosen w n ts zero = []
chosen w n ts (suc count) = with_next w n (chosen w n ts count) (first_ready w (chosen w n ts count) ts)

pub scheduled_is : (w : Work) (n count : ℕ) → scheduled w n count ≡ chosen w n (turns w) count
scheduled_is w n zero = refl
scheduled_is w n (suc count) = ap (λ l. with_next w n l (first_ready w l (turns w))) (scheduled_is w n count)

module _ (w : Work) (n : ℕ) (ts : List Turn) where
  -- where none is ready no more start
  pub stays : (count : ℕ) → first_ready w (chosen w n ts count) ts ≡ None → (more : ℕ) → chosen w n ts (more + count) ≡ chosen w n ts count
  stays count none zero = ap (chosen w n ts) (let same : zero + count ≡ count = omega arith in same)
  stays count none (suc more) =
      let next : suc more + count ≡ suc (more + count) = omega arith in
      ap (chosen w n ts) next ∙ ap (λ l. with_next w n l (first_ready w l ts)) (stays count none more) ∙ ap (with_next w n (chosen w n ts count)) none

  pub same_end : (a b : ℕ) → first_ready w (chosen w n ts a) ts ≡ None → first_ready w (chosen w n ts b) ts ≡ None → chosen w n ts a ≡ chosen w n ts b
  same_end a b none none' =
      let swap : b + a ≡ a + b = omega arith in
      sym (stays a none b) ∙ ap (chosen w n ts) swap ∙ stays b none' a

  -- what was started is started in all later rounds
  next_keeps : (started : List StartedTurn) (answer : Option Ready) (one : StartedTurn) → Contains started one → Contains (with_next w n started answer) one
  next_keeps started None one there = there
  next_keeps started (Some ready) one there = in_tail (started_in (free_after w n started) ready) started one there

  pub still_there : (count more : ℕ) (one : StartedTurn) → Contains (chosen w n ts count) one → Contains (chosen w n ts (more + count)) one
  still_there count zero one there = subst (λ k. Contains (chosen w n ts k) one) (let same : count ≡ zero + count = omega arith in same) there
  still_there count (suc more) one there =
      let next : suc (more + count) ≡ suc more + count = omega arith in
      subst (λ k. Contains (chosen w n ts k) one) next
      (next_keeps (chosen w n ts (more + count)) (first_ready w (chosen w n ts (more + count)) ts) one (still_there count more one there))

  -- and what was done is done
  abbrev IsDone : List StartedTurn → Wait → Type 0
  IsDone started name = (m : LaneTime) × (done_at w started name ≡ Some m)

  one_some : (a b : Option LaneTime) (m : LaneTime) → b ≡ Some m → (m' : LaneTime) × (first_some a b ≡ Some m')
  one_some None b m is = (m, is)
  one_some (Some a) b m is = (a, refl)

  next_done : (started : List StartedTurn) (answer : Option Ready) (name : Wait) → IsDone started name → IsDone (with_next w n started answer) name
  next_done started None name done = done
  next_done started (Some ready) name done = one_some (done_in w (started_in (free_after w n started) ready) name) (done_at w started name) done.0 done.1

  pub still_done : (count more : ℕ) (name : Wait) → IsDone (chosen w n ts count) name → IsDone (chosen w n ts (more + count)) name
  still_done count zero name done = subst (λ k. IsDone (chosen w n ts k) name) (let same : count ≡ zero + count = omega arith in same) done
  still_done count (suc more) name done =
      let next : suc (more + count) ≡ suc more + count = omega arith in
      subst (λ k. IsDone (chosen w n ts k) name) next
      (next_done (chosen w n ts (more + count)) (first_ready w (chosen w n ts (more + count)) ts) name (still_done count more name done))

  -- each is one of the turns
  all_next : (started : List StartedTurn) (answer : Option Ready) → first_ready w started ts ≡ answer → All (λ one. Contains ts one.turn) started → All (λ one. Contains ts one.turn) (with_next w n started answer)
  all_next started None is all = all
  all_next started (Some ready) is all =
      All-cons (λ (one : StartedTurn). Contains ts one.turn) (started_in (free_after w n started) ready) started (is_fit w started ts ready is).is_known all

  pub all_known : (count : ℕ) → All (λ one. Contains ts one.turn) (chosen w n ts count)
  all_known zero = All-nil _
  all_known (suc count) = all_next (chosen w n ts count) (first_ready w (chosen w n ts count) ts) refl (all_known count)

-- ---- turns without steps

pub either_way : {X : Type 0} (t : Bool) (x : X) → cond t x x ≡ x
either_way true x = refl
either_way false x = refl

no_steps : (w : Work) (turn : Turn) → turn.count ≡ 0 → begun_steps w turn ≡ []
no_steps w turn none = ap (λ k. begun (take k (drop turn.first (steps_of w turn.change)))) none

pub no_waits : (w : Work) (turn : Turn) → turn.count ≡ 0 → waits_of_turn w turn ≡ []
no_waits w turn none = ap (λ t. cond t [] (waits_of w.script turn.change turn.first)) (eq-eqb turn.count 0 none)

some_same : (a b : LaneTime) → Some a ≡ Some b → a ≡ b
some_same a b is = cc

later_than_first : (m : LaneTime) → later_of first_lane_time m ≡ m
later_than_first m = by_test (is_earlier first_lane_time m) refl
  where
    by_test : (t : Bool) → is_earlier first_lane_time m ≡ t → cond t m first_lane_time ≡ m
    by_test true is = refl
    by_test false is = no_later_both first_lane_time m (omega arith, λ _. omega arith) (no_earlier_is first_lane_time m is)

module _ (w : Work) (n : ℕ) (started : List StartedTurn) (ready : Ready) (none : ready.turn.count ≡ 0) (is_ready : ready_at w started ready.turn ≡ Some ready.at) where
  abbrev idle : StartedTurn
  idle = started_in (free_after w n started) ready

  idle_steps : begun_steps w ready.turn ≡ []
  idle_steps = no_steps w ready.turn none

  idle_done : (name : Wait) → done_in w idle name ≡ None
  idle_done name = ap (λ l. cond (eqb ready.turn.change name.change) (done_among name.step idle.begin l) None) idle_steps ∙ either_way (eqb ready.turn.change name.change) None

  idle_end : end_of_turn w idle ≡ get_or (free_after w n started) idle.lane first_lane_time
  idle_end =
      let at : first_lane_time ≡ ready.at = some_same first_lane_time ready.at (sym (ap (done_by w started) (no_waits w ready.turn none)) ∙ is_ready) in
      ap (end_after idle.begin) idle_steps ∙ ap (λ m. later_of m (get_or (free_after w n started) idle.lane first_lane_time)) (sym at)
      ∙ later_than_first (get_or (free_after w n started) idle.lane first_lane_time)

  idle_free : free_after w n (idle ∷ started) ≡ free_after w n started
  idle_free = ap (set (free_after w n started) idle.lane) idle_end ∙ set-get_or (free_after w n started) idle.lane first_lane_time

  idle_events : (lane : ℕ) → lane_turns w (idle ∷ started) lane ≡ lane_turns w started lane
  idle_events lane =
      ap (λ l. lane_turns w started lane ++ cond (eqb idle.lane lane) (in_turn (step_events idle.lane) step_time l idle.begin.second) []) idle_steps
      ∙ ap (λ l. lane_turns w started lane ++ l) (either_way (eqb idle.lane lane) []) ∙ append-nil (lane_turns w started lane)

-- ---- turns of one change

-- turns that begin with the same step are equal
pub same_first : (w : Work) (c : ℕ) (a b : Turn) → IsTurnOf w c a → IsTurnOf w c b → a.first ≡ b.first → a ≡ b
same_first w c a b (inl p) (inl q) is = p.1 ∙ sym q.1
same_first w c a b (inl p) (inr q) is = absurd (true≢false (sym q.0 ∙ p.0))
same_first w c a b (inr p) (inl q) is = absurd (true≢false (sym p.0 ∙ q.0))
same_first w c a b (inr (split, inl p)) (inr (split', inl q)) is = p ∙ sym q
same_first w c a b (inr (split, inr p)) (inr (split', inr q)) is = p ∙ sym q
same_first w c a b (inr (split, inl p)) (inr (split', inr q)) is =
    let first = ap (λ (t : Turn). t.first) p in let second = ap (λ (t : Turn). t.first) q in absurd (omega arith)
same_first w c a b (inr (split, inr p)) (inr (split', inl q)) is =
    let first = ap (λ (t : Turn). t.first) q in let second = ap (λ (t : Turn). t.first) p in absurd (omega arith)

pub from_test : (a b : ℕ) → eqb a b ≡ true → a ≡ b
from_test a b same = ⊎_elim
    (λ (c : _ × (a ≡ b)). c.1)
    (λ (c : _ × (a ≢ b)). absurd (true≢false (sym same ∙ ne_eqb a b c.1)))
    (eqb_tells a b)

same_known : (w : Work) (a b : Turn) → Contains (turns w) a → Contains (turns w) b → is_same_turn a b ≡ true → a ≡ b
same_known w a b p q same =
    let both = and_parts (eqb a.change b.change) (eqb a.first b.first) same in
    let change : a.change ≡ b.change = from_test a.change b.change both.0 in
    same_first w b.change a b (subst (λ c. IsTurnOf w c a) change (turn_is w a p)) (turn_is w b q) (from_test a.first b.first both.1)

apart : (w : Work) (p : Turn → Bool) (a b : Turn) → Contains (turns w) a → Contains (turns w) b → p a ≡ false → p b ≡ true → is_same_turn a b ≡ false
apart w p a b known known' off on = ⊎_elim
    (λ (same : is_same_turn a b ≡ true). absurd (true≢false (sym on ∙ ap p (sym (same_known w a b known known' same)) ∙ off)))
    (λ (other : is_same_turn a b ≡ false). other)
    (cases_Bool (is_same_turn a b))

-- ---- some of the turns

abbrev pub kept : (Turn → Bool) → List StartedTurn → List StartedTurn
kept p started = filter (λ one. p one.turn) started

-- The turns that were started, and that the test takes, are those that are started where there are
-- no others. The others have no steps and change nothing.
pub record IsKept (w : Work) (n : ℕ) (p : Turn → Bool) (started : List StartedTurn) : Type 0 where
  pub rounds : ℕ
  pub are : chosen w n (filter p (turns w)) rounds ≡ kept p started
  pub done : (name : Wait) → done_at w (kept p started) name ≡ done_at w started name
  pub free : free_after w n (kept p started) ≡ free_after w n started
  pub started_too : (turn : Turn) → Contains (turns w) turn → p turn ≡ true → is_started (kept p started) turn ≡ is_started started turn
  pub events : (lane : ℕ) → lane_turns w (kept p started) lane ≡ lane_turns w started lane

-- what is done at the same times is done by the same time
pub same_done_by : (w v : Work) (before after : List StartedTurn) → ((name : Wait) → done_at v after name ≡ done_at w before name) → (names : List Wait) → done_by v after names ≡ done_by w before names
same_done_by w v before after same [] = refl
same_done_by w v before after same (name ∷ names) =
    ap (λ a. later_if_both (option_map next_round a) (done_by v after names)) (same name)
    ∙ ap (later_if_both (option_map next_round (done_at w before name))) (same_done_by w v before after same names)

module _ (w : Work) (n : ℕ) (p : Turn → Bool) where
  module _ (started : List StartedTurn) (h : IsKept w n p started) where
    same_next : (turn : Turn) → Contains (filter p (turns w)) turn → next_of w (kept p started) turn ≡ next_of w started turn
    same_next turn there =
        let its = filter_in p (turns w) turn there in
        ap (λ t. cond t None (option_map (ready_turn turn) (ready_at w (kept p started) turn))) (h.started_too turn its.0 its.1)
        ∙ ap (λ a. cond (is_started started turn) None (option_map (ready_turn turn) a)) (same_done_by w w started (kept p started) h.done (waits_of_turn w turn))

    -- the answer for what is kept
    kept_first : first_ready w (kept p started) (filter p (turns w)) ≡ first_ready w started (filter p (turns w))
    kept_first = first_same w started (kept p started) (filter p (turns w)) same_next

    pub kept_end : first_ready w started (turns w) ≡ None → first_ready w (kept p started) (filter p (turns w)) ≡ None
    kept_end none = kept_first ∙ none_of_some w started p (turns w) none

    next_kept : (ready : Ready) → first_ready w started (turns w) ≡ Some ready → p ready.turn ≡ true → IsKept w n p (started_in (free_after w n started) ready ∷ started)
    next_kept ready is on =
        let one = started_in (free_after w n started) ready in
        let keeps : kept p (one ∷ started) ≡ one ∷ kept p started = ap (λ t. cond t (one ∷ kept p started) (kept p started)) on in record {
          rounds = suc h.rounds;
          are = ap (λ l. with_next w n l (first_ready w l (filter p (turns w)))) h.are
              ∙ ap (with_next w n (kept p started)) (kept_first ∙ first_of_some w started p (turns w) ready is on)
              ∙ ap (λ f. started_in f ready ∷ kept p started) h.free ∙ sym keeps;
          done = λ name. ap (λ l. done_at w l name) keeps ∙ ap (first_some (done_in w one name)) (h.done name);
          free = ap (free_after w n) keeps ∙ ap (λ f. set f one.lane (end_of_turn w one)) h.free;
          started_too = λ turn there its. ap (λ l. is_started l turn) keeps ∙ ap (λ t. is_same_turn one.turn turn || t) (h.started_too turn there its);
          events = λ lane. ap (λ l. lane_turns w l lane) keeps ∙ ap (λ l. l ++ cond (eqb one.lane lane) (turn_events w one) []) (h.events lane);
        }

    next_idle : (ready : Ready) → first_ready w started (turns w) ≡ Some ready → p ready.turn ≡ false → ready.turn.count ≡ 0 → IsKept w n p (started_in (free_after w n started) ready ∷ started)
    next_idle ready is off none =
        let one = started_in (free_after w n started) ready in
        let fit = is_fit w started (turns w) ready is in
        let drops : kept p (one ∷ started) ≡ kept p started = ap (λ t. cond t (one ∷ kept p started) (kept p started)) off in record {
          rounds = h.rounds;
          are = h.are ∙ sym drops;
          done = λ name. ap (λ l. done_at w l name) drops ∙ h.done name ∙ sym (ap (λ a. first_some a (done_at w started name)) (idle_done w n started ready none fit.is_ready name));
          free = ap (free_after w n) drops ∙ h.free ∙ sym (idle_free w n started ready none fit.is_ready);
          started_too = λ turn there its. ap (λ l. is_started l turn) drops ∙ h.started_too turn there its
              ∙ sym (ap (λ t. t || is_started started turn) (apart w p ready.turn turn fit.is_known there off its));
          events = λ lane. ap (λ l. lane_turns w l lane) drops ∙ h.events lane ∙ sym (idle_events w n started ready none fit.is_ready lane);
        }

  -- it is taken, or has no steps
  abbrev pub IsFitting : Ready → Type 0
  IsFitting ready = (p ready.turn ≡ true) ⊎ ((p ready.turn ≡ false) × (ready.turn.count ≡ 0))

  next_of_all : (started : List StartedTurn) (answer : Option Ready) → first_ready w started (turns w) ≡ answer → IsKept w n p started → ((ready : Ready) → answer ≡ Some ready → IsFitting ready)
      → IsKept w n p (with_next w n started answer)
  next_of_all started None is h fits = h
  next_of_all started (Some ready) is h fits = ⊎_elim
      (λ (on : p ready.turn ≡ true). next_kept started h ready is on)
      (λ (off : (p ready.turn ≡ false) × (ready.turn.count ≡ 0)). next_idle started h ready is off.0 off.1)
      (fits ready refl)

  pub are_kept : (limit : ℕ) → ((count : ℕ) (ready : Ready) → count < limit → IsKept w n p (chosen w n (turns w) count) → first_ready w (chosen w n (turns w) count) (turns w) ≡ Some ready → IsFitting ready)
      → (count : ℕ) → count ≤ limit → IsKept w n p (chosen w n (turns w) count)
  are_kept limit fits zero few = record { rounds = 0; are = refl; done = λ name. refl; free = refl; started_too = λ turn there its. refl; events = λ lane. refl }
  are_kept limit fits (suc count) few =
      let h = are_kept limit fits count (omega arith) in
      next_of_all (chosen w n (turns w) count) (first_ready w (chosen w n (turns w) count) (turns w)) refl h (λ ready is. fits count ready (omega arith) h is)
