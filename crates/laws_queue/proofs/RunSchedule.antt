-- Without waits the run starts the changes in the order of the plan, each as one turn, in the lane
-- that is free first.
use Rattle.std.proofs.Common.{◌≡◌, ◌≢◌, ◌∙◌, ◌||◌, ◌&&◌, ◌+◌, ◌<◌, ◌≤◌, ℕ, zero, suc, List, [], ◌∷◌, ◌++◌, Bool, true, false, Option, Some, None, cond, eqb, ltb, eq-eqb, ne_eqb, lt-ltb, le-ltb, get_or, length, map, set, sum_by, refl, sym, ap, arith, ⊎_elim}
use Rattle.std.specs.Prelude.{option_map}
use Rattle.std.specs.List.{enumerate_from, flat_map, range_with_len}
use Rattle.std.proofs.lemmas.Bool.{cases_eq, cases_lt}
use Rattle.std.proofs.lemmas.List.{length-map, map-set, take_all}
use Rattle.std.proofs.lemmas.List.FromFn.{length-enumerate_from, length-range_with_len}
use Rattle.std.proofs.lemmas.List.Sums.{sum_by-cons}
use Rattle.apply_model.specs.declared.script.wait.Wait.{Wait}
use Rattle.apply_events.specs.ChangeEvents.{begun, span_of}
use Rattle.apply_events.specs.Step.{Step, Work, kinds_applied, step_of, steps_of}
use Rattle.apply_events.specs.StepEvents.{step_time}
use Rattle.apply_events.specs.declared.lanes.turn.StartedTurn.{StartedTurn}
use Rattle.apply_events.specs.Waits.Done.{done_by, end_after, end_of_turn, ready_at}
use Rattle.apply_events.specs.Waits.LaneTime.{first_lane_time, is_earlier, later_of}
use Rattle.apply_events.specs.Waits.Schedule.{Ready, earlier_of, first_earliest, first_ready, is_started, ready_turn, schedule, scheduled, started_in, with_next}
use Rattle.apply_events.specs.Waits.Schedule as run
use Rattle.apply_events.specs.Waits.Turn.{begun_steps, single, turns, turns_of, whole}
use Rattle.laws_queue.specs.Dealing.{NamesNone, change_begin, free_after, lane_of, started_change, started_changes}
use Rattle.laws_queue.proofs.RunTimes.{early, early_at, early_by, early_free, first_same, never_earlier, not_before_first}

and_no : {X : Type 0} (t : Bool) (x y : X) → cond (t && false) x y ≡ y
and_no true x y = refl
and_no false x y = refl

cond_same : {X : Type 0} (t : Bool) (x : X) → cond t x x ≡ x
cond_same true x = refl
cond_same false x = refl

early_end : (second : ℕ) (steps : List Step) → end_after (early second) steps ≡ early (second + sum_by step_time steps)
early_end second [] = ap early (let same : second ≡ second + sum_by step_time [] = omega arith in same)
early_end second (step ∷ steps) =
    let sum : sum_by step_time (step ∷ steps) ≡ step_time step + sum_by step_time steps = sum_by-cons step_time step steps in
    ap (λ m. end_after m steps) (early_by second (step_time step)) ∙ early_end (second + step_time step) steps
    ∙ ap early (let same : second + step_time step + sum_by step_time steps ≡ second + sum_by step_time (step ∷ steps) = omega arith in same)

-- all steps of a change that begin are of its turn
pub whole_steps : (work : Work) (c : ℕ) → begun_steps work (whole work c) ≡ begun (steps_of work c)
whole_steps work c =
    let kinds = kinds_applied work.plan work.script c in
    let size : length (steps_of work c) ≡ length kinds =
    length-map (enumerate_from 0 kinds) (λ p. step_of work c p.0 p.1) ∙ length-enumerate_from 0 kinds in
    ap begun (take_all (length kinds) (steps_of work c) (omega arith))

module _ (work : Work) (n : ℕ) where
  -- when the lanes are free
  free_is : (k : ℕ) → run.free_after work n (started_changes work n k) ≡ map early (free_after work n k)
  free_is zero = early_free n
  free_is (suc k) =
      let free = free_after work n k in
      let begin = change_begin work n k in
      let lane = lane_of work n k in
      let ends : end_of_turn work (started_change work n k) ≡ early (begin + span_of work k) =
      ap (end_after (early begin)) (whole_steps work k) ∙ early_end begin (begun (steps_of work k)) in
      ap (λ l. set l lane (end_of_turn work (started_change work n k))) (free_is k)
      ∙ ap (set (map early free) lane) ends ∙ sym (map-set early free lane (begin + span_of work k))

  starts_next : (k : ℕ) → started_in (run.free_after work n (started_changes work n k)) (ready_turn (whole work k) first_lane_time) ≡ started_change work n k
  starts_next k =
      let free = free_after work n k in
      ap (λ l. started_in l (ready_turn (whole work k) first_lane_time)) (free_is k)
      ∙ ap (λ lane. let one : StartedTurn = record { turn = whole work k; lane = lane; begin = later_of first_lane_time (get_or (map early free) lane first_lane_time) } in one) (first_same free)
      ∙ ap (λ m. let one : StartedTurn = record { turn = whole work k; lane = lane_of work n k; begin = later_of first_lane_time m } in one) (early_at free (lane_of work n k))
      ∙ ap (λ m. let one : StartedTurn = record { turn = whole work k; lane = lane_of work n k; begin = m } in one) (not_before_first (change_begin work n k))

  -- which have started
  one_more : (c k : ℕ) (rest : Bool) → rest ≡ ltb c k → ((eqb k c && eqb 0 0) || rest) ≡ ltb c (suc k)
  one_more c k rest is = ⊎_elim
      (λ (lt : c < k). let ne : k ≢ c = omega arith in ap (λ t. (t && eqb 0 0) || rest) (ne_eqb k c ne) ∙ is ∙ lt-ltb c k lt ∙ sym (lt-ltb c (suc k) (omega arith)))
      (λ (ge : k ≤ c). ⊎_elim
      (λ (same : k ≡ c). ap (λ t. (t && eqb 0 0) || rest) (eq-eqb k c same) ∙ sym (lt-ltb c (suc k) (omega arith)))
      (λ (ne : k ≢ c). ap (λ t. (t && eqb 0 0) || rest) (ne_eqb k c ne) ∙ is ∙ le-ltb c k ge ∙ sym (le-ltb c (suc k) (omega arith)))
      (cases_eq k c))
      (cases_lt c k)

  have_started : (k c : ℕ) → is_started (started_changes work n k) (whole work c) ≡ ltb c k
  have_started zero c = sym (le-ltb c 0 (omega arith))
  have_started (suc k) c = one_more c k (is_started (started_changes work n k) (whole work c)) (have_started k c)

  module _ (none : NamesNone work) where
    -- ---- one turn for each change

    one_turn : (c : ℕ) → turns_of work c ≡ whole work c ∷ []
    one_turn c =
        let two = eqb (length (kinds_applied work.plan work.script c)) 2 in
        ap (λ (names : List Wait). cond (two && ltb 0 (length names)) (single c 0 ∷ single c 1 ∷ []) (whole work c ∷ [])) (none c 1) ∙ and_no two _ _

    turns_from : (a count : ℕ) → flat_map (turns_of work) (range_with_len a count) ≡ map (whole work) (range_with_len a count)
    turns_from a zero = refl
    turns_from a (suc count) = ap (λ l. l ++ flat_map (turns_of work) (range_with_len (a + 1) count)) (one_turn a) ∙ ap (λ l. whole work a ∷ l) (turns_from (a + 1) count)

    abbrev all : ℕ
    all = length work.plan.changes

    turns_are : turns work ≡ map (whole work) (range_with_len 0 all)
    turns_are = turns_from 0 all

    ready_now : (started : List StartedTurn) (c : ℕ) → ready_at work started (whole work c) ≡ Some first_lane_time
    ready_now started c =
        let empty = eqb (length (kinds_applied work.plan work.script c)) 0 in
        ap (λ (names : List Wait). done_by work started (cond empty [] names)) (none c 0) ∙ ap (done_by work started) (cond_same empty [])

    -- ---- the first that has not started

    stays_first : (ready : Ready) (others : Option Ready) → ready.at ≡ first_lane_time → earlier_of (Some ready) others ≡ Some ready
    stays_first ready None first = refl
    stays_first ready (Some other) first =
        ap (λ t. cond t (Some other) (Some ready)) (ap (is_earlier other.at) first ∙ never_earlier other.at)

    first_new : (started : List StartedTurn) (k count a : ℕ) → ((c : ℕ) → is_started started (whole work c) ≡ ltb c k) → a ≤ k → k < a + count
        → first_ready work started (map (whole work) (range_with_len a count)) ≡ Some (ready_turn (whole work k) first_lane_time)
    first_new started k zero a is low high = absurd (omega arith)
    first_new started k (suc count) a is low high =
        let others = first_ready work started (map (whole work) (range_with_len (a + 1) count)) in
        let next : Bool → Option Ready = λ t. cond t None (option_map (ready_turn (whole work a)) (ready_at work started (whole work a))) in ⊎_elim
        (λ (lt : a < k). ap (λ t. earlier_of (next t) others) (is a ∙ lt-ltb a k lt) ∙ first_new started k count (a + 1) is (omega arith) (omega arith))
        (λ (ge : k ≤ a).
        let same : a ≡ k = omega arith in
        ap (λ t. earlier_of (next t) others) (is a ∙ le-ltb a k ge)
        ∙ ap (λ at. earlier_of (option_map (ready_turn (whole work a)) at) others) (ready_now started a)
        ∙ stays_first (ready_turn (whole work a) first_lane_time) others refl
        ∙ ap (λ c. Some (ready_turn (whole work c) first_lane_time)) same)
        (cases_lt a k)

    next_is : (k : ℕ) → k < all → with_next work n (started_changes work n k) (first_ready work (started_changes work n k) (turns work)) ≡ started_changes work n (suc k)
    next_is k lt =
        ap (λ ts. with_next work n (started_changes work n k) (first_ready work (started_changes work n k) ts)) turns_are
        ∙ ap (with_next work n (started_changes work n k)) (first_new (started_changes work n k) k all 0 (have_started k) (omega arith) (omega arith))
        ∙ ap (λ one. one ∷ started_changes work n k) (starts_next k)

    scheduled_is : (k : ℕ) → k ≤ all → scheduled work n k ≡ started_changes work n k
    scheduled_is zero le = refl
    scheduled_is (suc k) le =
        ap (λ started. with_next work n started (first_ready work started (turns work))) (scheduled_is k (omega arith)) ∙ next_is k (omega arith)

    pub schedule_is : schedule work n ≡ started_changes work n (length work.plan.changes)
    schedule_is =
        let count : length (turns work) ≡ all = ap length turns_are ∙ length-map (range_with_len 0 all) (whole work) ∙ length-range_with_len 0 all in
        ap (scheduled work n) count ∙ scheduled_is all (omega arith)
