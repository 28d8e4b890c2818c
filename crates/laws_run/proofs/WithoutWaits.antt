-- Without waits, changes start in the plan's order, all rounds are 0, and each lane has the events
-- of its changes one after another.
use Rattle.std.proofs.Common.{◌≡◌, ◌≢◌, ℕ, zero, suc, ◌+◌, ◌-◌, ◌<◌, ◌≤◌, All, Bool, true, false, List, [], ◌∷◌, ◌++◌, ◌||◌, ◌&&◌, Option, Some, None, cond, get_or, length, map, replicate, set, sum_by, refl, sym, ap, ◌∙◌, subst, ⊎_elim, arith, eqb, ltb, leb, eq-eqb, ne_eqb, lt-ltb, le-ltb, append_assoc}
use Rattle.std.specs.Prelude.{not, option_map}
use Rattle.std.specs.List.{flat_map, list_all, range_with_len}
use Rattle.std.proofs.lemmas.Bool.{cases_eq, cases_lt, le-leb, lt-leb}
use Rattle.std.proofs.lemmas.Bool.Decides.{eqb_tells}
use Rattle.std.proofs.lemmas.List.{append-nil, get_or-set_other, get_or-set_same, length-map, length-replicate, length-set, map-set, take_all}
use Rattle.std.proofs.lemmas.List.Elements.{All-cons, All-head, All-nil, All-tail, All-weaker}
use Rattle.std.proofs.lemmas.List.FromFn.{length-enumerate_from}
use Rattle.std.proofs.lemmas.List.Sums.{sum_by-cons}
use Rattle.std.specs.List.{enumerate_from}
use Rattle.apply_events.specs.declared.event.Event.{Event}
use Rattle.apply_events.specs.ChangeEvents.{begun, change_events, in_turn, span_of}
use Rattle.apply_events.specs.Lanes.Dealing.{before, dealt, first_least, occupied, lanes}
use Rattle.apply_events.specs.Lanes.TimeLine as plain
use Rattle.apply_events.specs.Step.{Step, Work, kinds_applied, step_of, steps_of}
use Rattle.apply_events.specs.StepEvents.{step_events, step_time}
use Rattle.apply_events.specs.declared.lanes.turn.StartedTurn.{StartedTurn}
use Rattle.apply_events.specs.Waits.Done.{done_by, end_after, end_of_turn, ready_at}
use Rattle.apply_events.specs.declared.lanes.lane_time.LaneTime.{LaneTime}
use Rattle.apply_events.specs.Waits.LaneTime.{first_lane_time, is_earlier, later_by, later_of}
use Rattle.laws_run.proofs.Named.{named, names_some}
use Rattle.apply_events.specs.Waits.Schedule.{Ready, earlier_of, first_earliest, first_ready, free_after, is_started, ready_turn, schedule, scheduled, started_in, with_next}
use Rattle.apply_events.specs.Waits.TimeLine.{InOrder, IsTimeLine, Precedes, is_of_turn, lane_turns, lane_time_from, lane_time_of, turn_events}
use Rattle.apply_events.specs.Waits.Turn.{begun_steps, single, turns, turns_of, whole}
use Rattle.apply_events.proofs.TimeLines.Dealt.{length_dealt}
use Rattle.laws_run.proofs.Along.{no_later, second_is}
use Rattle.apply_events.proofs.Waits.Moments.{later_by_none, later_by_some, same_lane_time}

-- ---- tests

and_no : {X : Type 0} (t : Bool) (x y : X) → cond (t && false) x y ≡ y
and_no true x y = refl
and_no false x y = refl

cond_same : {X : Type 0} (t : Bool) (x : X) → cond t x x ≡ x
cond_same true x = refl
cond_same false x = refl

-- no time is earlier than the first one
never_earlier : (m : LaneTime) → is_earlier m first_lane_time ≡ false
never_earlier m =
    ap (λ t. t || (eqb m.second 0 && ltb m.round 0)) (le-ltb m.second 0 (omega arith))
    ∙ ap (λ t. eqb m.second 0 && t) (le-ltb m.round 0 (omega arith)) ∙ both_no (eqb m.second 0)
  where
    both_no : (t : Bool) → (t && false) ≡ false
    both_no true = refl
    both_no false = refl

-- ---- times of round 0

abbrev early : ℕ → LaneTime
early second = record { second = second; round = 0 }

early_later : (x y : ℕ) → not (is_earlier (early y) (early x)) ≡ leb x y
early_later x y = ⊎_elim
    (λ (lt : y < x). ap (λ t. not (t || (eqb y x && ltb 0 0))) (lt-ltb y x lt) ∙ sym (lt-leb x y lt))
    (λ (ge : x ≤ y). ap (λ t. not (t || (eqb y x && ltb 0 0))) (le-ltb y x ge) ∙ no_round (eqb y x) ∙ sym (le-leb x y ge))
    (cases_lt y x)
  where
    no_round : (t : Bool) → not (t && ltb 0 0) ≡ true
    no_round true = refl
    no_round false = refl

all_later : (x : ℕ) (xs : List ℕ) → list_all (λ (other : LaneTime). not (is_earlier other (early x))) (map early xs) ≡ list_all (leb x) xs
all_later x [] = refl
all_later x (y ∷ ys) =
    ap (λ t. t && list_all (λ (other : LaneTime). not (is_earlier other (early x))) (map early ys)) (early_later x y)
    ∙ ap (λ t. leb x y && t) (all_later x ys)

first_same : (xs : List ℕ) → first_earliest (map early xs) ≡ first_least xs
first_same [] = refl
first_same (x ∷ xs) =
    ap (λ t. cond t 0 (first_earliest (map early xs) + 1)) (all_later x xs) ∙ ap (λ k. cond (list_all (leb x) xs) 0 (k + 1)) (first_same xs)

early_at : (xs : List ℕ) (k : ℕ) → get_or (map early xs) k first_lane_time ≡ early (get_or xs k 0)
early_at [] k = refl
early_at (x ∷ xs) zero = refl
early_at (x ∷ xs) (suc k) = early_at xs k

early_free : (n : ℕ) → replicate n first_lane_time ≡ map early (replicate n 0)
early_free zero = refl
early_free (suc n) = ap (λ l. first_lane_time ∷ l) (early_free n)

not_before_first : (second : ℕ) → later_of first_lane_time (early second) ≡ early second
not_before_first zero = refl
not_before_first (suc second) = ap (λ t. cond (t || (eqb 0 (suc second) && ltb 0 0)) (early (suc second)) first_lane_time) (lt-ltb 0 (suc second) (omega arith))

early_by : (second seconds : ℕ) → later_by seconds (early second) ≡ early (second + seconds)
early_by second seconds = ⊎_elim
    (λ (is : seconds ≡ 0). later_by_none (early second) seconds is ∙ ap early (let same : second ≡ second + seconds = omega arith in same))
    (λ (ne : seconds ≡ 0 → ⊥). later_by_some (early second) seconds ne)
    (cases_eq seconds 0)

early_end : (second : ℕ) (steps : List Step) → end_after (early second) steps ≡ early (second + sum_by step_time steps)
early_end second [] = ap early (let same : second ≡ second + sum_by step_time [] = omega arith in same)
early_end second (step ∷ steps) =
    let sum : sum_by step_time (step ∷ steps) ≡ step_time step + sum_by step_time steps = sum_by-cons step_time step steps in
    ap (λ m. end_after m steps) (early_by second (step_time step)) ∙ early_end (second + step_time step) steps
    ∙ ap early (let same : second + step_time step + sum_by step_time steps ≡ second + sum_by step_time (step ∷ steps) = omega arith in same)

-- ---- ranges

rest_is : (c n : ℕ) → c < n → range_with_len c (n - c) ≡ c ∷ range_with_len (suc c) (n - suc c)
rest_is c n lt =
    let more : n - c ≡ suc (n - suc c) = omega arith in
    let next : c + 1 ≡ suc c = omega arith in ap (range_with_len c) more ∙ ap (λ a. c ∷ range_with_len a (n - suc c)) next

no_rest : (n : ℕ) → range_with_len n (n - n) ≡ []
no_rest n = let none : n - n ≡ 0 = omega arith in ap (range_with_len n) none

length-range : (a n : ℕ) → length (range_with_len a n) ≡ n
length-range a zero = refl
length-range a (suc n) = ap suc (length-range (a + 1) n)

abbrev no_list : ℕ → List ℕ
no_list at = []

none_dealt : (free : List ℕ) (lane : ℕ) → get_or (map no_list free) lane [] ≡ []
none_dealt [] lane = refl
none_dealt (x ∷ free) zero = refl
none_dealt (x ∷ free) (suc lane) = none_dealt free lane

abbrev zeros : ℕ → List ℕ
zeros n = replicate n 0

none_at : (n lane : ℕ) → get_or (zeros n) lane 0 ≡ 0
none_at zero lane = refl
none_at (suc n) zero = refl
none_at (suc n) (suc lane) = none_at n lane

least_lt : (xs : List ℕ) → 0 < length xs → first_least xs < length xs
least_lt [] some = absurd (omega arith)
least_lt (x ∷ []) some = omega arith
least_lt (x ∷ other ∷ xs) some =
    let rest : first_least (other ∷ xs) < length (other ∷ xs) = least_lt (other ∷ xs) (omega arith) in
    elim (list_all (leb x) (other ∷ xs)) as (λ t. cond t 0 (first_least (other ∷ xs) + 1) < length (x ∷ other ∷ xs)) [ true ↦ omega arith | false ↦ omega arith ]

-- ---- without waits

abbrev NamesNone : Work → Type 0
NamesNone w = (c k : ℕ) → named w c k ≡ []

-- a change begins in a lane, and all its steps are its turn's
whole_steps : (w : Work) (c : ℕ) → begun_steps w (whole w c) ≡ begun (steps_of w c)
whole_steps w c =
    let kinds = kinds_applied w.plan w.script c in
    let size : length (steps_of w c) ≡ length kinds =
    length-map (enumerate_from 0 kinds) (λ p. step_of w c p.0 p.1) ∙ length-enumerate_from 0 kinds in
    ap begun (take_all (length kinds) (steps_of w c) (omega arith))

module _ (w : Work) (none : NamesNone w) where
  one_turn : (c : ℕ) → turns_of w c ≡ whole w c ∷ []
  one_turn c =
      let two = eqb (length (kinds_applied w.plan w.script c)) 2 in
      ap (λ names. cond (two && names_some names) (single c 0 ∷ single c 1 ∷ []) (whole w c ∷ [])) (none c 1) ∙ and_no two _ _

  turns_from : (a n : ℕ) → flat_map (turns_of w) (range_with_len a n) ≡ map (whole w) (range_with_len a n)
  turns_from a zero = refl
  turns_from a (suc n) = ap (λ l. l ++ flat_map (turns_of w) (range_with_len (a + 1) n)) (one_turn a) ∙ ap (λ l. whole w a ∷ l) (turns_from (a + 1) n)

  ready_now : (taken : List StartedTurn) (c : ℕ) → ready_at w taken (whole w c) ≡ Some first_lane_time
  ready_now taken c =
      let empty = eqb (length (kinds_applied w.plan w.script c)) 0 in
      ap (λ names. done_by w taken (cond empty [] names)) (none c 0) ∙ ap (done_by w taken) (cond_same empty [])

  -- the first of some changes that was not started
  stays_first : (ready : Ready) (others : Option Ready) → ready.at ≡ first_lane_time → earlier_of (Some ready) others ≡ Some ready
  stays_first ready None first = refl
  stays_first ready (Some other) first =
      ap (λ t. cond t (Some other) (Some ready)) (ap (is_earlier other.at) first ∙ never_earlier other.at)

  first_new : (taken : List StartedTurn) (k a n : ℕ) → ((c : ℕ) → is_started taken (whole w c) ≡ ltb c k) → a ≤ k → k < a + n
      → first_ready w taken (map (whole w) (range_with_len a n)) ≡ Some (ready_turn (whole w k) first_lane_time)
  first_new taken k a zero is low high = absurd (omega arith)
  first_new taken k a (suc n) is low high =
      let others = first_ready w taken (map (whole w) (range_with_len (a + 1) n)) in
      let next : Bool → Option Ready = λ t. cond t None (option_map (ready_turn (whole w a)) (ready_at w taken (whole w a))) in ⊎_elim
      (λ (lt : a < k). ap (λ t. earlier_of (next t) others) (is a ∙ lt-ltb a k lt) ∙ first_new taken k (a + 1) n is (omega arith) (omega arith))
      (λ (ge : k ≤ a).
      let same : a ≡ k = omega arith in
      ap (λ t. earlier_of (next t) others) (is a ∙ le-ltb a k ge)
      ∙ ap (λ at. earlier_of (option_map (ready_turn (whole w a)) at) others) (ready_now taken a)
      ∙ stays_first (ready_turn (whole w a) first_lane_time) others refl
      ∙ ap (λ c. Some (ready_turn (whole w c) first_lane_time)) same)
      (cases_lt a k)

  module _ (n : ℕ) where
    abbrev all : ℕ
    all = length w.plan.changes

    -- when lanes are free after the first k changes
    abbrev frees : ℕ → List ℕ
    frees zero = replicate n 0
    frees (suc k) = occupied w k (frees k)

    abbrev first_taken : ℕ → StartedTurn
    first_taken k = started_in (free_after w n (scheduled w n k)) (ready_turn (whole w k) first_lane_time)

    turns_are : turns w ≡ map (whole w) (range_with_len 0 all)
    turns_are = turns_from 0 all

    count_is : length (turns w) ≡ all
    count_is = ap length turns_are ∙ length-map (range_with_len 0 all) (whole w) ∙ length-range 0 all

    taken_more : (c k : ℕ) (rest : Bool) → rest ≡ ltb c k → ((eqb k c && eqb 0 0) || rest) ≡ ltb c (suc k)
    taken_more c k rest is = ⊎_elim
        (λ (lt : c < k). let ne : k ≢ c = omega arith in ap (λ t. (t && eqb 0 0) || rest) (ne_eqb k c ne) ∙ is ∙ lt-ltb c k lt ∙ sym (lt-ltb c (suc k) (omega arith)))
        (λ (ge : k ≤ c). ⊎_elim
        (λ (same : k ≡ c). ap (λ t. (t && eqb 0 0) || rest) (eq-eqb k c same) ∙ sym (lt-ltb c (suc k) (omega arith)))
        (λ (ne : k ≢ c). ap (λ t. (t && eqb 0 0) || rest) (ne_eqb k c ne) ∙ is ∙ le-ltb c k ge ∙ sym (le-ltb c (suc k) (omega arith)))
        (cases_eq k c))
        (cases_lt c k)

    next_from : (k : ℕ) → ((c : ℕ) → is_started (scheduled w n k) (whole w c) ≡ ltb c k) → k < all → scheduled w n (suc k) ≡ first_taken k ∷ scheduled w n k
    next_from k is lt =
        ap (λ ts. with_next w n (scheduled w n k) (first_ready w (scheduled w n k) ts)) turns_are
        ∙ ap (with_next w n (scheduled w n k)) (first_new (scheduled w n k) k 0 all is (omega arith) (omega arith))

    -- the first k changes were started, in their order
    taken_is : (k : ℕ) → k ≤ all → (c : ℕ) → is_started (scheduled w n k) (whole w c) ≡ ltb c k
    taken_is zero le c = sym (le-ltb c 0 (omega arith))
    taken_is (suc k) le c =
        ap (λ taken. is_started taken (whole w c)) (next_from k (taken_is k (omega arith)) (omega arith))
        ∙ taken_more c k (is_started (scheduled w n k) (whole w c)) (taken_is k (omega arith) c)

    next_is : (k : ℕ) → k < all → scheduled w n (suc k) ≡ first_taken k ∷ scheduled w n k
    next_is k lt = next_from k (taken_is k (omega arith)) lt

    -- ---- lanes are free in round 0

    begin_is : (k lane : ℕ) → free_after w n (scheduled w n k) ≡ map early (frees k) → later_of first_lane_time (get_or (free_after w n (scheduled w n k)) lane first_lane_time) ≡ early (get_or (frees k) lane 0)
    begin_is k lane is =
        ap (λ l. later_of first_lane_time (get_or l lane first_lane_time)) is ∙ ap (later_of first_lane_time) (early_at (frees k) lane) ∙ not_before_first (get_or (frees k) lane 0)

    lane_is : (k : ℕ) → free_after w n (scheduled w n k) ≡ map early (frees k) → (first_taken k).lane ≡ first_least (frees k)
    lane_is k is = ap first_earliest is ∙ first_same (frees k)

    begin_at : (k : ℕ) → free_after w n (scheduled w n k) ≡ map early (frees k) → (first_taken k).begin ≡ early (get_or (frees k) (first_least (frees k)) 0)
    begin_at k is = begin_is k (first_taken k).lane is ∙ ap (λ lane. early (get_or (frees k) lane 0)) (lane_is k is)

    free_is : (k : ℕ) → k ≤ all → free_after w n (scheduled w n k) ≡ map early (frees k)
    free_is zero le = early_free n
    free_is (suc k) le =
        let is = free_is k (omega arith) in
        let at = get_or (frees k) (first_least (frees k)) 0 in
        let ends : end_of_turn w (first_taken k) ≡ early (at + span_of w k) =
        ap (λ m. end_after m (begun_steps w (whole w k))) (begin_at k is) ∙ ap (end_after (early at)) (whole_steps w k) ∙ early_end at (begun (steps_of w k)) in
        ap (free_after w n) (next_is k (omega arith))
        ∙ ap (λ l. set l (first_taken k).lane (end_of_turn w (first_taken k))) is
        ∙ ap (λ lane. set (map early (frees k)) lane (end_of_turn w (first_taken k))) (lane_is k is)
        ∙ ap (λ m. set (map early (frees k)) (first_least (frees k)) m) ends
        ∙ sym (map-set early (frees k) (first_least (frees k)) (at + span_of w k))

    -- ---- each lane reports its changes

    -- what a lane reports of the changes from the k-th on
    abbrev rest_of : (k lane : ℕ) → List Event
    rest_of k lane = in_turn (change_events w lane) (span_of w) (get_or (dealt w (frees k) (range_with_len k (all - k))) lane []) (get_or (frees k) lane 0)

    length-frees : (k : ℕ) → length (frees k) ≡ n
    length-frees zero = length-replicate n 0
    length-frees (suc k) = length-set (frees k) (first_least (frees k)) _ ∙ length-frees k

    rest_next : 0 < n → (k : ℕ) → k < all → (lane : ℕ)
        → cond (eqb (first_taken k).lane lane) (turn_events w (first_taken k)) [] ++ rest_of (suc k) lane ≡ rest_of k lane
    rest_next some k lt lane =
        let is = free_is k (omega arith) in
        let first = first_least (frees k) in
        let at = get_or (frees k) first 0 in
        let rest = dealt w (frees (suc k)) (range_with_len (suc k) (all - suc k)) in
        let count = length-frees k in
        let inside : first < length (frees k) = least_lt (frees k) (omega arith) in
        let size : length rest ≡ length (frees k) = length_dealt w (frees (suc k)) (range_with_len (suc k) (all - suc k)) ∙ length-set (frees k) first _ in
        let deals : dealt w (frees k) (range_with_len k (all - k)) ≡ before first k rest = ap (dealt w (frees k)) (rest_is k all lt) in
        let tells : turn_events w (first_taken k) ≡ change_events w first k at =
        ap (λ l. in_turn (step_events l) step_time (begun_steps w (whole w k)) (first_taken k).begin.second) (lane_is k is)
        ∙ ap (λ (m : LaneTime). in_turn (step_events first) step_time (begun_steps w (whole w k)) m.second) (begin_at k is)
        ∙ ap (λ steps. in_turn (step_events first) step_time steps at) (whole_steps w k) in
        ap (λ l. cond (eqb l lane) (turn_events w (first_taken k)) [] ++ rest_of (suc k) lane) (lane_is k is) ∙ ⊎_elim
        (λ (c : _ × (first ≡ lane)).
        let turn = in_turn (change_events w first) (span_of w) in
        let here : cond (eqb first first) (turn_events w (first_taken k)) [] ++ rest_of (suc k) first ≡ rest_of k first =
        ap (λ t. cond t (turn_events w (first_taken k)) [] ++ rest_of (suc k) first) (eq-eqb first first refl)
        ∙ ap (λ l. l ++ rest_of (suc k) first) tells
        ∙ ap (λ f. change_events w first k at ++ turn (get_or rest first []) f) (get_or-set_same (frees k) first (at + span_of w k) 0 inside)
        ∙ sym (ap (λ l. turn l at) (get_or-set_same rest first (k ∷ get_or rest first []) [] (omega arith)))
        ∙ sym (ap (λ l. turn (get_or l first []) at) deals) in
        subst (λ l. cond (eqb first l) (turn_events w (first_taken k)) [] ++ rest_of (suc k) l ≡ rest_of k l) c.1 here)
        (λ (c : _ × (first ≢ lane)).
        let other : lane ≢ first = (λ same. c.1 (sym same)) in
        let turn = in_turn (change_events w lane) (span_of w) in
        ap (λ t. cond t (turn_events w (first_taken k)) [] ++ rest_of (suc k) lane) (ne_eqb first lane c.1)
        ∙ ap (λ f. turn (get_or rest lane []) f) (get_or-set_other (frees k) first lane (at + span_of w k) 0 other)
        ∙ sym (ap (λ l. turn l (get_or (frees k) lane 0)) (get_or-set_other rest first lane (k ∷ get_or rest first []) [] other))
        ∙ sym (ap (λ l. turn (get_or l lane []) (get_or (frees k) lane 0)) deals))
        (eqb_tells first lane)

    lanes_so_far : 0 < n → (k : ℕ) → k ≤ all → (lane : ℕ) → lane_turns w (scheduled w n k) lane ++ rest_of k lane ≡ plain.lane_events w n lane
    lanes_so_far some zero le lane =
        let less : all - 0 ≡ all = omega arith in
        ap (λ m. in_turn (change_events w lane) (span_of w) (get_or (dealt w (replicate n 0) (range_with_len 0 m)) lane []) (get_or (replicate n 0) lane 0)) less
        ∙ ap (in_turn (change_events w lane) (span_of w) (get_or (lanes w n) lane [])) (none_at n lane)
    lanes_so_far some (suc k) le lane =
        ap (λ taken. lane_turns w taken lane ++ rest_of (suc k) lane) (next_is k (omega arith))
        ∙ append_assoc (lane_turns w (scheduled w n k) lane) (cond (eqb (first_taken k).lane lane) (turn_events w (first_taken k)) []) (rest_of (suc k) lane)
        ∙ ap (λ l. lane_turns w (scheduled w n k) lane ++ l) (rest_next some k (omega arith) lane)
        ∙ lanes_so_far some k (omega arith) lane

    schedule_is : schedule w n ≡ scheduled w n all
    schedule_is = ap (scheduled w n) count_is

    pub same_lanes : 0 < n → (lane : ℕ) → lane_turns w (schedule w n) lane ≡ plain.lane_events w n lane
    same_lanes some lane =
        let frees_all = frees all in
        let nothing : rest_of all lane ≡ [] =
        ap (λ cs. in_turn (change_events w lane) (span_of w) (get_or (dealt w frees_all cs) lane []) (get_or frees_all lane 0)) (no_rest all)
        ∙ ap (λ cs. in_turn (change_events w lane) (span_of w) cs (get_or frees_all lane 0)) (none_dealt frees_all lane) in
        ap (λ taken. lane_turns w taken lane) schedule_is
        ∙ sym (append-nil (lane_turns w (scheduled w n all) lane))
        ∙ ap (λ l. lane_turns w (scheduled w n all) lane ++ l) (sym nothing)
        ∙ lanes_so_far some all (omega arith) lane

    -- ---- all times are of round 0

    rounds : (k : ℕ) → k ≤ all → All (λ one. one.begin.round ≡ 0) (scheduled w n k)
    rounds zero le = All-nil _
    rounds (suc k) le =
        subst (All (λ one. one.begin.round ≡ 0)) (sym (next_is k (omega arith)))
        (All-cons (λ (one : StartedTurn). one.begin.round ≡ 0) (first_taken k) (scheduled w n k) (ap (λ (m : LaneTime). m.round) (begin_at k (free_is k (omega arith)))) (rounds k (omega arith)))

    pub all_rounds : All (λ one. one.begin.round ≡ 0) (schedule w n)
    all_rounds = subst (All (λ one. one.begin.round ≡ 0)) (sym schedule_is) (rounds all (omega arith))

-- ---- the order is the one of before

round_is : (taken : List StartedTurn) (e : Event) → All (λ one. one.begin.round ≡ 0) taken → (lane_time_of taken e).round ≡ 0
round_is [] e h = refl
round_is (one ∷ others) e h =
    elim (is_of_turn one.turn e) as (λ t. (cond t (lane_time_from one.begin e) (lane_time_of others e)).round ≡ 0) [
      | true ↦ elim (eqb e.at one.begin.second) as (λ t. cond t one.begin.round 0 ≡ 0) [
        | true ↦ All-head (λ (o : StartedTurn). o.begin.round ≡ 0) one others h
        | false ↦ refl
      ]
      | false ↦ round_is others e (All-tail (λ (o : StartedTurn). o.begin.round ≡ 0) one others h)
    ]

module _ (taken : List StartedTurn) (early_ones : All (λ one. one.begin.round ≡ 0) taken) where
  to_plain : (e f : Event) → Precedes (lane_time_of taken) e f → plain.Precedes e f
  to_plain e f p = (
    no_later taken e f p,
    λ same. p.1 (same_lane_time (lane_time_of taken e) (lane_time_of taken f) (second_is taken e ∙ same ∙ sym (second_is taken f)) (round_is taken e early_ones ∙ sym (round_is taken f early_ones))),
  )

  from_plain : (e f : Event) → plain.Precedes e f → Precedes (lane_time_of taken) e f
  from_plain e f p =
      let first = second_is taken e in let second = second_is taken f in let low = p.0 in
      let none = round_is taken e early_ones in let none' = round_is taken f early_ones in (
        ((omega arith), λ is. omega arith),
        λ same. p.1 (sym first ∙ ap (λ (m : LaneTime). m.second) same ∙ second),
      )

  pub order_to_plain : (es : List Event) → InOrder (lane_time_of taken) es → plain.InOrder es
  order_to_plain [] h = tt
  order_to_plain (e ∷ es) h = (All-weaker (Precedes (lane_time_of taken) e) (plain.Precedes e) (to_plain e) es h.0, order_to_plain es h.1)

  pub order_from_plain : (es : List Event) → plain.InOrder es → InOrder (lane_time_of taken) es
  order_from_plain [] h = tt
  order_from_plain (e ∷ es) h = (All-weaker (plain.Precedes e) (Precedes (lane_time_of taken) e) (from_plain e) es h.0, order_from_plain es h.1)

-- ---- the law

pub to_before : (w : Work) (n : ℕ) (es : List Event) → NamesNone w → 0 < n → IsTimeLine w n es → plain.IsTimeLine w n es
to_before w n es none some line = record {
  interleaved = record { named = line.interleaved.named; parts = λ lane lt. line.interleaved.parts lane lt ∙ same_lanes w none n some lane };
  in_order = order_to_plain (schedule w n) (all_rounds w none n) es line.in_order;
}

pub from_before : (w : Work) (n : ℕ) (es : List Event) → NamesNone w → 0 < n → plain.IsTimeLine w n es → IsTimeLine w n es
from_before w n es none some line = record {
  interleaved = record { named = line.interleaved.named; parts = λ lane lt. line.interleaved.parts lane lt ∙ sym (same_lanes w none n some lane) };
  in_order = order_from_plain (schedule w n) (all_rounds w none n) es line.in_order;
}
