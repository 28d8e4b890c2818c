-- The rounds of a schedule of `record` take up the changes in the order of the plan, as the run
-- does.
use Rattle.std.proofs.Common.{◌≡◌, ◌≢◌, ◌∙◌, ◌⊎◌, ◌+◌, ◌-◌, ◌<◌, ◌≤◌, ℕ, zero, suc, List, [], ◌∷◌, true, false, ◌&&◌, Option, Some, None, cond, get_or, length, map, replicate, set, sum_by, take, refl, sym, ap, arith, subst, inl, inr, ⊎_elim}
use Rattle.std.specs.Prelude.{IfSome, is_some, not, option_map, slice_get}
use Rattle.std.proofs.lemmas.Bool.{and_right, and_parts, cases_eq, cases_lt}
use Rattle.std.proofs.lemmas.List.{get_or-set_other, get_or-set_same, length-replicate, length-set, map-set, set-get_or, set-set}
use Rattle.std.proofs.lemmas.List.Sums.{sum_by-cons}
use Rattle.apply_events.specs.ChangeEvents.{span_of}
use Rattle.apply_events.specs.Step.{Step, Work, kinds_of}
use Rattle.apply_events.specs.StepEvents as run
use Rattle.apply_events.specs.StepEvents.{step_time}
use Rattle.stream_record_waits.specs.declared.course.LaneEnd.{LaneEnd}
use Rattle.stream_record_waits.specs.declared.course.ReadyTurn.{ReadyTurn}
use Rattle.stream_record_waits.specs.declared.lane_time.LaneTime.{LaneTime}
use Rattle.stream_record_waits.specs.declared.step_of_plan.StepOfPlan.{StepOfPlan}
use Rattle.stream_record_waits.specs.Course.{Basis, Course, after_next, after_round, after_rounds, end_at, first_course, first_ready, goes_on, is_joined, is_pinned, next_of, ready_at, ready_turn, seconds_at, turns_of, with_end, with_pin, with_second, with_turn}
use Rattle.stream_record_waits.specs.Graph.{waits_at}
use Rattle.stream_record_waits.specs.LaneTime.{first_earliest, first_lane_time, later_by, later_of}
use Rattle.stream_record_waits.specs.Steps.{has_begun}
use Rattle.laws_queue.specs.Dealing.{change_begin, free_after, lane_of, step_end, steps_begun}
use Rattle.laws_queue.specs.OfLanes.{HasStep, IsOfLanes, place_of}
use Rattle.laws_queue.specs.Schedules.{StartsAsInRun}
use Rattle.laws_queue.proofs.BegunSteps.{Begins, begins, begun_planned}
use Rattle.laws_queue.proofs.BegunSteps.Begins.{nothing, one, two}
use Rattle.laws_queue.proofs.Places.{located, place_later}
use Rattle.laws_queue.proofs.RecordTimes.{early, early_at, early_by, early_free, first_same, not_before_first}
use Rattle.laws_queue.proofs.RecordedSteps.{begins_if, begun_has, goes_on_if, inside, next_not_joined, plain_basis, ready_now, second_joined, seconds_are}
use Rattle.laws_queue.proofs.Turns.{IsOver, none_ready, one_ready}

none_at : {X : Type 0} (count k : ℕ) → get_or (replicate count (let none : Option X = None in none)) k None ≡ None
none_at zero k = refl
none_at (suc count) zero = refl
none_at (suc count) (suc k) = none_at count k

module _ (work : Work) (n : ℕ) (steps : List StepOfPlan) (of : IsOfLanes work n steps) (found : List (List ℕ)) (none_found : (p : ℕ) → has_begun steps p ≡ true → waits_at found p ≡ []) where
  abbrev plain : Basis
  plain = plain_basis steps found

  abbrev all : ℕ
  all = length work.plan.changes

  abbrev place : ℕ → ℕ
  place c = place_of work.plan c

  -- when and where a step ends in the run
  abbrev pub run_end : (c k : ℕ) → LaneEnd
  run_end c k = record { at = early (step_end work n c k); lane = lane_of work n c }

  -- the course in which the changes before change c were taken up, and no other
  pub record Stands (course : Course) (c : ℕ) : Type 0 where
    pub free : course.free ≡ map early (free_after work n c)
    pub size : length course.ends ≡ length steps
    pub ended : (d k : ℕ) → d < c → d < all → k < length (steps_begun work d) → end_at course (place d + k) ≡ Some (run_end d k)
    pub to_come : (p : ℕ) → place c ≤ p → end_at course p ≡ None

  pub at_first : Stands (first_course (length steps) n) 0
  at_first = record {
    free = early_free n;
    size = length-replicate (length steps) None;
    ended = λ d k lt. absurd (omega arith);
    to_come = λ p le. none_at (length steps) p;
  }

  -- ---- where change c is taken up

  module _ (course : Course) (c : ℕ) (stands : Stands course c) where
    abbrev free : List ℕ
    free = free_after work n c

    abbrev lane : ℕ
    lane = lane_of work n c

    pub lane_is : first_earliest course.free ≡ lane
    lane_is = ap first_earliest stands.free ∙ first_same free

    pub begin_is : later_of first_lane_time (get_or course.free (first_earliest course.free) first_lane_time) ≡ early (change_begin work n c)
    begin_is =
        ap (λ l. later_of first_lane_time (get_or course.free l first_lane_time)) lane_is
        ∙ ap (λ f. later_of first_lane_time (get_or f lane first_lane_time)) stands.free
        ∙ ap (later_of first_lane_time) (early_at free lane) ∙ not_before_first (change_begin work n c)

    -- a change of which no step begins
    pub without_steps : steps_begun work c ≡ [] → Stands course (suc c)
    without_steps none =
        let span : span_of work c ≡ 0 = ap (λ l. sum_by step_time l) none in
        let same : change_begin work n c ≡ change_begin work n c + span_of work c = omega arith in record {
          free = stands.free ∙ ap (map early) (sym (set-get_or free lane 0) ∙ ap (set free lane) same);
          size = stands.size;
          ended = λ d k lt known has. ⊎_elim
              (λ (less : d < c). stands.ended d k less known has)
              (λ (ge : c ≤ d).
              let here : d ≡ c = omega arith in
              let count : length (steps_begun work d) ≡ 0 = ap (λ x. length (steps_begun work x)) here ∙ ap length none in
              absurd (omega arith))
              (cases_lt d c);
          to_come = λ p le. stands.to_come p (omega arith);
        }

    -- the turns before it have started
    pub is_over : c ≤ all → (p : ℕ) → p < place c → IsOver plain course p
    is_over le p lt begun =
        let at = located work.plan c p lt in
        let known = at.known in let low = at.has in
        let has : HasStep work at.c at.k = (omega arith, low) in
        let began = (and_parts (has_begun steps p) (not (is_joined plain p)) begun).0 in
        let ended : end_at course p ≡ Some (run_end at.c at.k) =
        ap (end_at course) at.is ∙ stands.ended at.c at.k known (omega arith) (begun_has work n steps of at.c at.k p has at.is began) in
        ap (λ (end : Option LaneEnd). let chosen : Option ReadyTurn = cond (is_some end) None (option_map (ready_turn p) (ready_at plain course p)) in chosen) ended

    -- it is ready first
    pub is_first : (step : Step) → HasStep work c 0 → slice_get (steps_begun work c) 0 ≡ Some step → first_ready plain course (turns_of plain) ≡ Some (ready_turn (place c) first_lane_time)
    is_first step has there =
        let known = has.0 in
        let here : place c ≡ place c + 0 = omega arith in
        let low = inside work n steps of c 0 has in
        let next : next_of plain course (place c) ≡ Some (ready_turn (place c) first_lane_time) =
        ap (λ (end : Option LaneEnd). let chosen : Option ReadyTurn = cond (is_some end) None (option_map (ready_turn (place c)) (ready_at plain course (place c))) in chosen) (stands.to_come (place c) (omega arith))
        ∙ ap (option_map (ready_turn (place c))) (ready_now work n steps of found none_found course c (place c) step has here there) in
        one_ready plain course (length steps) 0 (place c) (λ p _ lt. is_over (omega arith) p lt) (omega arith) (omega arith)
        (begins_if work n steps of found none_found c (place c) step has here there) next

    -- it starts
    starts : (step : Step) → HasStep work c 0 → slice_get (steps_begun work c) 0 ≡ Some step
        → after_round plain course ≡ with_second plain (with_end course (place c) (early (change_begin work n c + step_time step)) lane) (place c) (early (change_begin work n c + step_time step)) lane
    starts step has there =
        let here : place c ≡ place c + 0 = omega arith in
        let begin = later_of first_lane_time (get_or course.free (first_earliest course.free) first_lane_time) in
        let first = first_earliest course.free in
        ap (after_next plain course) (is_first step has there)
        ∙ ap (λ t. cond t (with_pin course (place c)) (with_turn plain course (place c) begin first)) (and_right (not (is_pinned course (place c))) false refl)
        ∙ ap (λ l. with_turn plain course (place c) begin l) lane_is
        ∙ ap (λ b. with_turn plain course (place c) b lane) begin_is
        ∙ ap (λ s. let e : LaneTime = later_by s (early (change_begin work n c)) in with_second plain (with_end course (place c) e lane) (place c) e lane)
        (seconds_are work n steps of found none_found c 0 (place c) step has here there)
        ∙ ap (λ e. with_second plain (with_end course (place c) e lane) (place c) e lane) (early_by (change_begin work n c) (step_time step))

    -- ---- what it leaves

    written : (course : Course) (p : ℕ) (at : LaneTime) (l : ℕ) → p < length course.ends → end_at (with_end course p at l) p ≡ Some (record { at = at; lane = l })
    written course p at l lt = get_or-set_same course.ends p (Some (record { at = at; lane = l })) None lt

    unwritten : (course : Course) (p : ℕ) (at : LaneTime) (l q : ℕ) → q ≢ p → end_at (with_end course p at l) q ≡ end_at course q
    unwritten course p at l q other = get_or-set_other course.ends p q (Some (record { at = at; lane = l })) None other

    -- the steps of changes before it stand before its steps
    apart : (d k : ℕ) → d < c → k < length (steps_begun work d) → place d + k < place c
    apart d k lt has = let few = begun_planned work d in let later = place_later work.plan d c lt in omega arith

    -- where one step begins
    module _ (known : c < all) (step : Step) (alone : steps_begun work c ≡ step ∷ []) where
      has_one : HasStep work c 0
      has_one = (known, let few = begun_planned work c in let count = ap length alone in omega arith)

      first_there : slice_get (steps_begun work c) 0 ≡ Some step
      first_there = ap (λ l. slice_get l 0) alone

      one_starts : after_round plain course ≡ with_end course (place c) (early (change_begin work n c + step_time step)) lane
      one_starts =
          let at = early (change_begin work n c + step_time step) in
          let course' = with_end course (place c) at lane in
          starts step has_one first_there
          ∙ ap (λ t. cond t (with_end course' (place c + 1) (later_by (seconds_at plain (place c + 1)) at) lane) course')
          (and_right (goes_on plain (place c)) (is_joined plain (place c + 1)) (next_not_joined work n steps of c has_one (ap length alone)))

      stands_one : Stands (with_end course (place c) (early (change_begin work n c + step_time step)) lane) (suc c)
      stands_one =
          let at = early (change_begin work n c + step_time step) in
          let span : change_begin work n c + span_of work c ≡ change_begin work n c + step_time step =
          ap (λ l. change_begin work n c + sum_by step_time l) alone ∙ (let sum = sum_by-cons step_time step [] in let none : sum_by step_time [] ≡ 0 = refl in omega arith) in
          let room = inside work n steps of c 0 has_one in
          let size = stands.size in record {
            free = ap (λ f. set f lane at) stands.free ∙ sym (map-set early free lane (change_begin work n c + step_time step)) ∙ ap (λ e. map early (set free lane e)) (sym span);
            size = length-set course.ends (place c) _ ∙ size;
            ended = λ d k lt is_known has. ⊎_elim
                (λ (less : d < c).
                let before = apart d k less has in
                unwritten course (place c) at lane (place d + k) (λ same. omega arith) ∙ stands.ended d k less is_known has)
                (λ (ge : c ≤ d).
                let here : d ≡ c = omega arith in
                let count : length (steps_begun work d) ≡ 1 = ap (λ x. length (steps_begun work x)) here ∙ ap length alone in
                let first : k ≡ 0 = omega arith in
                let where_it_is : place d + k ≡ place c = ap (λ x. place x + k) here ∙ (let same : place c + k ≡ place c = omega arith in same) in
                let end : step_end work n d k ≡ change_begin work n c + step_time step =
                ap (λ x. step_end work n x k) here ∙ ap (step_end work n c) first ∙ ap (λ l. change_begin work n c + sum_by step_time (take 1 l)) alone
                ∙ (let sum = sum_by-cons step_time step [] in let none : sum_by step_time [] ≡ 0 = refl in omega arith) in
                let its_lane : lane_of work n d ≡ lane = ap (lane_of work n) here in
                ap (end_at (with_end course (place c) at lane)) where_it_is ∙ written course (place c) at lane (omega arith)
                ∙ sym (ap (λ e. let its : Option LaneEnd = Some (record { at = early e; lane = lane_of work n d }) in its) end ∙ ap (λ l. let its : Option LaneEnd = Some (record { at = at; lane = l }) in its) its_lane))
                (cases_lt d c);
            to_come = λ p le.
                let low = has_one.1 in
                unwritten course (place c) at lane p (λ same. omega arith) ∙ stands.to_come p (omega arith);
          }

    -- where both steps begin
    module _ (known : c < all) (step second : Step) (both : steps_begun work c ≡ step ∷ second ∷ []) (goes : run.goes_on step ≡ true) where
      has_two : HasStep work c 1
      has_two = (known, let few = begun_planned work c in let count = ap length both in omega arith)

      has_first : HasStep work c 0
      has_first = (known, let few = begun_planned work c in let count = ap length both in omega arith)

      first_of_two : slice_get (steps_begun work c) 0 ≡ Some step
      first_of_two = ap (λ l. slice_get l 0) both

      second_of_two : slice_get (steps_begun work c) 1 ≡ Some second
      second_of_two = ap (λ l. slice_get l 1) both

      two_start : after_round plain course
          ≡ with_end (with_end course (place c) (early (change_begin work n c + step_time step)) lane) (place c + 1) (early (change_begin work n c + step_time step + step_time second)) lane
      two_start =
          let at = early (change_begin work n c + step_time step) in
          let course' = with_end course (place c) at lane in
          let here : place c ≡ place c + 0 = omega arith in
          starts step has_first first_of_two
          ∙ ap (λ t. cond (t && is_joined plain (place c + 1)) (with_end course' (place c + 1) (later_by (seconds_at plain (place c + 1)) at) lane) course')
          (goes_on_if work n steps of found none_found c 0 (place c) step has_first here first_of_two ∙ goes)
          ∙ ap (λ t. cond (true && t) (with_end course' (place c + 1) (later_by (seconds_at plain (place c + 1)) at) lane) course')
          (second_joined work n steps of c step second has_two both)
          ∙ ap (λ s. with_end course' (place c + 1) (later_by s at) lane) (seconds_are work n steps of found none_found c 1 (place c + 1) second has_two refl second_of_two)
          ∙ ap (λ e. with_end course' (place c + 1) e lane) (early_by (change_begin work n c + step_time step) (step_time second))

      sum_of_two : sum_by step_time (step ∷ second ∷ []) ≡ step_time step + step_time second
      sum_of_two =
          let sum = sum_by-cons step_time step (second ∷ []) in
          let last = sum_by-cons step_time second [] in
          let none : sum_by step_time [] ≡ 0 = refl in omega arith

      stands_two : Stands
          (with_end (with_end course (place c) (early (change_begin work n c + step_time step)) lane) (place c + 1) (early (change_begin work n c + step_time step + step_time second)) lane)
          (suc c)
      stands_two =
          let b = change_begin work n c in
          let at = early (b + step_time step) in
          let at' = early (b + step_time step + step_time second) in
          let first = with_end course (place c) at lane in
          let now = with_end first (place c + 1) at' lane in
          let sum = sum_of_two in
          let span : b + span_of work c ≡ b + step_time step + step_time second = ap (λ l. b + sum_by step_time l) both ∙ omega arith in
          let room = inside work n steps of c 1 has_two in
          let size = stands.size in
          let size' : length first.ends ≡ length steps = length-set course.ends (place c) _ ∙ size in record {
            free = ap (λ f. set (set f lane at) lane at') stands.free ∙ set-set (map early free) lane at at'
                ∙ sym (map-set early free lane (b + step_time step + step_time second)) ∙ ap (λ e. map early (set free lane e)) (sym span);
            size = length-set first.ends (place c + 1) _ ∙ size';
            ended = λ d k lt is_known has. ⊎_elim
                (λ (less : d < c).
                let before = apart d k less has in
                unwritten first (place c + 1) at' lane (place d + k) (λ same. omega arith)
                ∙ unwritten course (place c) at lane (place d + k) (λ same. omega arith) ∙ stands.ended d k less is_known has)
                (λ (ge : c ≤ d).
                let here : d ≡ c = omega arith in
                let count : length (steps_begun work d) ≡ 2 = ap (λ x. length (steps_begun work x)) here ∙ ap length both in
                let its : ℕ → ℕ → Option LaneEnd = λ e l. Some (record { at = early e; lane = l }) in
                let its_lane : lane_of work n d ≡ lane = ap (lane_of work n) here in ⊎_elim
                (λ (zeroth : k ≡ 0).
                let where_it_is : place d + k ≡ place c = ap (λ x. place x + k) here ∙ (let same : place c + k ≡ place c = omega arith in same) in
                let end : step_end work n d k ≡ b + step_time step =
                ap (λ x. step_end work n x k) here ∙ ap (step_end work n c) zeroth ∙ ap (λ l. b + sum_by step_time (take 1 l)) both
                ∙ (let one = sum_by-cons step_time step [] in let none : sum_by step_time [] ≡ 0 = refl in omega arith) in
                ap (end_at now) where_it_is ∙ unwritten first (place c + 1) at' lane (place c) (λ same. omega arith) ∙ written course (place c) at lane (omega arith)
                ∙ sym (ap (λ e. its e (lane_of work n d)) end ∙ ap (its (b + step_time step)) its_lane))
                (λ (other : k ≡ 0 → ⊥).
                let first_one : k ≡ 1 = omega arith in
                let where_it_is : place d + k ≡ place c + 1 = ap (λ x. place x + k) here ∙ ap (λ j. place c + j) first_one in
                let end : step_end work n d k ≡ b + step_time step + step_time second =
                ap (λ x. step_end work n x k) here ∙ ap (step_end work n c) first_one ∙ ap (λ l. b + sum_by step_time (take 2 l)) both ∙ omega arith in
                ap (end_at now) where_it_is ∙ written first (place c + 1) at' lane (omega arith)
                ∙ sym (ap (λ e. its e (lane_of work n d)) end ∙ ap (its (b + step_time step + step_time second)) its_lane))
                (cases_eq k 0))
                (cases_lt d c);
            to_come = λ p le.
                let low = has_two.1 in
                unwritten first (place c + 1) at' lane p (λ same. omega arith) ∙ unwritten course (place c) at lane p (λ same. omega arith) ∙ stands.to_come p (omega arith);
          }

  -- ---- the next change of which a step begins

  -- No turn is ready, or a change is the next one, and the course after it.
  pub record IsNext (course : Course) : Type 0 where
    pub c : ℕ
    pub known : c < all
    pub has : 0 < length (kinds_of work.plan c)
    pub begins_one : 0 < length (steps_begun work c)
    pub stands : Stands course c
    pub ready : first_ready plain course (turns_of plain) ≡ Some (ready_turn (place c) first_lane_time)
    pub then : Stands (after_round plain course) (suc c)

  pub next_change : (course : Course) (more c : ℕ) → c + more ≡ all → Stands course c → (first_ready plain course (turns_of plain) ≡ None) ⊎ IsNext course
  next_change course zero c is stands =
      let each = of.each in
      let same : place c ≡ place all = ap (λ x. place x) (let end : c ≡ all = omega arith in end) in
      inl (none_ready plain course (length steps) 0 (λ p _ lt. is_over course c stands (omega arith) p (omega arith)))
  next_change course (suc more) c is stands =
      by_view (λ none. next_change course more (suc c) (omega arith) (without_steps course c stands none)) (begins work c (of.few c))
    where
      by_view : (steps_begun work c ≡ [] → (first_ready plain course (turns_of plain) ≡ None) ⊎ IsNext course) → Begins work c → (first_ready plain course (turns_of plain) ≡ None) ⊎ IsNext course
      by_view further (nothing none) = further none
      by_view further (one step alone) =
          let known : c < all = omega arith in
          let has = has_one course c stands known step alone in inr (record {
            c = c;
            known = known;
            has = has.1;
            begins_one = let count = ap length alone in omega arith;
            stands = stands;
            ready = is_first course c stands step has (ap (λ l. slice_get l 0) alone);
            then = subst (λ x. Stands x (suc c)) (sym (one_starts course c stands known step alone)) (stands_one course c stands known step alone);
          })
      by_view further (two step second both goes) =
          let known : c < all = omega arith in
          let has = has_first course c stands known step second both goes in inr (record {
            c = c;
            known = known;
            has = has.1;
            begins_one = let count = ap length both in omega arith;
            stands = stands;
            ready = is_first course c stands step has (ap (λ l. slice_get l 0) both);
            then = subst (λ x. Stands x (suc c)) (sym (two_start course c stands known step second both goes)) (stands_two course c stands known step second both goes);
          })

  -- ---- all rounds

  pub record AfterSome (rounds : ℕ) : Type 0 where
    pub c : ℕ
    pub few : c ≤ all
    pub stands : Stands (after_rounds plain n rounds) c

  next_after : (rounds : ℕ) (some : AfterSome rounds)
      → (first_ready plain (after_rounds plain n rounds) (turns_of plain) ≡ None) ⊎ IsNext (after_rounds plain n rounds)
  next_after rounds some = let few = some.few in next_change (after_rounds plain n rounds) (all - some.c) some.c (omega arith) some.stands

  pub after_some : (rounds : ℕ) → AfterSome rounds
  after_some zero = record { c = 0; few = omega arith; stands = at_first }
  after_some (suc rounds) =
      let before = after_some rounds in
      let course = after_rounds plain n rounds in ⊎_elim
      (λ (none : first_ready plain course (turns_of plain) ≡ None).
      record { c = before.c; few = before.few; stands = subst (λ x. Stands x before.c) (sym (ap (after_next plain course) none)) before.stands })
      (λ (next : IsNext course). let known = next.known in record { c = suc next.c; few = omega arith; stands = next.then })
      (next_after rounds before)

  -- what each round takes up
  pub taken_up : (rounds : ℕ) → (first_ready plain (after_rounds plain n rounds) (turns_of plain) ≡ None) ⊎ IsNext (after_rounds plain n rounds)
  taken_up rounds = next_after rounds (after_some rounds)

  pub as_in_run : (rounds : ℕ)
      → IfSome (first_ready plain (after_rounds plain n rounds) (turns_of plain)) (StartsAsInRun work n (after_rounds plain n rounds))
  as_in_run rounds =
      let course = after_rounds plain n rounds in ⊎_elim
      (λ (none : first_ready plain course (turns_of plain) ≡ None). subst (λ o. IfSome o (StartsAsInRun work n course)) (sym none) tt)
      (λ (next : IsNext course). subst (λ o. IfSome o (StartsAsInRun work n course)) (sym next.ready) (record {
        c = next.c;
        known = next.known;
        step = refl;
        lane = lane_is course next.c next.stands;
        begin = begin_is course next.c next.stands;
      }))
      (taken_up rounds)
