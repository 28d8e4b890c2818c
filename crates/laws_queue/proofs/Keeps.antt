-- The stream of a run without waits keeps time.
use Rattle.std.proofs.Common.{◌≡◌, ◌∙◌, ◌+◌, ◌<◌, ◌≤◌, ℕ, List, [], ◌∷◌, true, false, ◌&&◌, ◌||◌, Option, Some, None, length, ltb, lt-ltb, le-ltb, refl, sym, ap, arith, subst, ⊎_elim}
use Rattle.std.specs.Prelude.{is_some, not, option_and_then, slice_get}
use Rattle.std.specs.Option.{option_map_or}
use Rattle.std.proofs.lemmas.Bool.{and_right, cases_lt}
use Rattle.apply_events.specs.Step.{Work}
use Rattle.stream_record_waits.specs.declared.step_of_plan.RunFate.{RunFate}
use Rattle.stream_record_waits.specs.declared.step_of_plan.RunFate.TheVariants.{Done, Warned, Failed}
use Rattle.stream_record_waits.specs.declared.step_of_plan.StepOfPlan.{StepOfPlan}
use Rattle.stream_record_waits.specs.declared.step_of_plan.StepRun.{StepRun}
use Rattle.stream_record_waits.specs.Behind.{AreBehind, EndsLastBefore, IsBehind, IsLastBefore}
use Rattle.stream_record_waits.specs.Course.{Basis, Course, after_rounds, behind_at, end_at, ends_later, first_ready, is_pinned, is_put_back, ready_turn, turns_of}
use Rattle.stream_record_waits.specs.Graph.{waits_at}
use Rattle.stream_record_waits.specs.LaneTime.{first_lane_time, is_earlier}
use Rattle.stream_record_waits.specs.Recorded.{found_basis}
use Rattle.stream_record_waits.specs.Steps.{completion, completion_of, has_begun, step_at}
use Rattle.laws_queue.specs.Dealing.{change_begin, lane_of, step_end, steps_begun}
use Rattle.laws_queue.specs.OfLanes.{EndsBefore, HasStep, IsOfLanes, place_of}
use Rattle.laws_record.specs.Schedules.{IsInTime, KeepsTime, begin_of}
use Rattle.laws_queue.proofs.Frees.{later_begin}
use Rattle.laws_queue.proofs.Places.{located}
use Rattle.laws_queue.proofs.RecordTimes.{early, early_earlier}
use Rattle.laws_queue.proofs.RecordedSteps.{begun_at, begun_has, inside, plain_basis}
use Rattle.laws_queue.proofs.Rounds.{IsNext, begin_is, lane_is, run_end, taken_up}

-- ---- a step that completed

completed : (run : Option StepRun) (end : ℕ) → option_and_then completion run ≡ Some end → (its : StepRun) × (run ≡ Some its) × (its.end ≡ Some end)
completed None end is = cc
completed (Some run) end is = (run, refl, by_fate run.fate is)
  where
    by_fate : (fate : RunFate) → completion_of fate run.end ≡ Some end → run.end ≡ Some end
    by_fate Done its = its
    by_fate Warned its = cc
    by_fate Failed its = cc

-- an end no later, and at that time in no higher lane
not_later : (a b l m : ℕ) → a ≤ b → (a ≡ b → l ≤ m) → ends_later (Some (record { at = early a; lane = l })) (early b) m ≡ false
not_later a b l m le low =
    ap (λ t. t || (not (is_earlier (early a) (early b)) && ltb m l)) (early_earlier b a ∙ le-ltb b a le)
    ∙ ap (λ t. not t && ltb m l) (early_earlier a b) ∙ ⊎_elim
    (λ (less : a < b). ap (λ t. not t && ltb m l) (lt-ltb a b less))
    (λ (ge : b ≤ a). ap (λ t. not t && ltb m l) (le-ltb a b ge) ∙ le-ltb m l (low (omega arith)))
    (cases_lt a b)

module _ (work : Work) (n : ℕ) (some : 0 < n) (steps : List StepOfPlan) (of : IsOfLanes work n steps) (found : List (List ℕ)) (none_found : (p : ℕ) → has_begun steps p ≡ true → waits_at found p ≡ [])
    (behind : List (Option ℕ)) (are : AreBehind steps behind) where
  abbrev plain : Basis
  plain = plain_basis steps found

  abbrev all : ℕ
  all = length work.plan.changes

  abbrev place : ℕ → ℕ
  place c = place_of work.plan c

  module _ (course : Course) (next : IsNext work n steps of found none_found course) where
    -- what ended before the change in the stream is of a change that was taken up before
    taken_before : (d k : ℕ) → EndsBefore work n d k next.c → d < next.c
    taken_before d k ends = ⊎_elim
        (λ (lt : d < next.c). lt)
        (λ (ge : next.c ≤ d).
        let later = later_begin work n some next.c d ge in
        let le = later.0 in let by_then = ends.0 in
        let same : step_end work n d k ≡ change_begin work n next.c = omega arith in
        let low = ends.1 same in ⊎_elim
        (λ (lower : lane_of work n d < lane_of work n next.c). let less = later.1 lower in absurd (omega arith))
        (λ (high : lane_of work n next.c ≤ lane_of work n d). ends.2 (omega arith))
        (cases_lt (lane_of work n d) (lane_of work n next.c)))
        (cases_lt d next.c)

    has_first : HasStep work next.c 0
    has_first = (next.known, next.has)

    -- the step of which the change begins behind has ended
    has_ended : (run : StepRun) → (step_at steps (place next.c)).run ≡ Some run → (other : ℕ) → EndsLastBefore steps run.line other
        → ends_later (end_at course other) (early (change_begin work n next.c)) (lane_of work n next.c) ≡ false
    has_ended run ran other last =
        let at = located work.plan all other (let each = of.each in let low = last.ends.0 in omega arith) in
        let has : HasStep work at.c at.k = (at.known, at.has) in
        let its = completed (step_at steps other).run last.end last.ends.1 in
        let here : place next.c + 0 ≡ place next.c = omega arith in
        let ends = of.in_order next.c at.c at.k run its.0 last.end has_first has
        (ap (λ p. (step_at steps p).run) here ∙ ran) (ap (λ p. (step_at steps p).run) (sym at.is) ∙ its.1) its.2 last.ends.2 in
        let began : has_begun steps other ≡ true = ap (λ (o : Option StepRun). is_some o) its.1 in
        let ended : end_at course other ≡ Some (run_end work n steps of found none_found at.c at.k) =
        ap (end_at course) at.is
        ∙ next.stands.ended at.c at.k (taken_before at.c at.k ends) at.known (begun_has work n steps of at.c at.k other has at.is began) in
        ap (λ end. ends_later end (early (change_begin work n next.c)) (lane_of work n next.c)) ended
        ∙ not_later (step_end work n at.c at.k) (change_begin work n next.c) (lane_of work n at.c) (lane_of work n next.c) ends.0 ends.1

    is_behind : (run : StepRun) → (step_at steps (place next.c)).run ≡ Some run → (other : Option ℕ) → IsLastBefore steps run.line other
        → option_map_or (λ o. ends_later (end_at course o) (early (change_begin work n next.c)) (lane_of work n next.c)) other false ≡ false
    is_behind run ran None is = refl
    is_behind run ran (Some other) last = has_ended run ran other last

    stays : is_put_back (found_basis steps None behind found) course (place next.c) (early (change_begin work n next.c)) (lane_of work n next.c) ≡ false
    stays =
        let first = some_first (steps_begun work next.c) next.begins_one in
        let its = begun_at work n steps of next.c 0 (place next.c) first.0 has_first (omega arith) first.1 in
        let low = inside work n steps of next.c 0 has_first in
        let last : IsLastBefore steps its.0.line (behind_at (found_basis steps None behind found) (place next.c)) =
        subst (λ run. IsBehind steps run (behind_at (found_basis steps None behind found) (place next.c))) its.1 (are.are (place next.c) (omega arith)) in
        and_right (not (is_pinned course (place next.c))) _ (is_behind its.0 its.1 (behind_at (found_basis steps None behind found) (place next.c)) last)
      where
        some_first : {X : Type 0} (xs : List X) → 0 < length xs → (x : X) × (slice_get xs 0 ≡ Some x)
        some_first [] lt = absurd (omega arith)
        some_first (x ∷ xs) lt = (x, refl)

    in_time : IsInTime (found_basis steps None behind found) course (Some (ready_turn (place next.c) first_lane_time))
    in_time =
        let basis = found_basis steps None behind found in
        ap (λ l. is_put_back basis course (place next.c) (begin_of course (ready_turn (place next.c) first_lane_time)) l)
        (lane_is work n steps of found none_found course next.c next.stands)
        ∙ ap (λ b. is_put_back basis course (place next.c) b (lane_of work n next.c)) (begin_is work n steps of found none_found course next.c next.stands)
        ∙ stays

  pub keeps : KeepsTime (found_basis steps None behind found) n
  keeps rounds =
      let basis = found_basis steps None behind found in
      let course = after_rounds plain n rounds in ⊎_elim
      (λ (none : first_ready plain course (turns_of plain) ≡ None). subst (IsInTime basis course) (sym none) tt)
      (λ (next : IsNext work n steps of found none_found course). subst (IsInTime basis course) (sym next.ready) (in_time course next))
      (taken_up work n steps of found none_found rounds)
