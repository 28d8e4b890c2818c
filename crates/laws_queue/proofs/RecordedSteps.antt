-- What a schedule of `record` goes by, for the steps of the stream of a run.
use Rattle.std.proofs.Common.{◌≡◌, ◌∙◌, ◌⊎◌, ◌+◌, ◌-◌, ◌<◌, ◌≤◌, ℕ, List, [], ◌∷◌, ◌++◌, Bool, true, false, ◌&&◌, ◌||◌, Option, Some, None, cond, eqb, eq-eqb, ne_eqb, get_or, length, refl, sym, ap, arith, subst, inl, inr, ⊎_elim}
use Rattle.std.specs.Prelude.{is_some, not, option_to_list, option_and_then, slice_get}
use Rattle.std.specs.Option.{option_map_or}
use Rattle.std.proofs.lemmas.Bool.{and_left, and_right, and_from, and_parts, cases_eq, cases_lt, true≢false}
use Rattle.std.proofs.lemmas.List.{get_or_past}
use Rattle.std.proofs.lemmas.List.FromFn.{get_or-map-range_with_len, length-map-range_with_len}
use Rattle.std.proofs.lemmas.Option.{slice_get_past}
use Rattle.apply_events.specs.Step.{Step, Work}
use Rattle.apply_events.specs.StepEvents as run
use Rattle.apply_events.specs.StepEvents.{step_time}
use Rattle.stream_record_waits.specs.declared.step_of_plan.StepOfPlan.{StepOfPlan}
use Rattle.stream_record_waits.specs.declared.step_of_plan.StepRun.{StepRun}
use Rattle.stream_record_waits.specs.Course.{Basis, Course, begins_turn, done_by, goes_on, is_joined, is_pinned, pin_at, ready_at, seconds_at, turn_waits}
use Rattle.stream_record_waits.specs.Graph.{waits_at}
use Rattle.stream_record_waits.specs.Joined.{joined_by_lines}
use Rattle.stream_record_waits.specs.LaneTime.{first_lane_time}
use Rattle.stream_record_waits.specs.Steps.{are_same, both_began, follows_at_once, has_begun, is_failure, step_at, step_before}
use Rattle.laws_queue.specs.Dealing.{steps_begun}
use Rattle.laws_queue.specs.OfLanes.{HasStep, IsOfLanes, IsRunOf, RanAs, place_of}
use Rattle.laws_queue.proofs.BegunSteps.{Begins, begins}
use Rattle.laws_queue.proofs.BegunSteps.Begins.{nothing, one, two}
use Rattle.laws_queue.proofs.Places.{located, place_later}

-- the basis without the order of the stream
abbrev pub plain_basis : List StepOfPlan → (found : List (List ℕ)) → Basis
plain_basis steps found = record { steps = steps; after = found; joined = joined_by_lines steps (length steps); behind = [] }

cond_same : {X : Type 0} (t : Bool) (x : X) → cond t x x ≡ x
cond_same true x = refl
cond_same false x = refl

not_not : (t : Bool) → not (not t) ≡ t
not_not true = refl
not_not false = refl

module _ (work : Work) (n : ℕ) (steps : List StepOfPlan) (of : IsOfLanes work n steps) where
  abbrev all : ℕ
  all = length work.plan.changes

  abbrev place : ℕ → ℕ
  place c = place_of work.plan c

  -- ---- one step

  pub ran_at : (c k p : ℕ) → HasStep work c k → p ≡ place c + k → RanAs (slice_get (steps_begun work c) k) (step_at steps p).run
  ran_at c k p has is = subst (λ x. RanAs (slice_get (steps_begun work c) k) (step_at steps x).run) (sym is) (of.are c k has).ran

  pub begun_at : (c k p : ℕ) (step : Step) → HasStep work c k → p ≡ place c + k → slice_get (steps_begun work c) k ≡ Some step
      → (its : StepRun) × ((step_at steps p).run ≡ Some its) × IsRunOf step its
  begun_at c k p step has is there = subst (λ o. RanAs o (step_at steps p).run) there (ran_at c k p has is)

  pub not_begun_at : (c k p : ℕ) → HasStep work c k → p ≡ place c + k → length (steps_begun work c) ≤ k → (step_at steps p).run ≡ None
  not_begun_at c k p has is past = subst (λ o. RanAs o (step_at steps p).run) (slice_get_past (steps_begun work c) k past) (ran_at c k p has is)

  pub inside : (c k : ℕ) → HasStep work c k → place c + k < length steps
  inside c k has =
      let each = of.each in let known = has.0 in let low = has.1 in
      let later = place_later work.plan c all known in omega arith

  -- a step that began is one of those that begin in the run
  pub begun_has : (c k p : ℕ) → HasStep work c k → p ≡ place c + k → has_begun steps p ≡ true → k < length (steps_begun work c)
  begun_has c k p has is began = ⊎_elim
      (λ (lt : k < length (steps_begun work c)). lt)
      (λ (past : length (steps_begun work c) ≤ k). absurd (true≢false (sym began ∙ ap (λ (run : Option StepRun). is_some run) (not_begun_at c k p has is past))))
      (cases_lt k (length (steps_begun work c)))

  -- ---- the step before

  pub none_before : (c p : ℕ) → HasStep work c 0 → p ≡ place c + 0 → step_before steps p ≡ None
  none_before c p has is =
      let first : (step_at steps p).is_first ≡ true = ap (λ x. (step_at steps x).is_first) is ∙ (of.are c 0 has).first in
      ap (λ t. cond (eqb p 0 || t) None (Some (p - 1))) first ∙ always (eqb p 0)
    where
      always : (t : Bool) → cond (t || true) None (Some (p - 1)) ≡ None
      always true = refl
      always false = refl

  pub first_before : (c p : ℕ) → HasStep work c 1 → p ≡ place c + 1 → step_before steps p ≡ Some (place c + 0)
  first_before c p has is =
      let first : (step_at steps p).is_first ≡ false = ap (λ x. (step_at steps x).is_first) is ∙ (of.are c 1 has).first in
      let some : eqb p 0 ≡ false = ne_eqb p 0 (λ none. omega arith) in
      ap (λ t. cond (eqb p 0 || t) None (Some (p - 1))) first ∙ ap (λ t. cond (t || false) None (Some (p - 1))) some
      ∙ ap Some (let same : p - 1 ≡ place c + 0 = omega arith in same)

  -- ---- steps of one turn

  abbrev joins : ℕ → Bool
  joins p = both_began steps p && follows_at_once steps p

  joined_in : (p : ℕ) → p < length steps → get_or (joined_by_lines steps (length steps)) p false ≡ joins p
  joined_in p lt = get_or-map-range_with_len joins 0 (length steps) p p false lt (omega arith)

  joined_out : (p : ℕ) → length steps ≤ p → get_or (joined_by_lines steps (length steps)) p false ≡ false
  joined_out p past = get_or_past (joined_by_lines steps (length steps)) p false (let size = length-map-range_with_len joins 0 (length steps) in omega arith)

  -- a first step, and a step that did not begin
  not_joined : (c k p : ℕ) → HasStep work c k → p ≡ place c + k → (k ≡ 0) ⊎ (length (steps_begun work c) ≤ k) → get_or (joined_by_lines steps (length steps)) p false ≡ false
  not_joined c k p has is why =
      joined_in p (let low = inside c k has in omega arith)
      ∙ and_left (both_began steps p) (follows_at_once steps p) (⊎_elim
      (λ (first : k ≡ 0).
      let has' : HasStep work c 0 = (has.0, let lt = has.1 in omega arith) in
      and_right (has_begun steps p) (option_map_or (has_begun steps) (step_before steps p) false)
      (ap (λ o. option_map_or (has_begun steps) o false) (none_before c p has' (omega arith))))
      (λ (past : length (steps_begun work c) ≤ k).
      and_left (has_begun steps p) (option_map_or (has_begun steps) (step_before steps p) false) (ap (λ (run : Option StepRun). is_some run) (not_begun_at c k p has is past)))
      why)

  pub first_not_joined : (c p : ℕ) → HasStep work c 0 → p ≡ place c + 0 → get_or (joined_by_lines steps (length steps)) p false ≡ false
  first_not_joined c p has is = not_joined c 0 p has is (inl refl)

  -- where one step of a change begins alone
  pub next_not_joined : (c : ℕ) → HasStep work c 0 → length (steps_begun work c) ≡ 1 → get_or (joined_by_lines steps (length steps)) (place c + 1) false ≡ false
  next_not_joined c has alone = ⊎_elim
      (λ (lt : place c + 1 < place all).
      let at = located work.plan all (place c + 1) lt in
      let known = at.known in let low = at.has in let is = at.is in ⊎_elim
      (λ (same : at.c ≡ c).
      let here : place at.c ≡ place c = ap (λ x. place x) same in
      let count : length (steps_begun work at.c) ≡ 1 = ap (λ x. length (steps_begun work x)) same ∙ alone in
      not_joined at.c at.k (place c + 1) (known, low) is (inr (omega arith)))
      (λ (other : at.c ≡ c → ⊥). ⊎_elim
      (λ (before : at.c < c). let behind = place_later work.plan at.c c before in absurd (omega arith))
      (λ (le : c ≤ at.c).
      let some = has.1 in
      let behind = place_later work.plan c at.c (omega arith) in
      not_joined at.c at.k (place c + 1) (known, low) is (inl (omega arith)))
      (cases_lt at.c c))
      (cases_eq at.c c))
      (λ (past : place all ≤ place c + 1). joined_out (place c + 1) (let each = of.each in omega arith))
      (cases_lt (place c + 1) (place all))

  -- where both steps begin
  pub second_joined : (c : ℕ) (first second : Step) → HasStep work c 1 → steps_begun work c ≡ first ∷ second ∷ [] → get_or (joined_by_lines steps (length steps)) (place c + 1) false ≡ true
  second_joined c first second has both =
      let has' : HasStep work c 0 = (has.0, let lt = has.1 in omega arith) in
      let one = begun_at c 0 (place c + 0) first has' refl (ap (λ l. slice_get l 0) both) in
      let other = begun_at c 1 (place c + 1) second has refl (ap (λ l. slice_get l 1) both) in
      let follows = of.follow c one.0 other.0 has one.1 other.1 in
      let before = first_before c (place c + 1) has refl in
      let began : both_began steps (place c + 1) ≡ true =
      and_from (has_begun steps (place c + 1)) (option_map_or (has_begun steps) (step_before steps (place c + 1)) false)
      (ap (λ (run : Option StepRun). is_some run) other.1)
      (ap (λ o. option_map_or (has_begun steps) o false) before ∙ ap (λ (run : Option StepRun). is_some run) one.1) in
      let previous : option_and_then (λ (run : StepRun). run.previous) (step_at steps (place c + 1)).run ≡ Some follows.0 =
      ap (option_and_then (λ (run : StepRun). run.previous)) other.1 ∙ follows.2 in
      let end : option_and_then (λ before. option_and_then (λ (run : StepRun). run.end) (step_at steps before).run) (step_before steps (place c + 1)) ≡ Some follows.0 =
      ap (option_and_then (λ before. option_and_then (λ (run : StepRun). run.end) (step_at steps before).run)) before ∙ ap (option_and_then (λ (run : StepRun). run.end)) one.1 ∙ follows.1 in
      let at_once : follows_at_once steps (place c + 1) ≡ true =
      ap (λ o. are_same o (option_and_then (λ before. option_and_then (λ (run : StepRun). run.end) (step_at steps before).run) (step_before steps (place c + 1)))) previous
      ∙ ap (are_same (Some follows.0)) end ∙ eq-eqb follows.0 follows.0 refl in
      joined_in (place c + 1) (inside c 1 has) ∙ and_from (both_began steps (place c + 1)) (follows_at_once steps (place c + 1)) began at_once

  pub second_follows : (c : ℕ) → HasStep work c 1 → 1 < length (steps_begun work c) → follows_at_once steps (place c + 1) ≡ true
  second_follows c has more = by_view (begins work c (of.few c))
    where
      by_view : Begins work c → follows_at_once steps (place c + 1) ≡ true
      by_view (nothing none) = let count = ap length none in absurd (omega arith)
      by_view (one step alone) = let count = ap length alone in absurd (omega arith)
      by_view (two step second both goes) =
          (and_parts (both_began steps (place c + 1)) (follows_at_once steps (place c + 1)) (sym (joined_in (place c + 1) (inside c 1 has)) ∙ second_joined c step second has both)).1

  -- ---- turns

  module _ (found : List (List ℕ)) (none_found : (p : ℕ) → has_begun steps p ≡ true → waits_at found p ≡ []) where
    abbrev plain : Basis
    plain = plain_basis steps found

    pub seconds_are : (c k p : ℕ) (step : Step) → HasStep work c k → p ≡ place c + k → slice_get (steps_begun work c) k ≡ Some step → seconds_at plain p ≡ step_time step
    seconds_are c k p step has is there =
        let its = begun_at c k p step has is there in
        ap (λ o. option_map_or (λ (run : StepRun). run.seconds) o 0) its.1 ∙ its.2.seconds

    pub goes_on_if : (c k p : ℕ) (step : Step) → HasStep work c k → p ≡ place c + k → slice_get (steps_begun work c) k ≡ Some step → goes_on plain p ≡ run.goes_on step
    goes_on_if c k p step has is there =
        let its = begun_at c k p step has is there in
        ap (λ o. option_map_or (λ (run : StepRun). not (is_failure run.fate)) o false) its.1 ∙ ap not its.2.fate ∙ not_not (run.goes_on step)

    pub begins_if : (c p : ℕ) (step : Step) → HasStep work c 0 → p ≡ place c + 0 → slice_get (steps_begun work c) 0 ≡ Some step → begins_turn plain p ≡ true
    begins_if c p step has is there =
        let its = begun_at c 0 p step has is there in
        and_from (has_begun steps p) (not (is_joined plain p)) (ap (λ (run : Option StepRun). is_some run) its.1) (ap not (first_not_joined c p has is))

    pub ready_now : (course : Course) (c p : ℕ) (step : Step) → HasStep work c 0 → p ≡ place c + 0 → slice_get (steps_begun work c) 0 ≡ Some step → ready_at plain course p ≡ Some first_lane_time
    ready_now course c p step has is there =
        let its = begun_at c 0 p step has is there in
        let pin : pin_at plain course p ≡ None = cond_same (is_pinned course p) None in
        let waits : turn_waits plain course p ≡ [] =
        ap (λ o. option_to_list o ++ (option_to_list (step_before steps p) ++ waits_at found p)) pin
        ∙ ap (λ o. option_to_list o ++ waits_at found p) (none_before c p has is)
        ∙ none_found p (ap (λ (run : Option StepRun). is_some run) its.1) in
        ap (done_by plain course) waits
