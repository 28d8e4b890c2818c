-- The laws of time lines, at the work of a planning.
use Rattle.std.proofs.Common.{◌≡◌, ℕ, suc, ◌+◌, ◌<◌, ◌≤◌, ◌&&◌, ◌||◌, Bool, false, true, List, [], ◌∷◌, All, Option, Some, None, arith, cond, length, not, refl, sym, ap, ap₂, subst, ◌∙◌, slice_get}
use Rattle.std.specs.Prelude.{option_map}
use Rattle.std.specs.List.{Contains, enumerate_from, list_all}
use Rattle.std.specs.Option.{option_map_or}
use Rattle.std.proofs.lemmas.List.{append-nil}
use Rattle.std.proofs.lemmas.List.Elements.{All-contains, Contains-append_right}
use Rattle.std.proofs.lemmas.Option.{slice_get-map}
use Rattle.apply_model.specs.declared.plan.step_kind.StepKind.TheVariants.{Read}
use Rattle.apply_model.specs.declared.script.wait.Wait.{Wait}
use Rattle.apply_model.specs.Plan.ResourceChange.{ResourceChange}
use Rattle.apply_model.specs.Script.Waits.{waits_of}
use Rattle.apply_events.specs.declared.event.Event.{Event}
use Rattle.apply_events.specs.declared.lanes.lane_time.LaneTime.{LaneTime}
use Rattle.apply_events.specs.ChangeEvents.{in_turn}
use Rattle.apply_events.specs.Fits.{IsApplied}
use Rattle.apply_events.specs.Step.{Step, kinds_applied, step_of}
use Rattle.apply_events.specs.StepEvents.{goes_on, step_events, step_time}
use Rattle.apply_events.specs.Waits.Turn.{single}
use Rattle.apply_events.proofs.Waits.Members.{in_head}
use Rattle.apply_planning.specs.declared.told.Told.{Told}
use Rattle.apply_planning.specs.Names.{name_wait}
use Rattle.apply_planning.specs.PlanningWork.{change_of, is_needed, planning_work, waits_from}
use Rattle.apply_planning.specs.ToldEvents as planned
use Rattle.apply_planning.proofs.Agreeing.{in_steps}
use Rattle.apply_planning.proofs.PlannedWork.{begun_one, goes_unless, one_kind, one_step, turn_waits_are}
use Rattle.apply_planning.proofs.TurnEvents.{its_events}
use Rattle.laws_run.specs.WaitingSteps as steps
use Rattle.laws_run.specs.WaitingSteps.{AreWhole, ComeAfterWhatTheyWaitFor, HasFewSteps, is_done_along, has_events}
use Rattle.laws_command.specs.Plannings.{BeginWhereAllIsDone, ComeAfterWhatTheyNeed, RunsOnce, is_done}

-- each object is a change of one step
pub few_steps : (told : List Told) → HasFewSteps (planning_work told)
few_steps told c =
    subst (λ (o : Option ResourceChange). length (option_map_or (λ change. change.steps) o []) ≤ 2) (sym (slice_get-map change_of told c)) (by_object (slice_get told c))
  where
    by_object : (o : Option Told) → length (option_map_or (λ (change : ResourceChange). change.steps) (option_map change_of o) []) ≤ 2
    by_object None = omega arith
    by_object (Some one) = omega arith

-- ---- what an object waits for

module _ (told : List Told) (events : List Event) (after_waits : ComeAfterWhatTheyWaitFor (planning_work told) events)
    (applied : All (λ event. IsApplied (planning_work told).plan (planning_work told).script event.change event.step) events) where
  -- the only step of an object is number 0
  first_step : (event : Event) (one : Told) → Contains events event → slice_get told event.change ≡ Some one → event.step ≡ 0
  first_step event one there is =
      let has = All-contains (λ (e : Event). IsApplied (planning_work told).plan (planning_work told).script e.change e.step) events event applied there in
      let few : event.step < 1 = subst (λ kinds. event.step < length kinds) (one_kind told event.change one is) has in
      omega arith

  pub come_after : ComeAfterWhatTheyNeed told events
  come_after before after event one other number split is other_is needed =
      let waits = waits_of (planning_work told).script event.change in
      let all : All (λ name. has_events after name ≡ false) (waits event.step) = after_waits before after event split in
      let place : 0 + number ≡ number = omega arith in
      let step : event.step ≡ 0 = first_step event one (subst (λ (es : List Event). Contains es event) (sym split) (Contains-append_right before (event ∷ after) event (in_head event after))) is in
      All-contains (λ name. has_events after name ≡ false) (waits 0) (name_wait number)
      (subst (λ k. All (λ name. has_events after name ≡ false) (waits k)) step all)
      (subst (λ (l : List Wait). Contains l (name_wait number)) (sym (turn_waits_are told event.change one is)) (subst (λ k. Contains (waits_from 0 told one) (name_wait k)) place (in_steps told one 0 number other other_is needed)))

-- ---- the events of an object

module _ (told : List Told) (c : ℕ) (one : Told) (is : slice_get told c ≡ Some one) (lane : ℕ) (begin : LaneTime) where
  of_step : step_events lane (step_of (planning_work told) c 0 Read) begin.second ≡ planned.events_of one (record { turn = single c 0; lane = lane; begin = begin })
  of_step =
      sym (append-nil (step_events lane (step_of (planning_work told) c 0 Read) begin.second))
      ∙ sym (ap (λ (steps : List Step). in_turn (step_events lane) step_time steps begin.second) (begun_one told c one is))
      ∙ its_events told c one is lane begin

pub run_once : (told : List Told) (events : List Event) → AreWhole (planning_work told) events
    → (number : ℕ) (one : Told) → slice_get told number ≡ Some one → has_events events (name_wait number) ≡ true → RunsOnce events number one
run_once told events whole number one is has =
    let it = whole (name_wait number) has in
    let begin : LaneTime = record { second = it.begin; round = 0 } in
    let steps : slice_get (step_of (planning_work told) number 0 Read ∷ []) 0 ≡ Some it.step
    = subst (λ (l : List Step). slice_get l 0 ≡ Some it.step) (one_step told number one is) it.is_step in
    let same : step_of (planning_work told) number 0 Read ≡ it.step = cc in
    record {
      lane = it.lane;
      begin = begin;
      are_all = it.are_all ∙ ap (λ (step : Step). step_events it.lane step it.begin) (sym same) ∙ of_step told number one is it.lane begin;
    }

-- ---- what is left out

module _ (told : List Told) (events : List Event) where
  -- an object that fails with an error is not done
  done_if : (c : ℕ) (one : Told) → slice_get told c ≡ Some one → is_done_along (planning_work told) events (name_wait c) ≡ is_done events (c, one)
  done_if c one is =
      ap (λ (b : Bool). has_events events (name_wait c) && b)
      (ap (λ (steps : List Step). option_map_or goes_on (slice_get steps 0) false) (one_step told c one is) ∙ goes_unless told c one is)

  module _ (one : Told) where
    done_among : (first : ℕ) (others : List Told) → ((k : ℕ) (other : Told) → slice_get others k ≡ Some other → slice_get told (first + k) ≡ Some other)
        → list_all (is_done_along (planning_work told) events) (waits_from first others one) ≡ list_all (λ p. not (is_needed one p.1) || is_done events p) (enumerate_from first others)
    done_among first [] among = refl
    done_among first (other ∷ others) among =
        let place : first + 0 ≡ first = omega arith in
        let is : slice_get told first ≡ Some other = subst (λ k. slice_get told k ≡ Some other) place (among 0 other refl) in
        let rest = done_among (first + 1) others (λ k later there. let on : first + suc k ≡ first + 1 + k = omega arith in subst (λ n. slice_get told n ≡ Some later) on (among (suc k) later there)) in
        by_need (is_needed one other) other is rest
      where
        by_need : (needed : Bool) (other : Told) → slice_get told first ≡ Some other
            → list_all (is_done_along (planning_work told) events) (waits_from (first + 1) others one) ≡ list_all (λ p. not (is_needed one p.1) || is_done events p) (enumerate_from (first + 1) others)
            → list_all (is_done_along (planning_work told) events) (cond needed (name_wait first ∷ waits_from (first + 1) others one) (waits_from (first + 1) others one))
            ≡ ((not needed || is_done events (first, other)) && list_all (λ p. not (is_needed one p.1) || is_done events p) (enumerate_from (first + 1) others))
        by_need true other is rest = ap₂ (λ (a b : Bool). a && b) (done_if first other is) rest
        by_need false other is rest = rest

  pub begin_where_all_is_done : steps.BeginWhereAllIsDone (planning_work told) events → BeginWhereAllIsDone told events
  begin_where_all_is_done begins number one is =
      let applied : 0 < length (kinds_applied (planning_work told).plan (planning_work told).script number) = subst (λ kinds. 0 < length kinds) (sym (one_kind told number one is)) (omega arith) in
      begins number 0 applied
      ∙ ap (λ (l : List Wait). list_all (is_done_along (planning_work told) events) l) (turn_waits_are told number one is)
      ∙ done_among one 0 told (λ k other there. let place : k ≡ 0 + k = omega arith in subst (λ n. slice_get told n ≡ Some other) place there)
