-- The steps of a run that begin: what each waits for is done before.
use Rattle.std.proofs.Common.{◌≡◌, ◌∙◌, ◌+◌, ℕ, zero, suc, Bool, true, false, not, List, [], ◌∷◌, map, Option, None, Some, refl, sym, ap, arith, subst₂, eqb}
use Rattle.std.specs.Prelude.{◌&&◌, All, is_none, slice_get}
use Rattle.std.specs.List.{Contains, enumerate_from}
use Rattle.std.specs.Option.{option_map_or}
use Rattle.std.proofs.lemmas.Bool.{and_parts, eqb-true}
use Rattle.std.proofs.lemmas.List.Elements.{All-contains}
use Rattle.apply_model.specs.declared.plan.step_kind.StepKind.{StepKind}
use Rattle.apply_model.specs.declared.script.wait.Wait.{Wait}
use Rattle.apply_model.specs.Script.Outcome.{fails}
use Rattle.apply_model.specs.Script.OutcomeMap.{OutcomeMap, outcome_of}
use Rattle.apply_model.specs.Script.Waits.{waits_of}
use Rattle.apply_hooks.specs.declared.phase.Phase.TheVariants.{PostDone, Pre}
use Rattle.apply_events.specs.declared.event.Event.{Event}
use Rattle.apply_events.specs.Diagnostics.{is_note}
use Rattle.apply_events.specs.Fits.{IsApplied}
use Rattle.apply_events.specs.Step.{Step, Work, kinds_applied, step_of, steps_of}
use Rattle.apply_events.specs.StepEvents.{goes_on}
use Rattle.apply_events.specs.Waits.Schedule.{schedule}
use Rattle.apply_events.proofs.Waits.Members.{in_all, in_any, in_tail}
use Rattle.apply_text.specs.Order.{hook_messages_of}
use Rattle.laws_lanes.specs.Alike.{is_begun}
use Rattle.laws_lanes.proofs.WithEvents.{begun_is}
use Rattle.laws_run.specs.WaitingSteps.{BeginWhereAllIsDone, ComeAfterWhatTheyWaitFor, has_events, is_done_along, is_of_step}
use Rattle.laws_kept_waits.specs.InLines.{EndsBefore, IsRun}
use Rattle.laws_kept_waits.proofs.Lists.{among, none_kept}

-- ---- steps that go on have not failed

fails_at : (work : Work) (c from k : ℕ) (kinds : List StepKind) (step : Step) → slice_get (map (λ p. step_of work c p.0 p.1) (enumerate_from from kinds)) k ≡ Some step
    → step.fails ≡ fails (outcome_of work.script c (from + k))
fails_at work c from k [] step at = absurd cc
fails_at work c from zero (kind ∷ kinds) step at =
    let same : step_of work c from kind ≡ step = cc in
    let here : from ≡ from + zero = omega arith in
    sym (ap (λ (s : Step). s.fails) same) ∙ ap (λ j. fails (outcome_of work.script c j)) here
fails_at work c from (suc k) (kind ∷ kinds) step at =
    let there : from + 1 + k ≡ from + suc k = omega arith in
    fails_at work c (from + 1) k kinds step at ∙ ap (λ j. fails (outcome_of work.script c j)) there

unfailed : (pre failed post : Bool) → (pre && not failed && post) ≡ true → failed ≡ false
unfailed pre false post is = refl
unfailed true true post is = absurd cc
unfailed false true post is = absurd cc

on_has_not_failed : (work : Work) (c k : ℕ) (step : Option Step) → slice_get (steps_of work c) k ≡ step → option_map_or goes_on step false ≡ true
    → fails (outcome_of work.script c k) ≡ false
on_has_not_failed work c k None at on = absurd cc
on_has_not_failed work c k (Some step) at on =
    let zeroth : 0 + k ≡ k = omega arith in
    ap (λ j. fails (outcome_of work.script c j)) (sym zeroth)
    ∙ sym (fails_at work c 0 k (kinds_applied work.plan work.script c) step at)
    ∙ unfailed (is_none (step.halts Pre)) step.fails (is_none (step.halts PostDone)) on

-- what a step's outcome names is among its waits
pub named_is_waited : (script : OutcomeMap) (c k : ℕ) (name : Wait) → Contains (outcome_of script c k).after name → Contains (waits_of script c k) name
named_is_waited script c zero name has = has
named_is_waited script c (suc k) name has = in_tail (record { change = c; step = k }) (outcome_of script c (suc k)).after name has

-- ---- the steps of a run

pub record IsDone (work : Work) (n : ℕ) (name : Wait) : Type 0 where
  pub begins : is_begun work (schedule work n) name.change name.step ≡ true
  pub has_not_failed : fails (outcome_of work.script name.change name.step) ≡ false

-- what laws of time lines say of the events
pub record WaitInTurn (work : Work) (events : List Event) : Type 0 where
  pub late : ComeAfterWhatTheyWaitFor work events
  pub begins : BeginWhereAllIsDone work events
  pub applied : All (λ event. IsApplied work.plan work.script event.change event.step) events

module _ (work : Work) (n : ℕ) (events : List Event) (run : IsRun work n events) (turns : WaitInTurn work events) where
  with_events : (c k : ℕ) → is_begun work (schedule work n) c k ≡ has_events events (record { change = c; step = k })
  with_events c k = let some = run.some in begun_is work n (omega (arith, some)) events run.line c k

  only_applied : (c k : ℕ) → has_events events (record { change = c; step = k }) ≡ true → IsApplied work.plan work.script c k
  only_applied c k has =
      let one = in_any (is_of_step (record { change = c; step = k })) events has in
      let both = and_parts (eqb one.0.change c) (eqb one.0.step k) one.2 in
      subst₂ (IsApplied work.plan work.script) (eqb-true one.0.change c both.0) (eqb-true one.0.step k both.1)
      (All-contains (λ (event : Event). IsApplied work.plan work.script event.change event.step) events one.0 turns.applied one.1)

  -- what a step waits for that begins is done
  done_along : (c k : ℕ) (name : Wait) → is_begun work (schedule work n) c k ≡ true → Contains (waits_of work.script c k) name → is_done_along work events name ≡ true
  done_along c k name begins waits =
      let has : has_events events (record { change = c; step = k }) ≡ true = sym (with_events c k) ∙ begins in
      in_all (is_done_along work events) (waits_of work.script c k) name (sym (turns.begins c k (only_applied c k has)) ∙ has) waits

  pub waited_is_done : (c k : ℕ) (name : Wait) → is_begun work (schedule work n) c k ≡ true → Contains (waits_of work.script c k) name → IsDone work n name
  waited_is_done c k name begins waits =
      let both = and_parts (has_events events name) (option_map_or goes_on (slice_get (steps_of work name.change) name.step) false) (done_along c k name begins waits) in
      record {
        begins = with_events name.change name.step ∙ both.0;
        has_not_failed = on_has_not_failed work name.change name.step (slice_get (steps_of work name.change) name.step) refl both.1;
      }

  -- its hook messages come before
  pub waited_ends_before : (name other : Wait) → Contains (waits_of work.script name.change name.step) other → EndsBefore (hook_messages_of events) other name
  waited_ends_before name other waits before after event is of =
      let shown = λ (event : Event). not (is_note event.what) in
      let there = among shown events before after event is in
      let both = and_parts (eqb event.change name.change) (eqb event.step name.step) of in
      let named : Contains (waits_of work.script event.change event.step) other =
      subst₂ (λ c k. Contains (waits_of work.script c k) other) (sym (eqb-true event.change name.change both.0)) (sym (eqb-true event.step name.step both.1)) waits in
      let none = All-contains (λ name. has_events there.after name ≡ false) (waits_of work.script event.change event.step) other
      (turns.late there.before there.after event there.are) named in
      ap (λ l. has_events l other) (sym there.kept) ∙ none_kept (is_of_step other) shown there.after none
