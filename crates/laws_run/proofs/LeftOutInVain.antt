-- Only steps that are skipped or wait in vain are left out. The plan was read, and the script was
-- read or there is none.
use Rattle.std.proofs.Common.{◌≡◌, ◌⊎◌, ℕ, zero, suc, All, Bool, true, false, ◌&&◌, List, [], ◌∷◌, Option, Some, None, Ok, refl, sym, ap, ◌∙◌, subst, ⊎_elim, inl, inr}
use Rattle.std.specs.Prelude.{◌*◌, IfSome, length, option_and_then, slice_get, unwrap_or}
use Rattle.std.specs.List.{list_all}
use Rattle.std.specs.Option.{option_map_or}
use Rattle.std.proofs.lemmas.Bool.{cases_Bool, true≢false}
use Rattle.std.proofs.lemmas.List.Elements.{All-nil}
use Rattle.apply_model.specs.declared.script.script_step.ScriptStep.{ScriptStep}
use Rattle.apply_model.specs.declared.script.wait.Wait.{Wait}
use Rattle.apply_model.specs.Plan.SavedPlan.{SavedPlan}
use Rattle.apply_model.specs.Script.Outcome.{IsBounded, default_outcome}
use Rattle.apply_model.specs.Script.OutcomeMap.{IsInRange, OutcomeMap, stated_step, outcome_of, stated_steps}
use Rattle.apply_model.specs.Script.Step.{after_of, answer_to}
use Rattle.apply_model.specs.Script.Waits.{begins_within}
use Rattle.apply_events.specs.declared.event.Event.{Event}
use Rattle.apply_events.specs.Fits.{HasStep, IsApplied}
use Rattle.apply_events.specs.Step.{Work}
use Rattle.apply_events.proofs.Waits.Members.{in_any}
use Rattle.apply_events.proofs.Waits.TurnSteps.{all_at}
use Rattle.laws_run.specs.WaitingSteps.{BeginWhereAllIsDone, HasFewSteps, NamesSteps, WaitsInVain, has_events, has_stopped, is_of_step, skips}
use Rattle.laws_run.specs.WaitingSteps.WaitsInVain.{for_skipped, for_stopped, for_waiting}
use Rattle.laws_run.proofs.InVain.{leave_out_within}
use Rattle.apply_plan.specs.Script.OutcomeMap.{script_of}
use Rattle.apply_run.specs.Bytes.{given_script}
use Rattle.laws_run.specs.Scripts.{CanAllBegin, LeaveOutJustWhatWaitsInVain, LeaveOutNone}
use Rattle.laws_run.proofs.ReadScripts.{read_in_range}
use Rattle.laws_run.proofs.BothSides.{of_name}

-- ---- without a script

nothing_said : (c : ℕ) → stated_steps [] c ≡ None
nothing_said zero = refl
nothing_said (suc c) = refl

nothing_given : (c k : ℕ) → stated_step [] c k ≡ None
nothing_given c k = ap (λ (stated : Option (List ScriptStep)). option_and_then (λ (steps : List ScriptStep). slice_get steps k) stated) (nothing_said c)

-- a step waits for the one before it alone
none_begins : (c k : ℕ) → begins_within [] (suc k) c k ≡ true
unfolding begins_within
none_begins c zero = ap (λ (o : Option ScriptStep). list_all (λ (wait : Wait). begins_within [] zero wait.change wait.step) (option_map_or after_of o [])) (nothing_given c zero)
none_begins c (suc k) =
    ap (λ (o : Option ScriptStep). list_all (λ (wait : Wait). begins_within [] (suc k) wait.change wait.step) (record { change = c; step = k } ∷ option_map_or after_of o [])) (nothing_given c (suc k))
    ∙ ap (λ (b : Bool). b && true) (none_begins c k)

outcome_names_none : (P : Wait → Type 0) (o : Option ScriptStep) → o ≡ None → All P (unwrap_or (option_and_then answer_to o) default_outcome).after
outcome_names_none P None none = All-nil P
outcome_names_none P (Some step) none = absurd cc

none_names : (plan : SavedPlan) (c k : ℕ) → All (λ (name : Wait). HasStep plan name.change name.step) (outcome_of [] c k).after
none_names plan c k = outcome_names_none (λ (name : Wait). HasStep plan name.change name.step) (stated_step [] c k) (nothing_given c k)

pub none_in_range : IsInRange []
none_in_range c k = subst (λ (o : Option ScriptStep). IfSome (option_and_then answer_to o) IsBounded) (sym (nothing_given c k)) tt

-- ---- with a script or without

module _ (work : Work) (read_names : (bytes : List ℕ) → script_of work.plan bytes ≡ Ok work.script → NamesSteps work)
    (read_begins : (bytes : List ℕ) → script_of work.plan bytes ≡ Ok work.script → CanAllBegin work) where
  pub given_names : (bytes : Option (List ℕ)) → given_script work.plan bytes ≡ Ok work.script → NamesSteps work
  given_names None is c k has = subst (λ (script : OutcomeMap). All (λ (name : Wait). HasStep work.plan name.change name.step) (outcome_of script c k).after) (let same : [] ≡ work.script = cc in same) (none_names work.plan c k)
  given_names (Some bytes) is c k has = read_names bytes is c k has

  pub given_begins : (bytes : Option (List ℕ)) → given_script work.plan bytes ≡ Ok work.script → (c k : ℕ) → HasStep work.plan c k → (rounds : ℕ) × (begins_within work.script rounds c k ≡ true)
  given_begins None is c k has = (suc k, subst (λ (script : OutcomeMap). begins_within script (suc k) c k ≡ true) (let same : [] ≡ work.script = cc in same) (none_begins c k))
  given_begins (Some bytes) is c k has = (2 * length work.script, read_begins bytes is c k has)

-- ---- with events

module _ (work : Work) (events : List Event) (few : HasFewSteps work) (exact : BeginWhereAllIsDone work events)
    (applied : All (λ event. IsApplied work.plan work.script event.change event.step) events) (names : NamesSteps work) where
  applied_if_some : (name : Wait) → has_events events name ≡ true → IsApplied work.plan work.script name.change name.step
  applied_if_some name some =
      let e = in_any (is_of_step name) events some in
      let of = of_name name e.0 e.2 in
      let its = all_at (λ (event : Event). IsApplied work.plan work.script event.change event.step) events e.0 applied e.1 in
      subst (λ k. IsApplied work.plan work.script name.change k) of.1 (subst (λ c. IsApplied work.plan work.script c e.0.step) of.0 its)

  -- where each step of the plan begins within some rounds
  pub left_out : ((c k : ℕ) → HasStep work.plan c k → (rounds : ℕ) × (begins_within work.script rounds c k ≡ true)) → LeaveOutJustWhatWaitsInVain work events
  left_out begins c k has =
      let within = begins c k has in
      leave_out_within work events few exact applied_if_some names within.0 c k has within.1

-- ---- nothing waits in vain without need

some_stopped : (work : Work) (events : List Event) (name : Wait) → WaitsInVain work events name → (last : Wait) × ((has_stopped work events last ≡ true) ⊎ (skips work.script last ≡ true))
some_stopped work events name (for_stopped n waited there stopped) = (waited, inl stopped)
some_stopped work events name (for_skipped n waited there skipped) = (waited, inr skipped)
some_stopped work events name (for_waiting n waited there vain) = some_stopped work events waited vain

pub none_left_out : (work : Work) (events : List Event) → LeaveOutJustWhatWaitsInVain work events → LeaveOutNone work events
none_left_out work events law stopped skipped c k has = ⊎_elim
    (λ (yes : has_events events (record { change = c; step = k }) ≡ true). yes)
    (λ (no : has_events events (record { change = c; step = k }) ≡ false). absurd (⊎_elim
    (λ (its : skips work.script (record { change = c; step = k }) ≡ true). true≢false (sym its ∙ skipped (record { change = c; step = k })))
    (λ (vain : WaitsInVain work events (record { change = c; step = k })).
    let last = some_stopped work events (record { change = c; step = k }) vain in ⊎_elim
    (λ (is : has_stopped work events last.0 ≡ true). true≢false (sym is ∙ stopped last.0))
    (λ (is : skips work.script last.0 ≡ true). true≢false (sym is ∙ skipped last.0))
    last.1)
    ((law c k has).0 no)))
    (cases_Bool (has_events events (record { change = c; step = k })))

-- ---- limits

pub given_in_range : (plan : SavedPlan) (script : OutcomeMap) (bytes : Option (List ℕ)) → given_script plan bytes ≡ Ok script → IsInRange script
given_in_range plan script None is = subst IsInRange (let same : [] ≡ script = cc in same) none_in_range
given_in_range plan script (Some bytes) is = read_in_range plan bytes script is
