-- The outcome recorded of a step goes as the step went.
use Rattle.std.proofs.Common.{◌≡◌, ◌∙◌, ℕ, ℤ, ◌+◌, ◌<◌, ◌≤◌, ◌⊎◌, List, [], ◌∷◌, Option, None, Bool, false, true, ap, arith, inl, inr, is_some, length, map, min, refl, subst, sym}
use Rattle.std.specs.Prelude.{◌&&◌, ◌||◌, if◌then◌else◌, not}
use Rattle.std.specs.List.{list_any}
use Rattle.std.specs.Option.{option_map_or}
use Rattle.apply_model.specs.declared.details.note.Note.{Note}
use Rattle.apply_model.specs.declared.plan.step_kind.StepKind.{StepKind}
use Rattle.apply_model.specs.declared.plan.step_kind.StepKind.TheVariants.{Delete}
use Rattle.apply_model.specs.declared.script.outcome.Outcome.{Outcome}
use Rattle.apply_model.specs.declared.script.provisioner.Provisioner.{Provisioner}
use Rattle.apply_model.specs.Plan.StepKind.{is_kind}
use Rattle.apply_model.specs.Script.Limits.{max_provisioners, max_seconds}
use Rattle.apply_model.specs.Script.Outcome.{fails, first_diag, is_failed, is_warned, makes_fail, provider_id, ran, seconds_after, seconds_before, seconds_in_all, seconds_of_all, took}
use Rattle.apply_events.specs.declared.what.What.{What}
use Rattle.stream_record_steps.specs.declared.begun_step.BegunStep.{BegunStep}
use Rattle.stream_record_steps.specs.declared.begun_step.StepEnd.{StepEnd}
use Rattle.stream_record_steps.specs.declared.step_facts.StepFact.{StepFact}
use Rattle.stream_record_steps.specs.Steps.{PlannedStep}
use Rattle.stream_record_outcomes.specs.declared.fate.Fate.{Fate}
use Rattle.stream_record_outcomes.specs.declared.last_provisioner.LastProvisioner.TheVariants.{Absent}
use Rattle.stream_record_outcomes.specs.Outcome.{ending_of, failure_by, fails_by_provisioner, outcome_by, outcome_of, provider_seconds, runs_of_create, runs_of_delete, stated_runs, states_provisioners}
use Rattle.stream_record_outcomes.specs.Provisioners.{ProvisionerRun, at_once, fails_its_step, has_provisioner, kept_runs, last_provisioner, provisioners_of, runs_in}
use Rattle.stream_record_outcomes.specs.Times.{TimedFact, timed_facts}
use Rattle.stream_record_outcomes.specs.Took.{took_without_end, whole}
use Rattle.laws_lanes.specs.Alike.{RunAlike}
use Rattle.laws_outcomes.specs.Told.{FitsEnd, IsToldAgain, WasTold, between, id_again, result_of, step_fact}
use Rattle.laws_outcomes.proofs.Along.{along_order, told}
use Rattle.laws_outcomes.proofs.Endings.{by_is, failure_is, fails_again, fate_as, fate_is, id_is, never_warned, planned_again, reported_again, seconds_after_are, seconds_before_are, states_are, warning_is}
use Rattle.laws_outcomes.proofs.FactTimes.{as_fact, own_times}
use Rattle.laws_outcomes.proofs.Last.{last_fails, last_is, last_of, some_has}
use Rattle.laws_outcomes.proofs.Lists.{stand_all}
use Rattle.laws_outcomes.proofs.Provisioners.{IsStatable, all_alike, all_kept, as_many, diag_if, diag_is, fail_alike, ran_alike, ran_all, ran_fails, ran_few, ran_fits, ran_short, ran_stand}
use Rattle.laws_outcomes.proofs.Runs.{AreRunsOf, IsTimely, at_once_are, runs_are}

-- ---- the seconds of the step

-- The provider takes its seconds before the provisioners or after them, or fails to come to it.
provider_within : (deletes any : Bool) (seconds : ℕ) → (if deletes then 0 else seconds) + (if deletes && not any then seconds else 0) ≤ seconds
provider_within true true seconds = omega arith
provider_within true false seconds = omega arith
provider_within false any seconds = omega arith

took_within : (kind : StepKind) (outcome : Outcome) → took kind outcome ≤ seconds_in_all outcome
took_within kind outcome =
    let provider = provider_within (is_kind Delete kind) (list_any makes_fail outcome.provisioners) outcome.seconds in
    let shorter = ran_short outcome.provisioners in
    omega arith

whole_is : (step : PlannedStep) (outcome : Outcome) (id : Option (List ℕ)) (begun : BegunStep) (note : Option Note) → WasTold step outcome id begun note
    → whole None begun ≡ took step.kind outcome
whole_is step outcome id begun own was =
    let short : seconds_in_all outcome ≤ max_seconds = was.allowed.bounded.short in
    let within = took_within step.kind outcome in
    let capped : min (took step.kind outcome) max_seconds ≡ took step.kind outcome = omega arith in
    ap (λ (o : Option StepEnd). min (option_map_or (λ end. end.seconds) o (took_without_end None begun)) max_seconds) was.end ∙ capped

-- ---- the facts

as_facts : (begin : ℤ) (outcome : Outcome) (events : List (ℕ × What)) → map (step_fact begin outcome) events ≡ map (as_fact begin) (map (told outcome) events)
as_facts begin outcome [] = refl
as_facts begin outcome (event ∷ events) = ap (λ (facts : List StepFact). step_fact begin outcome event ∷ facts) (as_facts begin outcome events)

timed_are : (step : PlannedStep) (outcome : Outcome) (id : Option (List ℕ)) (begun : BegunStep) (note : Option Note) → WasTold step outcome id begun note
    → timed_facts (took step.kind outcome) begun ≡ map (told outcome) (between step.kind outcome)
timed_are step outcome id begun own was =
    own_times (took step.kind outcome) begun (map (told outcome) (between step.kind outcome))
    (along_order outcome (took step.kind outcome) 0 0 (seconds_before step.kind outcome) (ran outcome.provisioners) (omega arith) (omega arith))
    (was.facts ∙ as_facts begun.second outcome (between step.kind outcome))

last_was : (step : PlannedStep) (outcome : Outcome) (id : Option (List ℕ)) (begun : BegunStep) (note : Option Note) → WasTold step outcome id begun note
    → last_provisioner begun.facts ≡ last_of Absent (ran outcome.provisioners)
last_was step outcome id begun own was =
    ap last_provisioner was.facts
    ∙ last_is begun.second outcome Absent (took step.kind outcome) 0 0 (seconds_before step.kind outcome) (ran outcome.provisioners)

-- ---- provisioners

some_of : (provisioners : List Provisioner) → list_any makes_fail provisioners ≡ true → 0 < length provisioners
some_of [] any = absurd (cc)
some_of (provisioner ∷ others) any = omega arith

some_ran : (provisioners : List Provisioner) → 0 < length provisioners → 0 < length (ran provisioners)
some_ran [] some = absurd (omega arith)
some_ran (provisioner ∷ others) some = omega arith

has_last : (provisioners : List Provisioner) → 0 < length provisioners → has_provisioner (last_of Absent (ran provisioners)) ≡ true
has_last [] some = absurd (omega arith)
has_last (provisioner ∷ others) some = some_has Absent provisioner others

not_failed : (failed : Bool) (provisioners : List Provisioner) → (failed ≡ true → provisioners ≡ []) → 0 < length provisioners → failed ≡ false
not_failed true provisioners alone some = let none = ap length (alone refl) in absurd (omega arith)
not_failed false provisioners alone some = refl

stated_are : (since : ℕ) (provisioners : List Provisioner) (states : Bool) (runs : List ProvisionerRun) → (0 < length provisioners → states ≡ true)
    → AreRunsOf since (ran provisioners) runs → AreRunsOf since (ran provisioners) (if states then runs else [])
stated_are since provisioners true runs some are = are
stated_are since [] false runs some are = tt
stated_are since (provisioner ∷ others) false runs some are = let no : false ≡ true = some (omega arith) in absurd (cc)

failure_some : (any : Bool) (note : Option Note) → any ≡ is_some (failure_by any note)
failure_some true own = refl
failure_some false own = refl

none_after : (deletes : Bool) (seconds : ℕ) → (if deletes && false then seconds else 0) ≡ 0
none_after true seconds = refl
none_after false seconds = refl

-- ---- a step that was told

module _ (step : PlannedStep) (outcome : Outcome) (id : Option (List ℕ)) (begun : BegunStep) (note : Option Note)
    (was : WasTold step outcome id begun note) where
  abbrev failed : Bool
  failed = is_failed outcome.result

  abbrev any : Bool
  any = list_any makes_fail outcome.provisioners

  abbrev since : ℕ
  since = seconds_before step.kind outcome

  abbrev long : ℕ
  long = took step.kind outcome

  abbrev those : List Provisioner
  those = ran outcome.provisioners

  abbrev fate : Fate
  fate = fate_as (failed || any)

  last_stands : last_provisioner begun.facts ≡ last_of Absent those
  last_stands = last_was step outcome id begun note was

  alone : failed ≡ true → outcome.provisioners ≡ []
  alone is = was.allowed.fails_alone (ap (λ (b : Bool). b || is_warned outcome.result) is)

  by_provisioner : fails_by_provisioner step begun fate ≡ any
  by_provisioner =
      by_is step begun failed any
      (λ is. was.allowed.provisioned (some_of outcome.provisioners is))
      (λ is. ap fails_its_step last_stands ∙ last_fails Absent outcome.provisioners is)
      (λ is. ap fails_its_step last_stands ∙ ap (λ (ps : List Provisioner). fails_its_step (last_of Absent (ran ps))) (alone is))

  states : 0 < length outcome.provisioners → states_provisioners step begun fate ≡ true
  states some =
      states_are step begun failed any (was.allowed.provisioned some)
      (ap has_provisioner last_stands ∙ has_last outcome.provisioners some)
      (not_failed failed outcome.provisioners alone some) by_provisioner

  -- ---- its seconds

  since_zero : is_kind Delete step.kind ≡ true → since ≡ 0
  since_zero deletes = ap (λ (b : Bool). if b then 0 else outcome.seconds) deletes

  since_first : is_kind Delete step.kind ≡ false → since ≡ outcome.seconds
  since_first other = ap (λ (b : Bool). if b then 0 else outcome.seconds) other

  long_first : is_kind Delete step.kind ≡ false → long ≡ since + seconds_of_all those
  long_first other =
      let after : seconds_after step.kind outcome ≡ 0 = ap (λ (b : Bool). if b && not any then outcome.seconds else 0) other in
      omega (arith, after)

  long_failed : any ≡ true → long ≡ since + seconds_of_all those
  long_failed is =
      let after : seconds_after step.kind outcome ≡ 0 =
      ap (λ (b : Bool). if is_kind Delete step.kind && not b then outcome.seconds else 0) is
      ∙ none_after (is_kind Delete step.kind) outcome.seconds in
      omega (arith, after)

  long_last : is_kind Delete step.kind ≡ true → any ≡ false → long ≡ seconds_of_all those + outcome.seconds
  long_last deletes is =
      let zero = since_zero deletes in
      let after : seconds_after step.kind outcome ≡ outcome.seconds =
      ap (λ (b : Bool). if b && not any then outcome.seconds else 0) deletes
      ∙ ap (λ (b : Bool). if not b then outcome.seconds else 0) is in
      omega (arith, zero, after)

  -- ---- its provisioners

  runs_to : (own : Bool) → (own ≡ true) ⊎ (long ≡ since + seconds_of_all those) → AreRunsOf since those (runs_in own long (timed_facts long begun))
  runs_to own ends =
      subst (λ (facts : List TimedFact). AreRunsOf since those (runs_in own long facts)) (sym (timed_are step outcome id begun note was))
      (runs_are outcome long 0 0 since those own long (ran_stand outcome.provisioners 0 outcome.provisioners (stand_all outcome.provisioners))
      (ran_all IsTimely outcome.provisioners was.allowed.outputs_in_time) ends)

  own_end : (by : Bool) → by ≡ any → (not by ≡ true) ⊎ (long ≡ since + seconds_of_all those)
  own_end true is = inr (long_failed (sym is))
  own_end false is = inl refl

  delete_runs : (by : Bool) → by ≡ any → is_kind Delete step.kind ≡ true → AreRunsOf since those (runs_of_delete long by begun)
  delete_runs by is deletes =
      let runs = runs_in (not by) long (timed_facts long begun) in
      let from : AreRunsOf 0 those runs = subst (λ (n : ℕ). AreRunsOf n those runs) (since_zero deletes) (runs_to (not by) (own_end by is)) in
      subst (λ (n : ℕ). AreRunsOf n those (at_once runs)) (sym (since_zero deletes)) (at_once_are those runs from)

  shown_runs : (by : Bool) → by ≡ any
      → AreRunsOf since those (if is_kind Delete step.kind then runs_of_delete long by begun else runs_of_create long begun)
  shown_runs by is =
      elim (is_kind Delete step.kind) as (λ (b : Bool). is_kind Delete step.kind ≡ b
      → AreRunsOf since those (if b then runs_of_delete long by begun else runs_of_create long begun)) [
        | true ↦ λ deletes. delete_runs by is deletes
        | false ↦ λ other. runs_to false (inr (long_first other))
      ] refl

  runs_stated : AreRunsOf since those (stated_runs step long begun fate)
  runs_stated =
      stated_are since outcome.provisioners (states_provisioners step begun fate)
      (if is_kind Delete step.kind then runs_of_delete long (fails_by_provisioner step begun fate) begun else runs_of_create long begun)
      states (shown_runs (fails_by_provisioner step begun fate) by_provisioner)

  -- ---- the outcome

  -- The outcome with these provisioners.
  abbrev made : List ProvisionerRun → Outcome
  made runs = record {
    seconds = provider_seconds step.kind long any runs;
    provisioners = provisioners_of (failure_by any note) runs;
    result = ending_of step.kind begun note any fate;
    after = [];
  }

  abbrev kept : (by : Bool) → List ProvisionerRun → Outcome
  kept by runs = record {
    seconds = provider_seconds step.kind long by runs;
    provisioners = provisioners_of (failure_by by note) (kept_runs by runs);
    result = ending_of step.kind begun note by fate;
    after = [];
  }

  few : (runs : List ProvisionerRun) → AreRunsOf since those runs → length runs ≤ max_provisioners
  few runs are =
      let many = as_many since those runs are in
      let fewer = ran_few outcome.provisioners in
      let bounded : length outcome.provisioners ≤ max_provisioners = was.allowed.bounded.few_provisioners in
      omega (arith, many, fewer, bounded)

  is_kept : (runs : List ProvisionerRun) → AreRunsOf since those runs → kept any runs ≡ made runs
  is_kept runs are =
      ap (λ (rs : List ProvisionerRun). let one : Outcome = record {
        seconds = provider_seconds step.kind long any runs;
        provisioners = provisioners_of (failure_by any note) rs;
        result = ending_of step.kind begun note any fate;
        after = [];
      } in one) (all_kept any runs (few runs are))

  is_made : outcome_of step long begun note ≡ made (stated_runs step long begun fate)
  is_made =
      ap (outcome_by step long begun note)
      (fate_is step.kind begun note (record { line = was.line; seconds = long; result = result_of (fails outcome) id }) (failed || any) id was.end refl)
      ∙ ap (λ (b : Bool). kept b (stated_runs step long begun fate)) by_provisioner
      ∙ is_kept (stated_runs step long begun fate) runs_stated

  module _ (runs : List ProvisionerRun) (are : AreRunsOf since those runs) where
    abbrev shown : List Provisioner
    shown = provisioners_of (failure_by any note) runs

    alike_those : RunAlike those shown
    alike_those =
        all_alike (failure_by any note) since those runs are
        (ran_all IsStatable outcome.provisioners
        (λ k d below. record { named = was.allowed.named k d below; little_output = was.allowed.bounded.little_output k d below }))
        (ran_fits (failure_by any note) outcome.provisioners (failure_some any note))

    any_again : list_any makes_fail shown ≡ any
    any_again = fail_alike those shown alike_those ∙ ran_fails outcome.provisioners

    before_again : seconds_before step.kind (made runs) ≡ seconds_before step.kind outcome
    before_again =
        elim (is_kind Delete step.kind) as (λ (b : Bool). is_kind Delete step.kind ≡ b
        → (if b then 0 else provider_seconds step.kind long any runs) ≡ (if b then 0 else outcome.seconds)) [
          | true ↦ λ deletes. refl
          | false ↦ λ other. seconds_before_are step.kind long since any those runs other (long_first other) are ∙ since_first other
        ] refl

    after_by : (deletes fatal : Bool) → is_kind Delete step.kind ≡ deletes → any ≡ fatal
        → (if deletes && not fatal then provider_seconds step.kind long any runs else 0) ≡ (if deletes && not fatal then outcome.seconds else 0)
    after_by true true deletes is = refl
    after_by true false deletes is =
        ap (λ (b : Bool). provider_seconds step.kind long b runs) is
        ∙ seconds_after_are step.kind long outcome.seconds those runs deletes (long_last deletes is)
        (subst (λ (n : ℕ). AreRunsOf n those runs) (since_zero deletes) are)
    after_by false fatal deletes is = refl

    after_again : seconds_after step.kind (made runs) ≡ seconds_after step.kind outcome
    after_again =
        ap (λ (b : Bool). if is_kind Delete step.kind && not b then provider_seconds step.kind long any runs else 0) any_again
        ∙ after_by (is_kind Delete step.kind) any refl refl

    fails_alike : fails (made runs) ≡ fails outcome
    fails_alike =
        ap (λ (b : Bool). is_failed (ending_of step.kind begun note any fate) || b) any_again ∙ fails_again step.kind begun note failed any

    first_is : any ≡ true → first_diag shown ≡ failure_by true note
    first_is is =
        let many = as_many since those runs are in
        let some = some_ran outcome.provisioners (some_of outcome.provisioners is) in
        diag_is (failure_by any note) runs (omega (arith, many, some)) ∙ ap (λ (b : Bool). failure_by b note) is

    id_made : provider_id (ending_of step.kind begun note any fate) ≡ id_again step.kind (failed || any) id
    id_made = id_is step.kind begun note failed any (record { line = was.line; seconds = long; result = result_of (fails outcome) id }) id was.end refl

    id_done : fails outcome ≡ false → provider_id (ending_of step.kind begun note any fate) ≡ id_again step.kind false id
    id_done goes_on = id_made ∙ ap (λ (b : Bool). id_again step.kind b id) goes_on

    made_again : IsToldAgain step outcome id note (made runs)
    made_again = record {
      alike = record {
        before = before_again;
        ran = ran_alike outcome.provisioners shown alike_those;
        after = after_again;
        fails = fails_alike;
        ends = was.ends;
        other_ends = never_warned step.kind begun note failed any;
      };
      provisioner_fails = diag_if shown ∙ any_again ∙ sym (diag_if outcome.provisioners);
      id_is = id_made;
      reported = λ goes_on told. reported_again step.kind outcome.result (made runs).result id was.allowed.has_id (id_done goes_on) told;
      reported_planned = λ planned goes_on told.
          planned_again step.kind outcome.result (made runs).result id planned was.allowed.has_id (id_done goes_on) told;
      failure = λ is.
          failure_is step.kind begun note failed any (first_diag shown) is (subst (λ (b : Bool). FitsEnd b note) is was.fits) first_is;
      warning = λ is. warning_is step.kind begun note failed any is;
    }

-- The outcome recorded of a step that was told goes as the step went.
pub told_again : (step : PlannedStep) (outcome : Outcome) (id : Option (List ℕ)) (begun : BegunStep) (note : Option Note) → WasTold step outcome id begun note
    → IsToldAgain step outcome id note (outcome_of step (whole None begun) begun note)
told_again step outcome id begun note was =
    let long = took step.kind outcome in
    let runs = stated_runs step long begun (fate_as (fails outcome)) in
    subst (IsToldAgain step outcome id note)
    (sym (ap (λ (n : ℕ). outcome_of step n begun note) (whole_is step outcome id begun note was) ∙ is_made step outcome id begun note was))
    (made_again step outcome id begun note was runs (runs_stated step outcome id begun note was))
