-- Each outcome is one that a script may state.
use Rattle.std.proofs.Common.{◌≡◌, ◌∙◌, ℕ, ℤ, zero, suc, ◌+◌, ◌-◌, ◌≤◌, ◌<◌, ◌++◌, List, [], ◌∷◌, Option, None, Some, Bool, true, false, ap, arith, drop, length, length-append, refl, subst, sym, take}
use Rattle.std.specs.Prelude.{All, IfSome, ◌&&◌, ◌||◌, ◌==◌, if◌then◌else◌, min, nat_le, not, option_map, sum_by}
use Rattle.std.specs.Option.{option_map_or}
use Rattle.std.proofs.lemmas.Bool.{leb-true}
use Rattle.std.proofs.lemmas.Bool.Decides.{nat_tests}
use Rattle.std.proofs.lemmas.List.{length-drop, length-take}
use Rattle.std.proofs.lemmas.List.Elements.{All-append, All-cons, All-drop, All-take}
use Rattle.std.proofs.lemmas.List.Sums.{sum_by-append, sum_by-cons, sum_by-take-drop, sum_by-take-le}
use Rattle.apply_model.specs.declared.details.note.Note.{Note}
use Rattle.apply_model.specs.declared.plan.step_kind.StepKind.{StepKind}
use Rattle.apply_model.specs.declared.plan.step_kind.StepKind.TheVariants.{Delete, Read}
use Rattle.apply_model.specs.declared.script.diag.Diag.{Diag}
use Rattle.apply_model.specs.declared.script.provisioner.Provisioner.{Provisioner}
use Rattle.apply_model.specs.Plan.StepKind.{is_kind}
use Rattle.apply_model.specs.Script.Limits.{max_outputs, max_provisioners, max_seconds}
use Rattle.apply_model.specs.Script.Outcome.{IsBounded, are_in_time, is_failed, is_warned, provider_id, seconds_of_all}
use Rattle.stream_record_steps.specs.declared.begun_step.BegunStep.{BegunStep}
use Rattle.stream_record_steps.specs.declared.begun_step.EndResult.{EndResult}
use Rattle.stream_record_steps.specs.declared.begun_step.EndResult.TheVariants as end_result
use Rattle.stream_record_steps.specs.declared.begun_step.StepEnd.{StepEnd}
use Rattle.stream_record_steps.specs.Begun.{Begun, begun_at}
use Rattle.stream_record_steps.specs.Steps.{PlannedStep}
use Rattle.stream_record_outcomes.specs.declared.fate.Fate.{Fate}
use Rattle.stream_record_outcomes.specs.declared.fate.Fate.TheVariants.{Done, Warned, Failed}
use Rattle.stream_record_outcomes.specs.declared.recorded_step.RecordedStep.{RecordedStep}
use Rattle.stream_record_outcomes.specs.Assignment.{Assignment, note_of_step}
use Rattle.stream_record_outcomes.specs.Outcome.{IsAllowed, ending_of, failure_by, fails_by_provisioner, fate_of, fate_of_end, fate_without_end, id_of, id_of_end, is_done, is_warning, last_until, outcome_by, outcome_of, provider_seconds, runs_of_create, runs_of_delete, stated_runs, states_provisioners, unless_empty}
use Rattle.stream_record_outcomes.specs.Provisioners.{ProvisionerRun, at_once, has_provisioner, kept_runs, last_provisioner, may_provision, name_or_mark, outputs_of_run, provisioner_of, provisioners_of, runs_in, seconds_of_run}
use Rattle.stream_record_outcomes.specs.Recording.{AreAllowed, recorded_from, recorded_step}
use Rattle.stream_record_outcomes.specs.Times.{timed_facts}
use Rattle.stream_record_outcomes.specs.Took.{took}
use Rattle.stream_record_outcomes.proofs.Chains.{Chain, HasRising, chain_last, chain_sum, runs_in_chain, runs_rising}
use Rattle.stream_record_outcomes.proofs.Rising.{Rises, outputs_in_time, timed_rise}

-- ---- the provisioners that are kept

kept_all : (P : ProvisionerRun → Type 0) (fails : Bool) (runs : List ProvisionerRun) → All P runs → All P (kept_runs fails runs)
kept_all P fails runs all =
    elim (nat_le (length runs) max_provisioners) as (λ (few : Bool). All P
    (if few then runs else if fails then take (max_provisioners - 1) runs ++ drop (length runs - 1) runs else take max_provisioners runs)) [
      | true ↦ all
      | false ↦ elim fails as (λ (b : Bool). All P
          (if b then take (max_provisioners - 1) runs ++ drop (length runs - 1) runs else take max_provisioners runs)) [
            | true ↦ All-append P (take (max_provisioners - 1) runs) (drop (length runs - 1) runs)
                (All-take P (max_provisioners - 1) runs all) (All-drop P (length runs - 1) runs all)
            | false ↦ All-take P max_provisioners runs all
          ]
    ]

kept_few_by : (few fails : Bool) (runs : List ProvisionerRun) → nat_le (length runs) max_provisioners ≡ few
    → length (if few then runs else if fails then take (max_provisioners - 1) runs ++ drop (length runs - 1) runs else take max_provisioners runs) ≤ max_provisioners
kept_few_by true fails runs is = leb-true (length runs) max_provisioners is
kept_few_by false true runs is =
    omega (
      arith,
      length-append (take (max_provisioners - 1) runs) (drop (length runs - 1) runs),
      length-take (max_provisioners - 1) runs,
      length-drop (length runs - 1) runs,
    )
kept_few_by false false runs is = omega (arith, length-take max_provisioners runs)

kept_few : (fails : Bool) (runs : List ProvisionerRun) → length (kept_runs fails runs) ≤ max_provisioners
kept_few fails runs = kept_few_by (nat_le (length runs) max_provisioners) fails runs refl

sum_apart : (f : ProvisionerRun → ℕ) (a b : ℕ) (runs : List ProvisionerRun) → a ≤ b
    → sum_by f (take a runs) + sum_by f (drop b runs) ≤ sum_by f runs
sum_apart f zero b runs within = omega (arith, sum_by-take-drop f runs b)
sum_apart f (suc a) zero runs within = absurd (omega arith)
sum_apart f (suc a) (suc b) [] within = omega arith
sum_apart f (suc a) (suc b) (run ∷ runs) within =
    let rest : sum_by f (take a runs) + sum_by f (drop b runs) ≤ sum_by f runs = sum_apart f a b runs (omega arith) in
    omega (arith, sum_by-cons f run runs, sum_by-cons f run (take a runs))

kept_sum_by : (few fails : Bool) (runs : List ProvisionerRun) → nat_le (length runs) max_provisioners ≡ few
    → sum_by seconds_of_run (if few then runs else if fails then take (max_provisioners - 1) runs ++ drop (length runs - 1) runs else take max_provisioners runs)
    ≤ sum_by seconds_of_run runs
kept_sum_by true fails runs is = omega arith
kept_sum_by false true runs is =
    let many : max_provisioners < length runs = grind (arith, nat_tests) in
    omega (
      arith,
      sum_by-append seconds_of_run (take (max_provisioners - 1) runs) (drop (length runs - 1) runs),
      sum_apart seconds_of_run (max_provisioners - 1) (length runs - 1) runs (omega arith),
    )
kept_sum_by false false runs is = sum_by-take-le seconds_of_run runs max_provisioners

kept_sum : (fails : Bool) (runs : List ProvisionerRun) → sum_by seconds_of_run (kept_runs fails runs) ≤ sum_by seconds_of_run runs
kept_sum fails runs = kept_sum_by (nat_le (length runs) max_provisioners) fails runs refl

-- ---- the provisioners that the script states

provisioner_count : (failure : Option Diag) (runs : List ProvisionerRun) → length (provisioners_of failure runs) ≡ length runs
provisioner_count failure [] = refl
provisioner_count failure (run ∷ runs) = ap (λ (n : ℕ). suc n) (provisioner_count failure runs)

provisioner_sum : (failure : Option Diag) (runs : List ProvisionerRun) → seconds_of_all (provisioners_of failure runs) ≡ sum_by seconds_of_run runs
provisioner_sum failure [] = refl
provisioner_sum failure (run ∷ runs) =
    sum_by-cons (λ provisioner. provisioner.seconds) (provisioner_of (if length runs == 0 then failure else None) run) (provisioners_of failure runs)
    ∙ ap (λ (n : ℕ). seconds_of_run run + n) (provisioner_sum failure runs)
    ∙ sym (sum_by-cons seconds_of_run run runs)

provisioner_all : (P : ProvisionerRun → Type 0) (Q : Provisioner → Type 0)
    → ((failure : Option Diag) (run : ProvisionerRun) → P run → Q (provisioner_of failure run))
    → (failure : Option Diag) (runs : List ProvisionerRun) → All P runs → All Q (provisioners_of failure runs)
provisioner_all P Q each failure [] all = λ k d below. absurd (omega arith)
provisioner_all P Q each failure (run ∷ runs) all =
    All-cons Q (provisioner_of (if length runs == 0 then failure else None) run) (provisioners_of failure runs)
    (each (if length runs == 0 then failure else None) run (all 0 run (omega arith)))
    (provisioner_all P Q each failure runs (λ k d below. all (suc k) d (omega arith)))

named : (name : List ℕ) → 0 < length (name_or_mark name)
named [] = omega arith
named (byte ∷ bytes) = omega arith

-- ---- the seconds

provider_within : (kind : StepKind) (whole : ℕ) (fails : Bool) (runs : List ProvisionerRun) → Chain 0 whole runs
    → provider_seconds kind whole fails runs + sum_by seconds_of_run runs ≤ whole
provider_within kind whole fails [] chain = omega arith
provider_within kind whole fails (run ∷ runs) chain =
    let later : run.begin ≤ run.until = chain.1 in
    let rest : run.until + sum_by seconds_of_run runs ≤ last_until run.until runs = chain_sum run.until whole runs chain.3 in
    let last : last_until run.until runs ≤ whole = chain_last run.until whole runs chain.2 chain.3 in
    let all : sum_by seconds_of_run (run ∷ runs) ≡ seconds_of_run run + sum_by seconds_of_run runs = sum_by-cons seconds_of_run run runs in
    elim (is_kind Delete kind) as (λ (b : Bool).
    (if b then (if fails then 0 else whole - last_until run.until runs) else run.begin) + sum_by seconds_of_run (run ∷ runs) ≤ whole) [
      | true ↦ elim fails as (λ (b : Bool).
          (if b then 0 else whole - last_until run.until runs) + sum_by seconds_of_run (run ∷ runs) ≤ whole) [
            | true ↦ omega (arith, all)
            | false ↦ omega (arith, all)
          ]
      | false ↦ omega (arith, all)
    ]

at_once_chain : (whole : ℕ) (runs : List ProvisionerRun) → Chain 0 whole runs → Chain 0 whole (at_once runs)
at_once_chain whole [] chain = tt
at_once_chain whole (run ∷ runs) chain = (omega arith, omega arith, chain.2, chain.3)

at_once_rising : (whole : ℕ) (runs : List ProvisionerRun) → All (HasRising whole) runs → All (HasRising whole) (at_once runs)
at_once_rising whole [] all = all
at_once_rising whole (run ∷ runs) all =
    All-cons (HasRising whole) (record { name = run.name; begin = 0; until = run.until; facts = run.facts }) runs (all 0 run (omega arith))
    (λ k d below. all (suc k) d (omega arith))

-- ---- the provisioners of a step

-- The provisioners run one after another, with facts in order.
record AreSound (whole : ℕ) (runs : List ProvisionerRun) : Type 0 where
  chain : Chain 0 whole runs
  rising : All (HasRising whole) runs

stated_sound : (step : PlannedStep) (whole : ℕ) (begun : BegunStep) (fate : Fate) → AreSound whole (stated_runs step whole begun fate)
stated_sound step whole begun fate =
    let facts = timed_facts whole begun in
    let rises : Rises 0 whole facts = timed_rise whole begun in
    let fails = fails_by_provisioner step begun fate in
    elim (states_provisioners step begun fate) as (λ (b : Bool). AreSound whole
    (if b then (if is_kind Delete step.kind then runs_of_delete whole fails begun else runs_of_create whole begun) else [])) [
      | false ↦ record { chain = tt; rising = λ k d below. absurd (omega arith) }
      | true ↦ elim (is_kind Delete step.kind) as (λ (b : Bool). AreSound whole
          (if b then runs_of_delete whole fails begun else runs_of_create whole begun)) [
            | true ↦ record {
              chain = at_once_chain whole (runs_in (not fails) whole facts) (runs_in_chain (not fails) whole facts rises);
              rising = at_once_rising whole (runs_in (not fails) whole facts) (runs_rising (not fails) 0 whole facts rises);
            }
            | false ↦ record { chain = runs_in_chain false whole facts rises; rising = runs_rising false 0 whole facts rises }
          ]
    ]

-- ---- the ending

id_not_empty : (id : List ℕ) → IfSome (unless_empty id) (λ id. 0 < length id)
id_not_empty [] = tt
id_not_empty (byte ∷ bytes) = omega arith

end_has_id : (end : EndResult) → IfSome (id_of_end end) (λ id. 0 < length id)
end_has_id (end_result.Completed id_key None) = tt
end_has_id (end_result.Completed id_key (Some id)) = id_not_empty id
end_has_id end_result.Failed = tt

step_has_id : (kind : StepKind) (begun : BegunStep) → IfSome (id_of kind begun) (λ id. 0 < length id)
step_has_id kind begun =
    elim (is_kind Delete kind) as (λ (b : Bool). IfSome (if b then None else option_map_or (λ end. id_of_end end.result) begun.end None) (λ id. 0 < length id)) [
      | true ↦ tt
      | false ↦ elim begun.end as (λ (o : Option StepEnd). IfSome (option_map_or (λ end. id_of_end end.result) o None) (λ id. 0 < length id)) [
        | None ↦ tt
        | Some end ↦ end_has_id end.result
      ]
    ]

ending_has_id : (kind : StepKind) (begun : BegunStep) (own : Option Note) (fails : Bool) (fate : Fate)
    → IfSome (provider_id (ending_of kind begun own fails fate)) (λ id. 0 < length id)
ending_has_id kind begun own fails Done = step_has_id kind begun
ending_has_id kind begun own fails Warned = tt
ending_has_id kind begun own true Failed = tt
ending_has_id kind begun own false Failed = tt

-- ---- reads that only warn

end_not_warned : (end : EndResult) (kind : StepKind) → fate_of_end end ≡ Warned → is_kind Read kind ≡ true
end_not_warned (end_result.Completed id_key id) kind is = cc
end_not_warned end_result.Failed kind is = cc

read_by : (read warns : Bool) → (if read && warns then Warned else Failed) ≡ Warned → read ≡ true
read_by true warns is = refl
read_by false warns is = cc

warned_is_read : (kind : StepKind) (end : Option StepEnd) (own : Option Note)
    → option_map_or (λ end. fate_of_end end.result) end (fate_without_end kind own) ≡ Warned → is_kind Read kind ≡ true
warned_is_read kind (Some end) own is = end_not_warned end.result kind is
warned_is_read kind None None is = cc
warned_is_read kind None (Some own) is = read_by (is_kind Read kind) (is_warning own.severity) is

ending_warned : (kind : StepKind) (begun : BegunStep) (own : Option Note) (fails : Bool) (fate : Fate)
    → is_warned (ending_of kind begun own fails fate) ≡ true → fate ≡ Warned
ending_warned kind begun own fails Done is = cc
ending_warned kind begun own fails Warned is = refl
ending_warned kind begun own true Failed is = cc
ending_warned kind begun own false Failed is = cc

-- ---- steps without provisioners

provisions_by : (may others fails : Bool) (failure : Option Diag) (runs : List ProvisionerRun)
    → 0 < length (provisioners_of failure (kept_runs fails (if may && others then runs else []))) → may ≡ true
provisions_by true others fails failure runs some = refl
provisions_by false others fails failure runs some = absurd (omega arith)

none_stated : (may has : Bool) → (may && (has && false)) ≡ false
none_stated true true = refl
none_stated true false = refl
none_stated false has = refl

none_shown : (may has fails : Bool) (failure : Option Diag) (runs : List ProvisionerRun)
    → provisioners_of failure (kept_runs fails (if may && (has && false) then runs else [])) ≡ []
none_shown may has fails failure runs =
    ap (λ (b : Bool). provisioners_of failure (kept_runs fails (if b then runs else []))) (none_stated may has)

failed_alone : (may has fails : Bool) (kind : StepKind) (begun : BegunStep) (own : Option Note) (runs : List ProvisionerRun)
    → (is_failed (ending_of kind begun own fails Failed) || is_warned (ending_of kind begun own fails Failed)) ≡ true
    → provisioners_of (failure_by fails own) (kept_runs fails (if may && (has && (false || fails)) then runs else [])) ≡ []
failed_alone may has true kind begun own runs is = cc
failed_alone may has false kind begun own runs is = none_shown may has false (failure_by false own) runs

-- The provisioners that are stated, if they are.
abbrev shown_runs : PlannedStep → (whole : ℕ) → BegunStep → Fate → List ProvisionerRun
shown_runs step whole begun fate =
    if is_kind Delete step.kind then runs_of_delete whole (fails_by_provisioner step begun fate) begun else runs_of_create whole begun

alone : (step : PlannedStep) (whole : ℕ) (begun : BegunStep) (own : Option Note) (fate : Fate)
    → (is_failed (outcome_by step whole begun own fate).result || is_warned (outcome_by step whole begun own fate).result) ≡ true
    → (outcome_by step whole begun own fate).provisioners ≡ []
alone step whole begun own Done is = cc
alone step whole begun own Warned is =
    none_shown (may_provision step) (has_provisioner (last_provisioner begun.facts)) false (failure_by false own) (shown_runs step whole begun Warned)
alone step whole begun own Failed is =
    failed_alone (may_provision step) (has_provisioner (last_provisioner begun.facts)) (fails_by_provisioner step begun Failed) step.kind begun own
    (shown_runs step whole begun Failed) is

-- ---- the outcome

bounded : (step : PlannedStep) (whole : ℕ) (begun : BegunStep) (own : Option Note) (fate : Fate) → whole ≤ max_seconds
    → IsBounded (outcome_by step whole begun own fate)
bounded step whole begun own fate within =
    let fails = fails_by_provisioner step begun fate in
    let runs = stated_runs step whole begun fate in
    let failure = failure_by fails own in
    record {
      short =
          omega (
            arith,
            provisioner_sum failure (kept_runs fails runs),
            kept_sum fails runs,
            provider_within step.kind whole fails runs (stated_sound step whole begun fate).chain,
          );
      few_provisioners = omega (arith, provisioner_count failure (kept_runs fails runs), kept_few fails runs);
      little_output =
          provisioner_all (HasRising whole) (λ provisioner. length provisioner.output ≤ max_outputs)
          (λ failure run rising. omega (arith, length-take max_outputs (outputs_of_run run)))
          failure (kept_runs fails runs) (kept_all (HasRising whole) fails runs (stated_sound step whole begun fate).rising);
      few_waits = omega arith;
    }

allowed_by : (step : PlannedStep) (whole : ℕ) (begun : BegunStep) (own : Option Note) (fate : Fate) → fate ≡ fate_of step.kind begun own
    → whole ≤ max_seconds → IsAllowed step (outcome_by step whole begun own fate)
allowed_by step whole begun own fate is within =
    let fails = fails_by_provisioner step begun fate in
    let runs = stated_runs step whole begun fate in
    let failure = failure_by fails own in
    let rising = kept_all (HasRising whole) fails runs (stated_sound step whole begun fate).rising in
    record {
      bounded = bounded step whole begun own fate within;
      outputs_in_time =
          provisioner_all (HasRising whole) (λ provisioner. are_in_time 0 provisioner.seconds provisioner.output ≡ true)
          (λ failure run rises. outputs_in_time 0 whole run.begin (seconds_of_run run) max_outputs run.facts rises)
          failure (kept_runs fails runs) rising;
      named =
          provisioner_all (HasRising whole) (λ provisioner. 0 < length provisioner.name) (λ failure run rises. named run.name)
          failure (kept_runs fails runs) rising;
      has_id = ending_has_id step.kind begun own fails fate;
      only_reads_warn =
          λ warned. warned_is_read step.kind begun.end own (sym is ∙ ending_warned step.kind begun own fails fate warned);
      provisioned =
          provisions_by (may_provision step)
          (has_provisioner (last_provisioner begun.facts) && (is_done fate || fails)) fails failure (shown_runs step whole begun fate);
      fails_alone = alone step whole begun own fate;
    }

pub outcome_allowed : (step : PlannedStep) (whole : ℕ) (begun : BegunStep) (own : Option Note) → whole ≤ max_seconds
    → IsAllowed step (outcome_of step whole begun own)
outcome_allowed step whole begun own within = allowed_by step whole begun own (fate_of step.kind begun own) refl within

-- ---- all steps

recorded_allowed : (cut_off_at : Option ℤ) (planned step : PlannedStep) (own : Option Note) (found : RecordedStep) (o : Option BegunStep) → planned ≡ step
    → option_map (recorded_step cut_off_at planned own) o ≡ Some found → IsAllowed step found.outcome
recorded_allowed cut_off_at planned step own found None same is = cc
recorded_allowed cut_off_at planned step own found (Some begun) same is =
    let e : recorded_step cut_off_at step own begun ≡ found = cc in
    subst (λ (recorded : RecordedStep). IsAllowed step recorded.outcome) e
    (outcome_allowed step (min (took cut_off_at begun) max_seconds) begun own (omega arith))

pub all_allowed : (cut_off_at : Option ℤ) (begun : Begun) (notes : List Note) (assignment : Assignment) (n : ℕ) (steps : List PlannedStep)
    → AreAllowed steps (recorded_from cut_off_at begun notes assignment n steps)
all_allowed cut_off_at begun notes assignment n [] place step found at is = cc
all_allowed cut_off_at begun notes assignment n (planned ∷ steps) zero step found at is =
    let same : planned ≡ step = cc in
    let was : option_map (recorded_step cut_off_at planned (note_of_step notes assignment n)) (begun_at begun.by_step n) ≡ Some found = cc in
    recorded_allowed cut_off_at planned step (note_of_step notes assignment n) found (begun_at begun.by_step n) same was
all_allowed cut_off_at begun notes assignment n (planned ∷ steps) (suc place) step found at is =
    all_allowed cut_off_at begun notes assignment (n + 1) steps place step found at is
