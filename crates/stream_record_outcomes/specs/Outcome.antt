-- The outcome of a step, as a script states it.
use Rattle.std.specs.Prelude.{◌≡◌, ℕ, ◌-◌, ◌<◌, List, [], ◌∷◌, All, length, Bool, true, false, ◌&&◌, ◌||◌, not, if◌then◌else◌, Option, Some, None, IfSome, option_map, unwrap_or}
use Rattle.std.specs.Option.{option_map_or}
use Rattle.apply_model.specs.declared.details.note.Note.{Note}
use Rattle.apply_model.specs.declared.details.note.Severity.{Severity}
use Rattle.apply_model.specs.declared.details.note.Severity.TheVariants as severity
use Rattle.apply_model.specs.declared.plan.step_kind.StepKind.{StepKind}
use Rattle.apply_model.specs.declared.plan.step_kind.StepKind.TheVariants.{Delete, Read}
use Rattle.apply_model.specs.declared.script.diag.Diag.{Diag}
use Rattle.apply_model.specs.declared.script.ending.Ending.{Ending}
use Rattle.apply_model.specs.declared.script.ending.Ending.TheVariants as ending
use Rattle.apply_model.specs.declared.script.outcome.Outcome.{Outcome}
use Rattle.apply_model.specs.Plan.Address.{is_empty}
use Rattle.apply_model.specs.Plan.StepKind.{is_kind}
use Rattle.apply_model.specs.Script.Outcome.{IsBounded, are_in_time, is_failed, is_warned, provider_id}
use Rattle.stream_record_steps.specs.declared.begun_step.BegunStep.{BegunStep}
use Rattle.stream_record_steps.specs.declared.begun_step.EndResult.{EndResult}
use Rattle.stream_record_steps.specs.declared.begun_step.EndResult.TheVariants as end_result
use Rattle.stream_record_steps.specs.Steps.{PlannedStep}
use Rattle.stream_record_outcomes.specs.declared.fate.Fate.{Fate}
use Rattle.stream_record_outcomes.specs.declared.fate.Fate.TheVariants.{Done, Warned, Failed}
use Rattle.stream_record_outcomes.specs.Provisioners.{ProvisionerRun, at_once, fails_its_step, has_provisioner, kept_runs, last_provisioner, may_provision, provisioners_of, runs_in, unknown_error}
use Rattle.stream_record_outcomes.specs.Times.{timed_facts}

-- ---- whether the step was done

abbrev pub is_warning : Severity → Bool
is_warning severity.Error = false
is_warning severity.Warning = true

abbrev pub fate_of_end : EndResult → Fate
fate_of_end (end_result.Completed id_key id) = Done
fate_of_end end_result.Failed = Failed

-- A step without an end failed if a diagnostic is its own. A read only warned if that is a warning.
abbrev pub fate_without_end : StepKind → Option Note → Fate
fate_without_end kind None = Done
fate_without_end kind (Some note) = if is_kind Read kind && is_warning note.severity then Warned else Failed

abbrev pub fate_of : StepKind → BegunStep → Option Note → Fate
fate_of kind begun note = option_map_or (λ end. fate_of_end end.result) begun.end (fate_without_end kind note)

abbrev pub is_done : Fate → Bool
is_done Done = true
is_done Warned = false
is_done Failed = false

-- ---- which provisioners the script states

-- The last provisioner makes the step fail.
abbrev pub fails_by_provisioner : PlannedStep → BegunStep → Fate → Bool
fails_by_provisioner step begun Done = false
fails_by_provisioner step begun Warned = false
fails_by_provisioner step begun Failed =
    may_provision step && fails_its_step (last_provisioner begun.facts)

-- A step that failed otherwise has no provisioners.
abbrev pub states_provisioners : PlannedStep → BegunStep → Fate → Bool
states_provisioners step begun fate =
    may_provision step && (has_provisioner (last_provisioner begun.facts) && (is_done fate || fails_by_provisioner step begun fate))

-- The provisioners of a delete come before the delete itself: the first begins at once, and the
-- last one runs to its own end, unless it makes the step fail.
abbrev pub runs_of_delete : (whole : ℕ) → (fails : Bool) → BegunStep → List ProvisionerRun
runs_of_delete whole fails begun = at_once (runs_in (not fails) whole (timed_facts whole begun))

-- The provisioners of a create come after the create itself, up to the end of the step.
abbrev pub runs_of_create : (whole : ℕ) → BegunStep → List ProvisionerRun
runs_of_create whole begun = runs_in false whole (timed_facts whole begun)

-- The provisioners that the script states, before those that are too many are left out.
abbrev pub stated_runs : PlannedStep → (whole : ℕ) → BegunStep → Fate → List ProvisionerRun
stated_runs step whole begun fate =
    if states_provisioners step begun fate
    then (if is_kind Delete step.kind then runs_of_delete whole (fails_by_provisioner step begun fate) begun else runs_of_create whole begun)
    else []

-- ---- how long the provider takes

-- Until when the last provisioner ran.
abbrev pub last_until : (before : ℕ) → List ProvisionerRun → ℕ
last_until before [] = before
last_until before (run ∷ runs) = last_until run.until runs

-- The provider of a create takes the time up to the first provisioner, and that of a delete what is
-- left after the last one.
abbrev pub provider_seconds : StepKind → (whole : ℕ) → (fails : Bool) → List ProvisionerRun → ℕ
provider_seconds kind whole fails [] = whole
provider_seconds kind whole fails (run ∷ runs) =
    if is_kind Delete kind then (if fails then 0 else whole - last_until run.until runs) else run.begin

-- ---- how the provider ends

abbrev pub unless_empty : List ℕ → Option (List ℕ)
unless_empty text = if is_empty text then None else Some text

abbrev pub id_of_end : EndResult → Option (List ℕ)
id_of_end (end_result.Completed id_key None) = None
id_of_end (end_result.Completed id_key (Some id)) = unless_empty id
id_of_end end_result.Failed = None

-- The id of the object: that of the completion, but of no delete.
abbrev pub id_of : StepKind → BegunStep → Option (List ℕ)
id_of kind begun = if is_kind Delete kind then None else option_map_or (λ end. id_of_end end.result) begun.end None

abbrev pub diag_of : Option Note → Option Diag
diag_of note = option_map (λ note. note.diag) note

-- The error of a step that failed.
abbrev pub error_of : Option Note → Diag
error_of note = unwrap_or (diag_of note) unknown_error

-- A step that fails by a provisioner has no other error, no id and no warning.
abbrev pub ending_of : StepKind → BegunStep → Option Note → (by_provisioner : Bool) → Fate → Ending
ending_of kind begun own by_provisioner Done = ending.Done (id_of kind begun) (diag_of own)
ending_of kind begun own by_provisioner Warned = ending.Warned (error_of own)
ending_of kind begun own by_provisioner Failed = if by_provisioner then ending.Done None None else ending.Failed (error_of own)

-- The error of the last provisioner, if it makes the step fail.
abbrev pub failure_by : (by_provisioner : Bool) → Option Note → Option Diag
failure_by by_provisioner note = if by_provisioner then Some (error_of note) else None

-- ---- the outcome

abbrev pub outcome_by : PlannedStep → (whole : ℕ) → BegunStep → Option Note → Fate → Outcome
outcome_by step whole begun note fate =
    let by_provisioner = fails_by_provisioner step begun fate in
    let runs = stated_runs step whole begun fate in
    record {
      seconds = provider_seconds step.kind whole by_provisioner runs;
      provisioners = provisioners_of (failure_by by_provisioner note) (kept_runs by_provisioner runs);
      result = ending_of step.kind begun note by_provisioner fate;
      after = [];
    }

-- The outcome of a step that takes these seconds and has this diagnostic.
abbrev pub outcome_of : PlannedStep → (whole : ℕ) → BegunStep → Option Note → Outcome
outcome_of step whole begun note = outcome_by step whole begun note (fate_of step.kind begun note)

-- ---- what a script may state

-- A run takes the outcome for the step, whatever it is.
pub record IsAllowed (step : PlannedStep) (outcome : Outcome) : Type 0 where
  pub bounded : IsBounded outcome
  pub outputs_in_time : All (λ provisioner. are_in_time 0 provisioner.seconds provisioner.output ≡ true) outcome.provisioners
  pub named : All (λ provisioner. 0 < length provisioner.name) outcome.provisioners
  pub has_id : IfSome (provider_id outcome.result) (λ id. 0 < length id)
  pub only_reads_warn : is_warned outcome.result ≡ true → is_kind Read step.kind ≡ true
  pub provisioned : 0 < length outcome.provisioners → may_provision step ≡ true
  pub fails_alone : is_failed outcome.result || is_warned outcome.result ≡ true → outcome.provisioners ≡ []
