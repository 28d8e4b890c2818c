-- What the script does not say of a step.
use Rattle.std.specs.Prelude.{ℕ, ◌%◌, ◌==◌, List, [], ◌∷◌, ◌++◌, codes, count_by, length, Bool, true, false, ◌&&◌, ◌||◌, is_none, is_some, nat_le, nat_lt, not, if◌then◌else◌, Option, Some, None}
use Rattle.std.specs.List.{filter_map, list_any}
use Rattle.std.specs.Option.{option_map_or}
use Rattle.std.specs.Str.{bytes_eq}
use Rattle.apply_model.specs.declared.details.note.Note.{Note}
use Rattle.apply_model.specs.declared.plan.step_kind.StepKind.{StepKind}
use Rattle.apply_model.specs.declared.plan.step_kind.StepKind.TheVariants.{Read}
use Rattle.apply_model.specs.Plan.StepKind.{is_kind}
use Rattle.apply_model.specs.Script.Limits.{max_outputs, max_provisioners, max_seconds}
use Rattle.stream_record_steps.specs.declared.begun_step.BegunStep.{BegunStep}
use Rattle.stream_record_steps.specs.declared.begun_step.EndResult.{EndResult}
use Rattle.stream_record_steps.specs.declared.begun_step.EndResult.TheVariants as end_result
use Rattle.stream_record_steps.specs.declared.step_facts.StepFact.{StepFact}
use Rattle.stream_record_steps.specs.Steps.{PlannedStep}
use Rattle.stream_record_outcomes.specs.declared.fate.Fate.{Fate}
use Rattle.stream_record_outcomes.specs.declared.fate.Fate.TheVariants.{Done, Warned, Failed}
use Rattle.stream_record_outcomes.specs.declared.step_warning.StepWarning.{StepWarning}
use Rattle.stream_record_outcomes.specs.declared.step_warning.StepWarning.TheVariants.{NoEnd, TooLong, OddProgress, Unexplained, OtherId, NotProvisionable, ProvisionersLeftOut, TooManyProvisioners, TooMuchOutput}
use Rattle.stream_record_outcomes.specs.Outcome.{fails_by_provisioner, fate_of, stated_runs}
use Rattle.stream_record_outcomes.specs.Provisioners.{ProvisionerRun, has_provisioner, kept_runs, last_provisioner, may_provision, writes}
use Rattle.stream_record_outcomes.specs.Took.{progress_of}

-- A warning, if there is one.
abbrev pub warn_if : Bool → StepWarning → List StepWarning
warn_if said warning = if said then warning ∷ [] else []

abbrev pub is_failed_fate : Fate → Bool
is_failed_fate Done = false
is_failed_fate Warned = false
is_failed_fate Failed = true

-- A step has no end. A read that failed or only warned never has one.
abbrev pub lacks_end : StepKind → BegunStep → Option Note → Bool
lacks_end kind begun note = is_none begun.end && not (is_kind Read kind && is_some note)

-- Progress comes at each tenth second before the end.
abbrev pub is_odd_progress : (has_end : Bool) → (took seconds : ℕ) → Bool
is_odd_progress has_end took seconds = not (seconds % 10 == 0) || (has_end && nat_le took seconds)

abbrev pub is_odd_fact : (has_end : Bool) → (took : ℕ) → StepFact → Bool
is_odd_fact has_end took fact = option_map_or (is_odd_progress has_end took) (progress_of fact.stated) false

abbrev pub has_odd_progress : (took : ℕ) → BegunStep → Bool
has_odd_progress took begun = list_any (is_odd_fact (is_some begun.end) took) begun.facts

-- A completion names a member other than `id`.
abbrev pub other_key : EndResult → List StepWarning
other_key (end_result.Completed None id) = []
other_key (end_result.Completed (Some key) id) = warn_if (not (bytes_eq key (codes "id"))) (OtherId key)
other_key end_result.Failed = []

abbrev pub too_many : (count : ℕ) → List StepWarning
too_many count = warn_if (nat_lt max_provisioners count) (TooManyProvisioners count)

abbrev pub too_much : ProvisionerRun → Option StepWarning
too_much run =
    let count = count_by writes run.facts in if nat_lt max_outputs count then Some (TooMuchOutput count) else None

-- Of provisioners that the step has in the stream, but not in the script.
abbrev pub left_out : PlannedStep → BegunStep → Fate → List StepWarning
left_out step begun fate =
    if has_provisioner (last_provisioner begun.facts)
    then (if may_provision step then warn_if (is_failed_fate fate && not (fails_by_provisioner step begun fate)) ProvisionersLeftOut else NotProvisionable ∷ [])
    else []

-- Of provisioners and outputs that are too many.
abbrev pub limited : (fails : Bool) → List ProvisionerRun → List StepWarning
limited fails runs = too_many (length runs) ++ filter_map too_much (kept_runs fails runs)

-- Of the step itself.
abbrev pub own_warnings : StepKind → (took : ℕ) → BegunStep → Option Note → Fate → List StepWarning
own_warnings kind took begun note fate =
    warn_if (lacks_end kind begun note) (NoEnd (is_failed_fate fate))
    ++ (warn_if (nat_lt max_seconds took) (TooLong took)
    ++ (warn_if (has_odd_progress took begun) OddProgress
    ++ (warn_if (is_failed_fate fate && is_none note) Unexplained
    ++ option_map_or (λ end. other_key end.result) begun.end [])))

abbrev pub warnings_by : PlannedStep → (took whole : ℕ) → BegunStep → Option Note → Fate → List StepWarning
warnings_by step took whole begun note fate =
    own_warnings step.kind took begun note fate
    ++ (left_out step begun fate ++ limited (fails_by_provisioner step begun fate) (stated_runs step whole begun fate))

-- All that the script does not say of the step.
abbrev pub warnings_of : PlannedStep → (took whole : ℕ) → BegunStep → Option Note → List StepWarning
warnings_of step took whole begun note = warnings_by step took whole begun note (fate_of step.kind begun note)
