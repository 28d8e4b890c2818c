-- The provisioners of a step.
use Rattle.std.specs.Prelude.{ℕ, ◌-◌, ◌==◌, min, List, [], ◌∷◌, ◌++◌, codes, drop, length, reverse, take, Bool, true, false, ◌&&◌, ◌||◌, is_none, is_some, nat_le, if◌then◌else◌, Option, Some, None, option_map}
use Rattle.std.specs.List.{before_first, filter_map, find}
use Rattle.std.specs.Option.{option_map_or}
use Rattle.apply_model.specs.declared.plan.step_kind.StepKind.TheVariants.{Create, Delete}
use Rattle.apply_model.specs.declared.script.diag.Diag.{Diag}
use Rattle.apply_model.specs.declared.script.provisioner.Provisioner.{Provisioner}
use Rattle.apply_model.specs.declared.script.timed_text.TimedText.{TimedText}
use Rattle.apply_model.specs.Plan.Address.{is_empty}
use Rattle.apply_model.specs.Plan.StepKind.{is_kind}
use Rattle.apply_model.specs.Script.Limits.{max_outputs, max_provisioners}
use Rattle.stream_record_steps.specs.declared.step_facts.StepFact.{StepFact}
use Rattle.stream_record_steps.specs.declared.step_facts.Stated.{Stated}
use Rattle.stream_record_steps.specs.declared.step_facts.Stated.TheVariants.{Progress, ProvisionerBegan, Wrote, ProvisionerEnded, ProvisionerFailed}
use Rattle.stream_record_steps.specs.Steps.{PlannedStep, is_first_step}
use Rattle.stream_record_outcomes.specs.Times.{TimedFact}
use Rattle.stream_record_outcomes.specs.declared.last_provisioner.LastProvisioner.{LastProvisioner}
use Rattle.stream_record_outcomes.specs.declared.last_provisioner.LastProvisioner.TheVariants as last

-- Whether a script may state provisioners of the step: of a create, and of a delete of a current
-- object that is the first step of its change.
abbrev pub may_provision : PlannedStep → Bool
may_provision step =
    is_kind Create step.kind || (is_kind Delete step.kind && (is_first_step step && is_none step.change.deposed))

-- ---- how the last provisioner ended

-- An end of a provisioner. It counts only if a provisioner began.
abbrev pub ended_with : LastProvisioner → LastProvisioner → LastProvisioner
ended_with end last.Absent = last.Absent
ended_with end last.UnderWay = end
ended_with end last.Ended = end
ended_with end last.Failed = end

-- How the last provisioner stands after a fact more.
abbrev pub last_after : LastProvisioner → Stated → LastProvisioner
last_after before (Progress seconds) = before
last_after before (ProvisionerBegan name) = last.UnderWay
last_after before (Wrote output) = before
last_after before ProvisionerEnded = ended_with last.Ended before
last_after before ProvisionerFailed = ended_with last.Failed before

abbrev pub last_from : LastProvisioner → List StepFact → LastProvisioner
last_from before [] = before
last_from before (fact ∷ facts) = last_from (last_after before fact.stated) facts

-- How the last provisioner of a step stands.
abbrev pub last_provisioner : List StepFact → LastProvisioner
last_provisioner facts = last_from last.Absent facts

abbrev pub has_provisioner : LastProvisioner → Bool
has_provisioner last.Absent = false
has_provisioner last.UnderWay = true
has_provisioner last.Ended = true
has_provisioner last.Failed = true

-- The last provisioner of a step that failed is why it did: it failed, or has no end.
abbrev pub fails_its_step : LastProvisioner → Bool
fails_its_step last.Absent = false
fails_its_step last.UnderWay = true
fails_its_step last.Ended = false
fails_its_step last.Failed = true

-- ---- each provisioner

-- A provisioner: from when until when it ran, and what came before the next one began.
pub record ProvisionerRun : Type 0 where
  pub name : List ℕ
  pub begin : ℕ
  pub until : ℕ
  pub facts : List TimedFact

-- The name of the provisioner that began.
abbrev pub begun_name : Stated → Option (List ℕ)
begun_name (Progress seconds) = None
begun_name (ProvisionerBegan name) = Some name
begun_name (Wrote output) = None
begun_name ProvisionerEnded = None
begun_name ProvisionerFailed = None

abbrev pub begins : TimedFact → Bool
begins fact = is_some (begun_name fact.stated)

abbrev pub ends_one : Stated → Bool
ends_one (Progress seconds) = false
ends_one (ProvisionerBegan name) = false
ends_one (Wrote output) = false
ends_one ProvisionerEnded = true
ends_one ProvisionerFailed = true

abbrev pub fails_one : Stated → Bool
fails_one (Progress seconds) = false
fails_one (ProvisionerBegan name) = false
fails_one (Wrote output) = false
fails_one ProvisionerEnded = false
fails_one ProvisionerFailed = true

-- The last end of a provisioner with these facts.
abbrev pub last_end : List TimedFact → Option TimedFact
last_end facts = find (λ fact. ends_one fact.stated) (reverse facts)

abbrev pub end_second : (whole : ℕ) → List TimedFact → ℕ
end_second whole facts = option_map_or (λ end. end.second) (last_end facts) whole

-- Until when a provisioner ran, by the facts after its begin: until the next one began. The last
-- one ran to its own end, or to the end of the whole.
abbrev pub until_of : (to_own_end : Bool) → (whole : ℕ) → List TimedFact → ℕ
until_of to_own_end whole facts =
    option_map_or (λ next. next.second) (find begins facts)
    (if to_own_end then end_second whole facts else whole)

abbrev pub run_from : (to_own_end : Bool) → (whole begin : ℕ) → List TimedFact → (name : List ℕ) → ProvisionerRun
run_from to_own_end whole begin facts name = record {
  name = name;
  begin = begin;
  until = until_of to_own_end whole facts;
  facts = before_first begins facts;
}

-- A provisioner, if one began, before others.
abbrev pub run_before : Option ProvisionerRun → List ProvisionerRun → List ProvisionerRun
run_before None runs = runs
run_before (Some run) runs = run ∷ runs

-- The provisioners that began, in order.
abbrev pub runs_in : (to_own_end : Bool) → (whole : ℕ) → List TimedFact → List ProvisionerRun
runs_in to_own_end whole [] = []
runs_in to_own_end whole (fact ∷ facts) =
    run_before (option_map (run_from to_own_end whole fact.second facts) (begun_name fact.stated)) (runs_in to_own_end whole facts)

-- The first provisioner begins at once.
abbrev pub at_once : List ProvisionerRun → List ProvisionerRun
at_once [] = []
at_once (run ∷ runs) = record { name = run.name; begin = 0; until = run.until; facts = run.facts } ∷ runs

-- Of more provisioners than a script may state, the first ones, or, if the last one makes the step
-- fail, fewer of these and the last one.
abbrev pub kept_runs : (fails : Bool) → List ProvisionerRun → List ProvisionerRun
kept_runs fails runs =
    if nat_le (length runs) max_provisioners then runs
    else if fails then take (max_provisioners - 1) runs ++ drop (length runs - 1) runs
    else take max_provisioners runs

-- ---- as a script states them

abbrev pub output_of : Stated → Option (List ℕ)
output_of (Progress seconds) = None
output_of (ProvisionerBegan name) = None
output_of (Wrote output) = Some output
output_of ProvisionerEnded = None
output_of ProvisionerFailed = None

-- An output of a provisioner, no later than its end.
abbrev pub timed_output : (begin seconds : ℕ) → TimedFact → Option TimedText
timed_output begin seconds fact =
    option_map (λ text. record { after = min (fact.second - begin) seconds; text = text }) (output_of fact.stated)

abbrev pub seconds_of_run : ProvisionerRun → ℕ
seconds_of_run run = run.until - run.begin

abbrev pub writes : TimedFact → Bool
writes fact = is_some (output_of fact.stated)

-- All outputs of a provisioner.
abbrev pub outputs_of_run : ProvisionerRun → List TimedText
outputs_of_run run = filter_map (timed_output run.begin (seconds_of_run run)) run.facts

-- A provisioner without a name is `?`.
abbrev pub name_or_mark : (name : List ℕ) → List ℕ
name_or_mark name = if is_empty name then codes "?" else name

-- An error of which no diagnostic is known.
abbrev pub unknown_error : Diag
unknown_error = record { summary = codes "failed"; detail = []; range = None; snippet = None }

-- The provisioner failed, and the step went on.
abbrev pub went_on : ProvisionerRun → Bool
went_on run = option_map_or (λ end. fails_one end.stated) (last_end run.facts) false

-- The error of a provisioner. With a failure the provisioner makes the step fail.
abbrev pub error_of_run : (failure : Option Diag) → ProvisionerRun → Option Diag
error_of_run None run = if went_on run then Some unknown_error else None
error_of_run (Some diag) run = Some diag

abbrev pub provisioner_of : (failure : Option Diag) → ProvisionerRun → Provisioner
provisioner_of failure run = record {
  name = name_or_mark run.name;
  seconds = seconds_of_run run;
  output = take max_outputs (outputs_of_run run);
  failed = error_of_run failure run;
  may_fail = is_none failure && went_on run;
}

-- The provisioners. The last one has the failure.
abbrev pub provisioners_of : (failure : Option Diag) → List ProvisionerRun → List Provisioner
provisioners_of failure [] = []
provisioners_of failure (run ∷ runs) =
    provisioner_of (if length runs == 0 then failure else None) run ∷ provisioners_of failure runs
