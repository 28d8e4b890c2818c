-- The answer of a provider to a step, and the provisioners of the step (the script's own format).
use Rattle.std.specs.Prelude.{ℕ, ◌+◌, ◌≤◌, List, [], ◌∷◌, All, length, sum_by, Bool, true, false, ◌&&◌, ◌||◌, not, is_some, nat_le, nat_lt, if◌then◌else◌, Option, Some, None}
use Rattle.std.specs.List.{list_any}
use Rattle.std.specs.Option.{option_or}
use Rattle.apply_model.specs.declared.plan.step_kind.StepKind.{StepKind}
use Rattle.apply_model.specs.declared.plan.step_kind.StepKind.TheVariants.{Create, Update, Delete, Read}
use Rattle.apply_model.specs.declared.script.diag.Diag.{Diag}
use Rattle.apply_model.specs.declared.script.ending.Ending.{Ending}
use Rattle.apply_model.specs.declared.script.ending.Ending.TheVariants.{Done, Failed, Warned}
use Rattle.apply_model.specs.declared.script.outcome.Outcome.{Outcome}
use Rattle.apply_model.specs.declared.script.provisioner.Provisioner.{Provisioner}
use Rattle.apply_model.specs.declared.script.timed_text.TimedText.{TimedText}
use Rattle.apply_model.specs.Plan.StepKind.{is_kind}
use Rattle.apply_model.specs.Script.Limits.{max_seconds, max_provisioners, max_outputs, max_waits}

-- ---- which provisioners run

-- The provisioner fails.
abbrev pub has_failed : Provisioner → Bool
has_failed provisioner = is_some provisioner.failed

-- The error by which a provisioner makes the step fail: it fails, and may not fail.
abbrev pub failure_by : Provisioner → Option Diag
failure_by provisioner = if provisioner.may_fail then None else provisioner.failed

-- The provisioner makes the step fail.
abbrev pub makes_fail : Provisioner → Bool
makes_fail provisioner = is_some (failure_by provisioner)

-- The provisioners that run: all up to and with the first that makes the step fail.
abbrev pub ran : List Provisioner → List Provisioner
ran [] = []
ran (provisioner ∷ others) = provisioner ∷ (if makes_fail provisioner then [] else ran others)

-- How long some provisioners take together, in seconds.
abbrev pub seconds_of_all : List Provisioner → ℕ
seconds_of_all provisioners = sum_by (λ provisioner. provisioner.seconds) provisioners

-- The times of the texts never fall. The first time is at least `low`, and the last at most
-- `seconds`.
abbrev pub are_in_time : (low seconds : ℕ) → List TimedText → Bool
are_in_time low seconds [] = true
are_in_time low seconds (text ∷ texts) =
    nat_le low text.after && nat_le text.after seconds && are_in_time text.after seconds texts

-- ---- how the step ends

-- The provider fails, and the step with it.
abbrev pub is_failed : Ending → Bool
is_failed (Done id warning) = false
is_failed (Failed diag) = true
is_failed (Warned diag) = false

-- The provider fails, and only a warning follows.
abbrev pub is_warned : Ending → Bool
is_warned (Done id warning) = false
is_warned (Failed diag) = false
is_warned (Warned diag) = true

-- The step fails: its provider fails, or a provisioner makes the step fail.
abbrev pub fails : Outcome → Bool
fails outcome = is_failed outcome.result || list_any makes_fail outcome.provisioners

-- How long the provider takes before the provisioners, in seconds. The provisioners of a delete run
-- first.
abbrev pub seconds_before : StepKind → Outcome → ℕ
seconds_before kind outcome = if is_kind Delete kind then 0 else outcome.seconds

-- How long the provider takes after the provisioners, in seconds: only in a delete, and only if no
-- provisioner makes the step fail.
abbrev pub seconds_after : StepKind → Outcome → ℕ
seconds_after kind outcome =
    if is_kind Delete kind && not (list_any makes_fail outcome.provisioners) then outcome.seconds else 0

-- How long a step of that kind takes, in seconds, with the provisioners that run.
abbrev pub took : StepKind → Outcome → ℕ
took kind outcome =
    seconds_before kind outcome + seconds_of_all (ran outcome.provisioners) + seconds_after kind outcome

-- The error of the provider.
abbrev pub diag_of_ending : Ending → Option Diag
diag_of_ending (Done id warning) = None
diag_of_ending (Failed diag) = Some diag
diag_of_ending (Warned diag) = None

-- The warning: of a provider that succeeds, or in place of the error of a read that only warns.
abbrev pub warning_in : Ending → Option Diag
warning_in (Done id warning) = warning
warning_in (Failed diag) = None
warning_in (Warned diag) = Some diag

-- The error of the first provisioner that makes the step fail.
abbrev pub first_diag : List Provisioner → Option Diag
first_diag [] = None
first_diag (provisioner ∷ others) = option_or (failure_by provisioner) (first_diag others)

-- The error of a step that fails: of the provider, or else of the first provisioner that makes the
-- step fail.
abbrev pub failure_of : Outcome → Option Diag
failure_of outcome = option_or (diag_of_ending outcome.result) (first_diag outcome.provisioners)

-- ---- the id that the end of a step reports

-- The id that the provider returns for the object.
abbrev pub provider_id : Ending → Option (List ℕ)
provider_id (Done id warning) = id
provider_id (Failed diag) = None
provider_id (Warned diag) = None

-- The id that the end of a step reports: the id that the provider returns, and none for a delete.
abbrev pub end_id : StepKind → Ending → Option (List ℕ)
end_id Create ending = provider_id ending
end_id Update ending = provider_id ending
end_id Delete ending = None
end_id Read ending = provider_id ending

-- ---- limits

-- How long the provider and all provisioners take, in seconds. Provisioners after a failure count
-- too.
abbrev pub seconds_in_all : Outcome → ℕ
seconds_in_all outcome = outcome.seconds + seconds_of_all outcome.provisioners

-- The step takes too long for a script.
abbrev pub is_too_long : Outcome → Bool
is_too_long outcome = nat_lt max_seconds (seconds_in_all outcome)

-- The step has too many provisioners for a script.
abbrev pub has_too_many_provisioners : Outcome → Bool
has_too_many_provisioners outcome = nat_lt max_provisioners (length outcome.provisioners)

-- The provisioner prints too many texts for a script.
abbrev pub puts_out_too_much : Provisioner → Bool
puts_out_too_much provisioner = nat_lt max_outputs (length provisioner.output)

-- A provisioner of the step prints too many texts for a script.
abbrev pub has_too_much_output : Outcome → Bool
has_too_much_output outcome = list_any puts_out_too_much outcome.provisioners

-- The provisioner alone is within the limits of a script.
pub record IsSmall (provisioner : Provisioner) : Type 0 where
  pub short : provisioner.seconds ≤ max_seconds
  pub little_output : length provisioner.output ≤ max_outputs

-- The step is within the limits of a script.
pub record IsBounded (outcome : Outcome) : Type 0 where
  pub short : seconds_in_all outcome ≤ max_seconds
  pub few_provisioners : length outcome.provisioners ≤ max_provisioners
  pub little_output : All (λ provisioner. length provisioner.output ≤ max_outputs) outcome.provisioners
  pub few_waits : length outcome.after ≤ max_waits

-- ---- a step that no script states

-- The outcome of a step that a script does not state.
abbrev pub default_outcome : Outcome
default_outcome = record { seconds = 0; provisioners = []; result = Done None None; after = [] }
