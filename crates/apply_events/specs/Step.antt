-- The properties of a step that decide its events.
use Rattle.std.specs.Prelude.{ℕ, List, [], map, take, Bool, true, false, Option, Some, None, slice_get}
use Rattle.std.specs.List.{enumerate_from}
use Rattle.std.specs.Option.{option_map_or}
use Rattle.apply_model.specs.declared.plan.step_kind.StepKind.{StepKind}
use Rattle.apply_model.specs.declared.script.ending.Ending.{Ending}
use Rattle.apply_model.specs.declared.script.ending.Ending.TheVariants.{Done, Failed, Warned}
use Rattle.apply_model.specs.declared.script.provisioner.Provisioner.{Provisioner}
use Rattle.apply_model.specs.Plan.SavedPlan.{SavedPlan}
use Rattle.apply_model.specs.Script.Outcome.{fails, is_warned, ran, seconds_before, seconds_after}
use Rattle.apply_model.specs.Script.OutcomeMap.{OutcomeMap, first_skipped, outcome_of}
use Rattle.apply_hooks.specs.declared.phase.Phase.{Phase}
use Rattle.apply_hooks.specs.declared.rule.Rule.{Rule}
use Rattle.apply_hooks.specs.Hooks.{first_halting}

-- What is applied: a plan, the answers of the providers to its steps, and the rules of each hook.
pub record Work : Type 0 where
  pub plan : SavedPlan
  pub script : OutcomeMap
  pub hooks : List (List Rule)

-- A step, by the properties that decide its events.
pub record Step : Type 0 where
  -- The number of the change, and the number of the step in its change.
  pub change : ℕ
  pub number : ℕ
  -- How long the provider takes before the provisioners and after them, in seconds, and the
  -- provisioners that run.
  pub seconds_before : ℕ
  pub ran : List Provisioner
  pub seconds_after : ℕ
  -- The step fails, by its provider or by a provisioner. The provider warns. The provider fails and
  -- only a warning follows.
  pub fails : Bool
  pub warns : Bool
  pub only_warns : Bool
  -- The first hook that halts the step, in each phase.
  pub halts : Phase → Option ℕ

-- There is a warning: of a provider that succeeds, or of a read that only warns.
abbrev pub has_warning : Ending → Bool
has_warning (Done id None) = false
has_warning (Done id (Some diag)) = true
has_warning (Failed diag) = false
has_warning (Warned diag) = true

-- The steps that a plan has for change c. There are none where the plan has no such change.
abbrev pub kinds_of : SavedPlan → ℕ → List StepKind
kinds_of plan c = option_map_or (λ change. change.steps) (slice_get plan.changes c) []

-- The steps that are applied: those before the first that the script skips.
abbrev pub kinds_applied : SavedPlan → OutcomeMap → ℕ → List StepKind
kinds_applied plan script c =
    option_map_or (λ skipped. take skipped (kinds_of plan c)) (first_skipped script c) (kinds_of plan c)

-- The address of change c.
abbrev pub address_of : SavedPlan → ℕ → List ℕ
address_of plan c = option_map_or (λ change. change.address) (slice_get plan.changes c) []

-- Step k of change c, which is of that kind.
abbrev pub step_of : Work → (c k : ℕ) → StepKind → Step
step_of work c k kind = record {
  change = c;
  number = k;
  seconds_before = seconds_before kind (outcome_of work.script c k);
  ran = ran (outcome_of work.script c k).provisioners;
  seconds_after = seconds_after kind (outcome_of work.script c k);
  fails = fails (outcome_of work.script c k);
  warns = has_warning (outcome_of work.script c k).result;
  only_warns = is_warned (outcome_of work.script c k).result;
  halts = λ phase. first_halting work.hooks (record { phase = phase; kind = kind; address = address_of work.plan c });
}

-- The steps of change c that are applied.
abbrev pub steps_of : Work → ℕ → List Step
steps_of work c = map (λ p. step_of work c p.0 p.1) (enumerate_from 0 (kinds_applied work.plan work.script c))
