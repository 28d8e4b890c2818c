-- Plans and scripts whose texts are UTF-8, and events whose numbers fit 64 bits.
use Rattle.std.specs.Prelude.{ℕ, ◌<◌, ◌^◌, List, IsUtf8, IfSome, ⊤}
use Rattle.std.specs.List.{AllByRecursion}
use Rattle.apply_model.specs.declared.script.diag.Diag.{Diag}
use Rattle.apply_model.specs.declared.script.outcome.Outcome.{Outcome}
use Rattle.apply_plan.specs.Plan.Address.{provider_of}
use Rattle.apply_plan.specs.Plan.ResourceChange.{ResourceChange, resource_of}
use Rattle.apply_plan.specs.Plan.SavedPlan.{SavedPlan}
use Rattle.apply_plan.specs.Script.OutcomeMap.{OutcomeMap, outcome_of}
use Rattle.apply_events.specs.declared.counts.Counts.{Counts}
use Rattle.apply_events.specs.declared.event.Event.{Event}
use Rattle.apply_events.specs.declared.what.What.{What}
use Rattle.apply_events.specs.declared.what.What.TheVariants.{Progress, Complete, Errored, Halted}
use Rattle.apply_events.specs.Totals.{totals_of}
use Rattle.apply_text.specs.Message.{name_of, output_of, failure_diag, provider_id, warning_of}
use Rattle.apply_text.specs.Objects.{key_data}
use Rattle.laws_check.specs.Plans.{IsChange}
use Rattle.laws_check.specs.Sound.{IsSound}

-- the texts of a change that messages contain
pub record HasChangeTexts (change : ResourceChange) : Type 0 where
  pub address : IsUtf8 change.address
  pub module_address : IsUtf8 change.module_address
  pub resource : IsUtf8 (resource_of change)
  pub provider : IsUtf8 (provider_of change.kind_name)
  pub kind_name : IsUtf8 change.kind_name
  pub name : IsUtf8 change.name
  pub key : IsSound (key_data change.key)
  pub prior_id : IfSome change.prior_id IsUtf8

-- the texts of a diagnostic
pub record HasDiagTexts (diag : Diag) : Type 0 where
  pub summary : IsUtf8 diag.summary
  pub detail : IsUtf8 diag.detail

-- the texts of a step's outcome that messages contain
pub record HasOutcomeTexts (outcome : Outcome) : Type 0 where
  pub id : IfSome (provider_id outcome.result) IsUtf8
  pub failure : HasDiagTexts (failure_diag outcome)
  pub warning : HasDiagTexts (warning_of outcome.result)
  pub names : (i : ℕ) → IsUtf8 (name_of outcome i)
  pub outputs : (i line : ℕ) → IsUtf8 (output_of outcome i line)

-- all texts of the plan and the script that messages contain
pub record HasTexts (plan : SavedPlan) (script : OutcomeMap) : Type 0 where
  pub version : IsUtf8 plan.version
  pub changes : (c : ℕ) (change : ResourceChange) → IsChange plan c change → HasChangeTexts change
  pub outcomes : (c k : ℕ) → HasOutcomeTexts (outcome_of script c k)

-- the number of an event fits 64 bits
abbrev pub IsSmall : What → Type 0
IsSmall (Progress seconds) = seconds < 2 ^ 64
IsSmall (Complete seconds) = seconds < 2 ^ 64
IsSmall (Errored seconds) = seconds < 2 ^ 64
IsSmall (Halted phase hook) = hook < 2 ^ 64
IsSmall _ = ⊤

-- the counts of a summary fit 64 bits
pub record AreSmall (counts : Counts) : Type 0 where
  pub added : counts.added < 2 ^ 64
  pub changed : counts.changed < 2 ^ 64
  pub removed : counts.removed < 2 ^ 64

-- all numbers of the events fit 64 bits, and so do their totals
pub record FitBits (plan : SavedPlan) (events : List Event) : Type 0 where
  pub each : AllByRecursion (λ (event : Event). IsSmall event.what) events
  pub totals : AreSmall (totals_of plan events)
