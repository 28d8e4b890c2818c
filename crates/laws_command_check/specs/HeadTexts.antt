-- The texts of inputs that the lines before an apply contain.
use Rattle.std.specs.Prelude.{ℕ, ◌<◌, ◌^◌, IfSome, IsUtf8, ⊤}
use Rattle.std.specs.List.{AllByRecursion}
use Rattle.apply_model.specs.Plan.ResourceChange.{ResourceChange}
use Rattle.apply_prior.specs.declared.drift.Drift.{Drift}
use Rattle.apply_prior.specs.declared.planned_output.PlannedOutput.{PlannedOutput}
use Rattle.apply_planning.specs.declared.told.Told.{Told}
use Rattle.apply_text_planning.specs.declared.plan_totals.PlanTotals.{PlanTotals}
use Rattle.apply_command.specs.declared.head_line.HeadLine.{HeadLine}
use Rattle.apply_command.specs.declared.head_line.HeadLine.TheVariants as line
use Rattle.apply_command.specs.Head.{HeadInputs}
use Rattle.apply_command.specs.Reading.{CommandInputs}
use Rattle.laws_check.specs.Plans.{IsChange}
use Rattle.laws_check.specs.ReadBackInForm.{HasDetailTexts, HasNoteTexts}
use Rattle.laws_check.specs.Texts.{HasChangeTexts, IsSmall}

-- the texts of an object that is refreshed or read, and the number of its seconds
pub record HasToldTexts (told : Told) : Type 0 where
  pub object : HasChangeTexts told.object
  pub id_before : IfSome told.id_before IsUtf8
  pub id_after : IfSome told.id_after IsUtf8
  pub failure : IfSome told.failure HasNoteTexts
  pub seconds : told.seconds < 2 ^ 64

-- the texts of a drift
pub record HasDriftTexts (drift : Drift) : Type 0 where
  pub change : HasChangeTexts drift.change
  pub details : HasDetailTexts drift.details

-- the totals of a plan fit 64 bits
pub record AreSmallTotals (totals : PlanTotals) : Type 0 where
  pub added : totals.added < 2 ^ 64
  pub changed : totals.changed < 2 ^ 64
  pub removed : totals.removed < 2 ^ 64
  pub imported : totals.imported < 2 ^ 64

-- all texts that the lines contain are UTF-8, and the totals fit 64 bits
pub record HasHeadTexts (inputs : HeadInputs) : Type 0 where
  pub version : IsUtf8 inputs.plan.version
  pub told : AllByRecursion HasToldTexts inputs.told
  pub drifts : AllByRecursion HasDriftTexts inputs.drifts
  pub changes : (c : ℕ) (change : ResourceChange) → IsChange inputs.plan c change → HasChangeTexts change
  pub details : AllByRecursion HasDetailTexts inputs.details
  pub outputs : AllByRecursion (λ (output : PlannedOutput). IsUtf8 output.name) inputs.outputs
  pub totals : AreSmallTotals inputs.totals

-- the number of an event of the planning fits 64 bits
abbrev pub IsSmallLine : HeadLine → Type 0
IsSmallLine line.Version = ⊤
IsSmallLine (line.Planning event) = IsSmall event.what
IsSmallLine (line.Drift number) = ⊤
IsSmallLine (line.Planned number) = ⊤
IsSmallLine line.Summary = ⊤
IsSmallLine line.Outputs = ⊤

-- what a command reads beyond a saved plan and its script has such texts
pub record HasPlanningTexts (read : CommandInputs) : Type 0 where
  pub told : AllByRecursion HasToldTexts read.told
  pub drifts : AllByRecursion HasDriftTexts read.drifts
  pub outputs : AllByRecursion (λ (output : PlannedOutput). IsUtf8 output.name) read.outputs
