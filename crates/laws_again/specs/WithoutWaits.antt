-- Runs in which no step waits for another, and what `record` reads of them without a graph.
use Rattle.std.specs.Prelude.{◌≡◌, ℕ, ◌+◌, List, [], true, false, None}
use Rattle.apply_model.specs.Plan.SavedPlan.{SavedPlan}
use Rattle.apply_model.specs.Script.Outcome.{is_warned}
use Rattle.apply_model.specs.Script.OutcomeMap.{OutcomeMap, outcome_of}
use Rattle.apply_run.specs.Read.{StatedInputs}
use Rattle.stream_record_cli.specs.declared.command.recording.StreamChoice.{StreamChoice}
use Rattle.stream_record_waits.specs.declared.step_of_plan.StepOfPlan.{StepOfPlan}
use Rattle.stream_record_waits.specs.Graph.{waits_at}
use Rattle.stream_record_waits.specs.Steps.{has_begun}
use Rattle.laws_again.specs.TerraformStreams.{IsShownWhole}
use Rattle.laws_begun.specs.Followed.{HasAddressesApart}
use Rattle.laws_own_streams.specs.Runs.{without_hooks}
use Rattle.laws_queue.specs.Dealing.{NamesNone}
use Rattle.laws_steps_again.specs.ReadBack.{Reading}

-- `record` reads the stream as it is, and as that of a run in so many lanes.
pub record ReadsInLanes (choice : StreamChoice) (lanes : ℕ) : Type 0 where
  pub finds_nothing : choice.find ≡ false
  pub takes_no_run : choice.run ≡ None
  pub in_lanes : choice.wishes.lanes ≡ lanes

-- No address stands twice among changes with steps, each step that begins has its end in the
-- stream, and no step waits for another.
pub record IsToldWithoutWaits (saved : SavedPlan) (steps : OutcomeMap) : Type 0 where
  pub addresses : HasAddressesApart saved
  pub ends : (c k : ℕ) → is_warned (outcome_of steps c k).result ≡ false
  pub none : NamesNone (without_hooks saved steps)

-- The same in Terraform's form, which shows the run whole.
pub record IsToldWithoutWaitsInForm (stated : StatedInputs) : Type 0 where
  pub told : IsToldWithoutWaits stated.plan stated.script
  pub shown : IsShownWhole stated

-- The steps that began have no waits.
abbrev pub AreWithoutWaits : List StepOfPlan → (after : List (List ℕ)) → Type 0
AreWithoutWaits steps after = (step : ℕ) → has_begun steps step ≡ true → waits_at after step ≡ []

-- The line of each hook message, by its place among them.
abbrev pub line_at : Reading → (place : ℕ) → ℕ
line_at reading place = reading.first + place
