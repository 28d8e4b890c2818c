-- Steps of a plan whose numbers are small enough.
use Rattle.std.specs.Prelude.{ℕ, ◌<◌, ◌≤◌, List, All, length}
use Rattle.apply_model.specs.declared.script.script_step.ScriptStep.{ScriptStep}
use Rattle.apply_model.specs.declared.script.wait.Wait.{Wait}
use Rattle.apply_model.specs.Script.OutcomeMap.{OutcomeMap}
use Rattle.apply_model.specs.Script.Step.{after_of}
use Rattle.apply_model.specs.Script.Waits.{stated_waits}

-- The step is one of the two that each of `count` changes has at most.
pub record IsPlaced (count : ℕ) (wait : Wait) : Type 0 where
  pub change_below : wait.change < count
  pub step_below : wait.step < 2

-- The steps are of one change, and wait only for such steps.
pub record ArePlaced (count : ℕ) (steps : List ScriptStep) : Type 0 where
  pub few : length steps ≤ 2
  pub placed : All (λ step. All (IsPlaced count) (after_of step)) steps

-- Each step waits only for steps of the plan.
abbrev pub AreAllPlaced : OutcomeMap → Type 0
AreAllPlaced script = (wait : Wait) → IsPlaced (length script) wait → All (IsPlaced (length script)) (stated_waits script wait.change wait.step)
