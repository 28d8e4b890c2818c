-- Definitions for the laws of events.
use Rattle.std.specs.Prelude.{ℕ, ◌+◌, ◌<◌, ◌≤◌, ◌==◌, Bool, ◌&&◌, ◌||◌, List, [], ◌∷◌, ◌++◌, length, All, nat_eq}
use Rattle.std.specs.List.{IsDistinct}
use Rattle.apply_model.specs.Plan.SavedPlan.{max_changes}
use Rattle.apply_model.specs.Script.OutcomeMap.{IsInRange}
use Rattle.apply_model.specs.declared.script.timed_text.TimedText.{TimedText}
use Rattle.apply_events.specs.declared.event.Event.{Event}
use Rattle.apply_events.specs.declared.what.What.{What}
use Rattle.apply_events.specs.declared.what.What.TheVariants.{ProvisionOutput}
use Rattle.apply_events.specs.Fits.{Fits}
use Rattle.apply_events.specs.Provisions.{progress}
use Rattle.apply_events.specs.Step.{Work, kinds_of}
use Rattle.apply_events.specs.Totals.{is_complete, is_errored}

-- The event ends step k: the step completes or fails.
abbrev pub ends_step : ℕ → Event → Bool
ends_step k event = event.step == k && (is_complete event.what || is_errored event.what)

-- The work is within the limits of a plan and a script that were read.
pub record IsWithinLimits (work : Work) : Type 0 where
  pub few_changes : length work.plan.changes ≤ max_changes
  pub few_steps : (c : ℕ) → length (kinds_of work.plan c) ≤ 2
  pub short_steps : IsInRange work.script

-- Each named change is in the plan, and is named once.
pub record NamesEachOnce (work : Work) (changes : List ℕ) : Type 0 where
  pub known : All (λ c. c < length work.plan.changes) changes
  pub once : IsDistinct nat_eq changes

-- Each of the events can happen, with the plan and the script of the work.
abbrev pub AllFit : Work → List Event → Type 0
AllFit work events = All (Fits work.plan work.script) events

-- The events of a provisioner from output j on, if its outputs come in time. Each output comes at
-- its own second, after the progress up to then. The end of the provisioner is the last event.
abbrev pub emitted_in_time : (d after i j since until : ℕ) → (end : What) → List TimedText → List (ℕ × What)
emitted_in_time d after i j since until end [] = progress d after until ++ (until, end) ∷ []
emitted_in_time d after i j since until end (output ∷ outputs) =
    progress d after (since + output.after)
    ++ (since + output.after, ProvisionOutput i j)
    ∷ emitted_in_time d (since + output.after) i (j + 1) since until end outputs
