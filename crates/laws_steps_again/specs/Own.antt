-- Streams of our own: of a run in lanes, without hooks.
use Rattle.std.specs.Prelude.{◌≡◌, ◌≤◌, ℕ, List, [], slice_get, Some, false}
use Rattle.apply_model.specs.Plan.ResourceChange.{ResourceChange}
use Rattle.apply_model.specs.Script.Outcome.{is_warned}
use Rattle.apply_model.specs.Script.OutcomeMap.{outcome_of}
use Rattle.apply_model.specs.declared.plan.step_kind.StepKind.{StepKind}
use Rattle.apply_events.specs.declared.event.Event.{Event}
use Rattle.apply_events.specs.Step.{Work}
use Rattle.apply_events.specs.Waits.TimeLine.{IsTimeLine}
use Rattle.laws_begun.specs.Followed.{AreApart}
use Rattle.laws_scripts.specs.Outcomes.{IsOfStep}

-- The events are the time line of a work in n lanes, without hooks. No address stands twice among
-- the changes that have steps, each outcome is one that its step can have, and no step only warns.
pub record IsOwn (work : Work) (n : ℕ) (events : List Event) : Type 0 where
  pub hooks : work.hooks ≡ []
  pub some : 1 ≤ n
  pub line : IsTimeLine work n events
  pub apart : AreApart work.plan
  pub outcomes : (c k : ℕ) (change : ResourceChange) (kind : StepKind) → slice_get work.plan.changes c ≡ Some change
      → slice_get change.steps k ≡ Some kind → IsOfStep change k kind (outcome_of work.script c k)
  pub ends : (c k : ℕ) → is_warned (outcome_of work.script c k).result ≡ false
