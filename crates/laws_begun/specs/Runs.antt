-- Runs whose hook messages are those of whole steps.
use Rattle.std.specs.Prelude.{◌≡◌, ◌≢◌, ℕ, List, [], All, slice_get, true, Some}
use Rattle.apply_model.specs.declared.plan.step_kind.StepKind.{StepKind}
use Rattle.apply_model.specs.Script.Outcome.{fails, is_warned}
use Rattle.apply_model.specs.Script.OutcomeMap.{outcome_of}
use Rattle.apply_events.specs.declared.event.Event.{Event}
use Rattle.apply_events.specs.Step.{Work, kinds_of}
use Rattle.apply_events.specs.StepEvents.{emits_end}
use Rattle.laws_begun.specs.Followed.{AreApart, may_be_provisioned}

-- Step k of change c has an end in the stream: it does not only warn.
abbrev pub HasEnd : Work → (c k : ℕ) → Type 0
HasEnd work c k = emits_end (fails (outcome_of work.script c k)) (is_warned (outcome_of work.script c k).result) ≡ true

-- Only creates and deletes have provisioners.
abbrev pub ProvisionsFew : Work → Type 0
ProvisionsFew work = (c k : ℕ) (kind : StepKind) → slice_get (kinds_of work.plan c) k ≡ Some kind
    → (outcome_of work.script c k).provisioners ≢ [] → may_be_provisioned kind ≡ true

-- A work without hooks, with addresses apart, whose steps with these events have ends.
pub record IsFollowable (work : Work) (events : List Event) : Type 0 where
  pub hooks : work.hooks ≡ []
  pub apart : AreApart work.plan
  pub ends : All (λ event. HasEnd work event.change event.step) events
  pub provisioners : ProvisionsFew work
