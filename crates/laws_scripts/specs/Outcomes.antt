-- Outcomes that a step can have.
use Rattle.std.specs.Prelude.{◌≡◌, ◌<◌, ◌||◌, ℕ, length, true, is_some, IfSome, []}
use Rattle.std.specs.List.{AllByRecursion}
use Rattle.apply_model.specs.declared.plan.step_kind.StepKind.{StepKind}
use Rattle.apply_model.specs.declared.plan.step_kind.StepKind.TheVariants.{Read}
use Rattle.apply_model.specs.declared.script.outcome.Outcome.{Outcome}
use Rattle.apply_model.specs.declared.script.provisioner.Provisioner.{Provisioner}
use Rattle.apply_model.specs.Plan.ResourceChange.{ResourceChange}
use Rattle.apply_model.specs.Plan.StepKind.{is_kind}
use Rattle.apply_model.specs.Script.Outcome.{IsBounded, are_in_time, is_failed, is_warned, provider_id}
use Rattle.apply_plan.specs.Script.Refusals.{takes_provisioners}

-- The provisioner has a name, and prints in time.
pub record IsInOrder (provisioner : Provisioner) : Type 0 where
  pub named : 0 < length provisioner.name
  pub in_time : are_in_time 0 provisioner.seconds provisioner.output ≡ true

-- The outcome by itself: provisioners in order, an id that is not empty, and no provisioners where
-- the provider fails.
pub record IsSound (outcome : Outcome) : Type 0 where
  pub provisioners : AllByRecursion IsInOrder outcome.provisioners
  pub has_id : IfSome (provider_id outcome.result) (λ id. 0 < length id)
  pub fails_alone : (is_failed outcome.result || is_warned outcome.result) ≡ true → outcome.provisioners ≡ []

-- The outcome of step k of a change, which is of this kind.
pub record IsOfStep (change : ResourceChange) (k : ℕ) (kind : StepKind) (outcome : Outcome) : Type 0 where
  pub bounded : IsBounded outcome
  pub sound : IsSound outcome
  pub only_reads_warn : is_warned outcome.result ≡ true → is_kind Read kind ≡ true
  pub provisioned : 0 < length outcome.provisioners → takes_provisioners (is_some change.deposed) (k, kind) ≡ true
