-- The steps of a change that are applied are the first of those that the plan has.
use Rattle.std.proofs.Common.{ℕ, ◌≤◌, List, length, take, Option, Some, None, arith}
use Rattle.std.specs.Option.{option_map_or}
use Rattle.std.proofs.lemmas.List.{length-take}
use Rattle.apply_model.specs.declared.plan.step_kind.StepKind.{StepKind}
use Rattle.apply_model.specs.Plan.SavedPlan.{SavedPlan}
use Rattle.apply_model.specs.Script.OutcomeMap.{OutcomeMap, first_skipped}
use Rattle.apply_events.specs.Fits.{HasStep, IsApplied}
use Rattle.apply_events.specs.Step.{kinds_applied, kinds_of}

few_before : (kinds : List StepKind) (skipped : Option ℕ) → length (option_map_or (λ k. take k kinds) skipped kinds) ≤ length kinds
few_before kinds None = omega arith
few_before kinds (Some k) = let less = length-take k kinds in omega arith

pub few_applied : (plan : SavedPlan) (script : OutcomeMap) (c : ℕ) → length (kinds_applied plan script c) ≤ length (kinds_of plan c)
few_applied plan script c = few_before (kinds_of plan c) (first_skipped script c)

pub applied_planned : (plan : SavedPlan) (script : OutcomeMap) (c k : ℕ) → IsApplied plan script c k → HasStep plan c k
applied_planned plan script c k applied = let few = few_applied plan script c in omega arith
