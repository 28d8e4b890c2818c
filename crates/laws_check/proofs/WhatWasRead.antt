-- What holds of a plan and a script that were read from bytes.
use Rattle.std.proofs.Common.{◌≡◌, ℕ, ◌≤◌, List, [], length, slice_get, Option, Some, None, Ok, subst, arith}
use Rattle.std.specs.Prelude.{IfSome}
use Rattle.std.specs.Option.{option_map_or}
use Rattle.apply_model.specs.declared.script.outcome.Outcome.{Outcome}
use Rattle.apply_plan.specs.Plan.ResourceChange.{ResourceChange}
use Rattle.apply_plan.specs.Plan.SavedPlan.{SavedPlan}
use Rattle.apply_plan.specs.Script.Outcome.{IsBounded}
use Rattle.apply_plan.specs.Script.OutcomeMap.{OutcomeMap, stated_outcome}
use Rattle.apply_events.specs.Laws.{IsWithinLimits}
use Rattle.apply_events.specs.Step.{Work}
use Rattle.apply_run.specs.Bytes.{Inputs, IsRead, given_script}
use Rattle.laws_check.specs.Plans.{ProvisionsCreates, ReadsComeLast, WarnsOfReads}
use Rattle.laws_check.proofs.Given.{held_at, is_given}
use Rattle.laws_check.proofs.PlanTexts.{IsReadable, IsReadablePlan, last_of, plan_readable}
use Rattle.laws_check.proofs.Scripts.{none_has, none_warns_of, read_has, read_warns}
use Rattle.laws_check.proofs.ScriptTexts.{IsReadableScript, IsConsistent, nothing_readable, script_readable}

given_readable : (plan : SavedPlan) (bytes : Option (List ℕ)) (script : OutcomeMap) → given_script plan bytes ≡ Ok script → IsReadableScript script
given_readable plan None script e = subst IsReadableScript (let same : [] ≡ script = cc in same) nothing_readable
given_readable plan (Some bytes) script e = script_readable plan bytes script e

given_provisions : (plan : SavedPlan) (bytes : Option (List ℕ)) (script : OutcomeMap) → given_script plan bytes ≡ Ok script → ProvisionsCreates plan script
given_provisions plan None script e = subst (ProvisionsCreates plan) (let same : [] ≡ script = cc in same) (none_has plan)
given_provisions plan (Some bytes) script e = read_has plan bytes script e

given_warns : (plan : SavedPlan) (bytes : Option (List ℕ)) (script : OutcomeMap) → given_script plan bytes ≡ Ok script → ReadsComeLast plan → WarnsOfReads plan script
given_warns plan None script e last = subst (WarnsOfReads plan) (let same : [] ≡ script = cc in same) (none_warns_of plan)
given_warns plan (Some bytes) script e last = read_warns plan bytes script e last

few_kinds : (located : Option ResourceChange) → IfSome located IsReadable → length (option_map_or (λ (change : ResourceChange). change.steps) located []) ≤ 2
few_kinds None h = omega arith
few_kinds (Some change) h = h.few_steps

bounded : (located : Option Outcome) → IfSome located IsConsistent → IfSome located IsBounded
bounded None h = tt
bounded (Some outcome) h = h.bounded

module _ (given : Inputs) (plan : SavedPlan) (script : OutcomeMap) (read : IsRead given plan script) where
  pub the_plan : IsReadablePlan plan
  the_plan = plan_readable given.plan plan read.plan_is

  pub the_script : IsReadableScript script
  the_script = given_readable plan given.script script read.script_is

  pub provisions : ProvisionsCreates plan script
  provisions = given_provisions plan given.script script read.script_is

  pub warnings : WarnsOfReads plan script
  warnings =
      given_warns plan given.script script read.script_is (λ c k change place at.
      last_of change.steps k (is_given IsReadable (slice_get plan.changes c) change (held_at IsReadable plan.changes c the_plan.changes) place).reads_last at)

pub limits_of : (work : Work) → IsReadablePlan work.plan → IsReadableScript work.script → IsWithinLimits work
limits_of work readable stated = record {
  few_changes = readable.few;
  few_steps = λ c. few_kinds (slice_get work.plan.changes c) (held_at IsReadable work.plan.changes c readable.changes);
  short_steps = λ c k. bounded (stated_outcome work.script c k) (stated c k);
}
