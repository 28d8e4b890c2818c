-- Contracts see the borrowed parts of an entry as the values they state, for private types.
use Rattle.std.specs.Prelude.{ℕ, List, [], length, map, nat_lt, sum_by, if◌then◌else◌, Option, Some, None, option_map}
use Rattle.std.specs.Option.{option_copied}
use Rattle.apply_model.specs.declared.script.ending.Ending.{Ending}
use Rattle.apply_model.specs.declared.script.ending.Ending.TheVariants.{Done}
use Rattle.apply_model.specs.declared.script.outcome.Outcome.{Outcome}
use Rattle.apply_model.specs.declared.script.provisioner.Provisioner.{Provisioner}
use Rattle.apply_plan.specs.declared.script.raw_ending.RawEnding.{RawEnding}
use Rattle.apply_plan.specs.declared.script.raw_ending.RawEnding.TheVariants as tree
use Rattle.apply_plan.specs.declared.script.raw_failure.RawFailure.{RawFailure}
use Rattle.apply_plan.specs.declared.script.raw_entry.RawEntry.{RawEntry}
use Rattle.apply_plan.specs.declared.script.raw_outcome.RawOutcome.{RawOutcome}
use Rattle.apply_plan.specs.declared.script.raw_provisioner.RawProvisioner.{RawProvisioner}
use Rattle.apply_plan.specs.declared.script.raw_step.RawStep.{RawStep}
use Rattle.apply_plan.specs.declared.script.raw_wait.RawWait.{RawWait}
use Rattle.apply_plan.specs.Script.Entry.{Entry, EntryStep, Failure, WaitName, ending_by, timed}
use Rattle.apply_plan.specs.Script.OutputView.{outputs_view}

abbrev pub failure_view : RawFailure → Failure
failure_view failure = record { diag = failure.diag; only_warns = failure.only_warns }

abbrev pub ending_view : RawEnding → Ending
ending_view (tree.Done id warning) = Done (option_copied id) warning
ending_view (tree.Failed failure) = ending_by (failure_view failure)

abbrev pub provisioner_view : RawProvisioner → Provisioner
provisioner_view provisioner = record {
  name = provisioner.name.now;
  seconds = provisioner.seconds;
  output = map (timed provisioner.seconds) (outputs_view provisioner.output.items);
  failed = provisioner.failed;
  may_fail = provisioner.may_fail;
}

-- the outcome of a step, without the steps that it waits for
abbrev pub outcome_view : RawOutcome → Outcome
outcome_view outcome = record {
  seconds = outcome.seconds;
  provisioners = map provisioner_view outcome.provisioners.items;
  result = ending_view outcome.result;
  after = [];
}

-- the outcome of a step; none if it is skipped
abbrev pub step_view : RawStep → Option Outcome
step_view step = option_map outcome_view step.outcome

abbrev pub wait_view : RawWait → WaitName
wait_view wait = record { address = wait.address.now; deposed = option_copied wait.deposed; step = wait.step }

abbrev pub waits_view : List RawWait → List WaitName
waits_view waits = map wait_view waits

abbrev pub entry_step_view : RawStep → EntryStep
entry_step_view step = record { outcome = step_view step; after = waits_view step.after.items }

abbrev pub entry_view : RawEntry → Entry
entry_view entry = record {
  address = entry.address.now;
  deposed = option_copied entry.deposed;
  steps = map entry_step_view entry.steps.items;
}

-- how many items the `after` lists of the steps have
abbrev pub raw_waits : List RawStep → ℕ
raw_waits steps = sum_by (λ step. length step.after.items) steps

-- how many items the `after` lists of the steps have; none if more than the limit
abbrev pub waits_within : (limit : ℕ) → List RawStep → Option ℕ
waits_within limit steps = if nat_lt limit (raw_waits steps) then None else Some (raw_waits steps)
