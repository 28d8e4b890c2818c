use Rattle.laws_run.proofs.LeftOutInVain.{given_in_range}
use Rattle.laws_run.proofs.ReadPlans.{few_changes_read}
use Rattle.laws_run.proofs.scripts.what_was_read_is_within_limits.Goals as goal

pub returns : goal.returns
returns c given work read = record {
  few_changes = few_changes_read given.plan work.plan read.plan_is;
  few_steps = c.steps_that_were_read_could_begin.ensures.few_steps work given.plan read.plan_is;
  short_steps = given_in_range work.plan work.script given.script read.script_is;
}
