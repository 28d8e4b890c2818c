use Rattle.laws_run.proofs.ReadPlans.{few_steps_read}
use Rattle.laws_run.proofs.ReadScripts.{read_begins, read_names_steps}
use Rattle.laws_run.proofs.scripts.steps_that_were_read_could_begin.Goals as goal

pub returns-clause-few_steps : goal.returns-clause-few_steps
returns-clause-few_steps c work bytes read = few_steps_read bytes work.plan read

pub returns-clause-names : goal.returns-clause-names
returns-clause-names c work bytes read = read_names_steps work.plan bytes work.script read

pub returns-clause-could_begin : goal.returns-clause-could_begin
returns-clause-could_begin c work bytes few read = read_begins work.plan bytes work.script read few
