use Rattle.laws_run.proofs.LeftOutInVain.{given_begins, given_names, left_out, none_left_out}
use Rattle.laws_run.proofs.scripts.a_read_script_leaves_out_what_waits_in_vain.Goals as goal

pub returns-clause-in_vain : goal.returns-clause-in_vain
returns-clause-in_vain c given work n events some read line =
    let begins = c.a_step_begins_exactly_where_its_waits_are_done.ensures in
    let can = c.steps_that_were_read_could_begin.ensures in
    let few = can.few_steps work given.plan read.plan_is in
    left_out work events few (begins.begins work n events some few line) (begins.applied work n events some line)
    (given_names work (λ bytes. can.names work bytes) (λ bytes. can.could_begin work bytes few) given.script read.script_is)
    (given_begins work (λ bytes. can.names work bytes) (λ bytes. can.could_begin work bytes few) given.script read.script_is)

pub returns-clause-without_need : goal.returns-clause-without_need
returns-clause-without_need c given work n events some read line = none_left_out work events (returns-clause-in_vain c given work n events some read line)
