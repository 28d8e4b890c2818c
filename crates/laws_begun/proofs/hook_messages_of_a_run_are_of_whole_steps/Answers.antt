use Rattle.std.proofs.Common.{arith}
use Rattle.laws_run.specs.WaitingSteps.{HasFewSteps}
use Rattle.laws_begun.proofs.WholeRuns.{are_whole}
use Rattle.laws_begun.proofs.hook_messages_of_a_run_are_of_whole_steps.Goals as goal

pub returns : goal.returns
returns c work lanes events some followable line =
    let few : HasFewSteps work = λ d. let less = followable.apart.few d in omega (arith, less) in
    are_whole work events followable
    (c.steps_are_whole.ensures work lanes events some line)
    (c.a_step_comes_after_what_it_waits_for.ensures work lanes events some few line)
    (c.a_step_begins_exactly_where_its_waits_are_done.ensures.begins work lanes events some few line)
