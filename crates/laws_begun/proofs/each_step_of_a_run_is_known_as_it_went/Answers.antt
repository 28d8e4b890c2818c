use Rattle.apply_text.specs.Order.{hook_messages_of}
use Rattle.laws_begun.proofs.AsItWent.{as_it_went}
use Rattle.laws_begun.proofs.each_step_of_a_run_is_known_as_it_went.Goals as goal

pub returns : goal.returns
returns c work lanes events id first start begun some followable line is step has =
    as_it_went work events followable (c.steps_are_whole.ensures work lanes events some line) id start first begun
    (c.each_step_is_known_by_its_own_lines.ensures (record { plan = work.plan; script = work.script; id = id }) first start (hook_messages_of events) begun
    (c.hook_messages_of_a_run_are_of_whole_steps.ensures work lanes events some followable line) is)
    step has
