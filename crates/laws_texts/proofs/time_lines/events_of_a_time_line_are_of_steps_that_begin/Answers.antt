use Rattle.laws_texts.proofs.BegunEvents.{all_begin, all_of_outcome}
use Rattle.laws_texts.proofs.time_lines.events_of_a_time_line_are_of_steps_that_begin.Goals as goal

pub returns-clause-begins : goal.returns-clause-begins
returns-clause-begins c = all_begin

pub returns-clause-of_outcome : goal.returns-clause-of_outcome
returns-clause-of_outcome c = all_of_outcome
