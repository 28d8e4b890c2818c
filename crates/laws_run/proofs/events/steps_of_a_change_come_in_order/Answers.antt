use Rattle.std.proofs.Common.{◌+◌, length}
use Rattle.apply_events.specs.ChangeEvents.{change_events}
use Rattle.apply_events.specs.Step.{steps_of}
use Rattle.apply_events.proofs.Rising.{IsNonDecreasingBy-from_Rises}
use Rattle.apply_events.proofs.StepNumbers.{events_from_rise, number_of, steps_of-numbered}
use Rattle.laws_run.proofs.events.steps_of_a_change_come_in_order.Goals as goal

pub returns : goal.returns
returns c work worker change at = IsNonDecreasingBy-from_Rises number_of 0 (0 + length (steps_of work change)) (change_events work worker change at) (events_from_rise worker 0 (steps_of work change) at (steps_of-numbered work change))
