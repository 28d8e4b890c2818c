use Rattle.laws_waits.proofs.StepPlaces.{in_script, in_stream, same_order, stands}
use Rattle.laws_waits.proofs.scripts.each_step_of_a_plan_stands_at_its_place.Goals as goal

pub returns : goal.returns
returns c = record { in_script = in_script; in_stream = in_stream; stands = stands; same_order = same_order }
