use Rattle.laws_check.proofs.ReadBackEvents.{event_is_read_back}
use Rattle.laws_check.proofs.laws.the_object_of_an_event_is_read_back.Goals as goal

pub returns : goal.returns
returns c find change kind outcome what seconds = event_is_read_back find change kind outcome what seconds
