use Rattle.laws_timeline.proofs.Held.{held_have_begun}
use Rattle.laws_timeline.proofs.timeline.no_more_steps_than_begins.Goals as goal

pub returns : goal.returns
returns c = held_have_begun
