use Rattle.laws_timeline.proofs.Streams.{picture_counts}
use Rattle.laws_timeline.proofs.a_picture_shows_what_was_counted.Goals as goal

pub returns : goal.returns
returns c = picture_counts c.each_step_ends_once.ensures
