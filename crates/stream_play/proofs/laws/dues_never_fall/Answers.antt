use Rattle.stream_play.proofs.Dues.{never_falls}
use Rattle.stream_play.proofs.laws.dues_never_fall.Goals as goal

pub returns : goal.returns
returns c = never_falls
