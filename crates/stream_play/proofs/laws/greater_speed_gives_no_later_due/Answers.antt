use Rattle.stream_play.proofs.Dues.{faster}
use Rattle.stream_play.proofs.laws.greater_speed_gives_no_later_due.Goals as goal

pub returns : goal.returns
returns c = faster
