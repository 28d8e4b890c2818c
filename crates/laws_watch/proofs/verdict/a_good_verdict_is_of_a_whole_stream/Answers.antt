use Rattle.laws_watch.proofs.LastRow.{verdict_good}
use Rattle.laws_watch.proofs.verdict.a_good_verdict_is_of_a_whole_stream.Goals as goal

pub returns : goal.returns
returns c = verdict_good
