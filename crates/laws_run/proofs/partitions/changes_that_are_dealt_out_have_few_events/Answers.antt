use Rattle.laws_run.proofs.TimeLines.RunEvents.{few_of_run}
use Rattle.laws_run.proofs.partitions.changes_that_are_dealt_out_have_few_events.Goals as goal

pub returns : goal.returns
returns c work workers lists events limits parts interleaved = few_of_run work workers lists events limits parts interleaved
