use Rattle.laws_run.proofs.TimeLines.Partition.{is_partition}
use Rattle.laws_run.proofs.time_lines_without_waits.lanes_deal_out_the_changes.Goals as goal

pub returns : goal.returns
returns c work n some = is_partition work n some
