use Rattle.laws_run.proofs.runs.a_time_line_is_applied_by_workers.Goals as goal

pub returns : goal.returns
returns c work n events some line = record {
  dealt_out = c.lanes_deal_out_the_changes.ensures work n some;
  interleaved = line.interleaved;
}
