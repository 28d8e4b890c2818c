use Rattle.apply_events.specs.Waits.Schedule.{schedule}
use Rattle.laws_run.proofs.InVain.{leave_out, none_without_need}
use Rattle.laws_run.proofs.LeftOut.{begin_where_all_is_done, only_applied}
use Rattle.apply_events.proofs.Waits.StartedTurns.{were_started}
use Rattle.laws_run.proofs.time_lines.what_waits_in_vain_is_left_out.Goals as goal

pub returns : goal.returns
returns c = record {
  in_vain = λ w n events some few names line.
      leave_out w events few (begin_where_all_is_done w n (schedule w n) events (were_started w n some) line.interleaved few)
      (only_applied w n (schedule w n) events (were_started w n some) line.interleaved) names;
  without_need = λ w n events some few names line.
      none_without_need w events few (begin_where_all_is_done w n (schedule w n) events (were_started w n some) line.interleaved few)
      (only_applied w n (schedule w n) events (were_started w n some) line.interleaved) names;
}
