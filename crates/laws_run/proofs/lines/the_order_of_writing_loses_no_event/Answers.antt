use Rattle.laws_run.proofs.WrittenOrder.{parts_kept, totals_kept}
use Rattle.laws_run.proofs.lines.the_order_of_writing_loses_no_event.Goals as goal

pub returns : goal.returns
returns c = record { totals = totals_kept; workers = parts_kept }
