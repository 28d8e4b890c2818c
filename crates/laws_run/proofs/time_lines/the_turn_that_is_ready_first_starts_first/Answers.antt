use Rattle.laws_run.proofs.Queued.{is_next}
use Rattle.laws_run.proofs.time_lines.the_turn_that_is_ready_first_starts_first.Goals as goal

pub returns : goal.returns
returns c w n later before one some is = is_next w n some later before one is
