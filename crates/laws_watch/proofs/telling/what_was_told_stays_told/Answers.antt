use Rattle.laws_watch.proofs.Fronts.{front_bytes, front_state}
use Rattle.laws_watch.proofs.LastRow.{front_of_stream}
use Rattle.laws_watch.proofs.telling.what_was_told_stays_told.Goals as goal

pub returns-clause-bytes : goal.returns-clause-bytes
returns-clause-bytes c = front_bytes

pub returns-clause-state : goal.returns-clause-state
returns-clause-state c = front_state

pub returns-clause-stream : goal.returns-clause-stream
returns-clause-stream c = front_of_stream
