use Rattle.laws_begun.proofs.ReadRuns.{is_followable}
use Rattle.laws_begun.proofs.a_run_of_what_was_read_can_be_followed.Goals as goal

pub returns : goal.returns
returns c given work events read hooks addresses ends = is_followable given work read events hooks addresses ends
