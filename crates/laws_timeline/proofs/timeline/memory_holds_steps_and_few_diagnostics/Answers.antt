use Rattle.laws_timeline.proofs.StoredBytes.{bytes_allowed}
use Rattle.laws_timeline.proofs.timeline.memory_holds_steps_and_few_diagnostics.Goals as goal

pub returns : goal.returns
returns c = bytes_allowed
