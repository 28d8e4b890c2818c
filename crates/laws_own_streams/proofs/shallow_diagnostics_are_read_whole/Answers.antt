use Rattle.laws_own_streams.proofs.ShownWhole.{shown_whole}
use Rattle.laws_own_streams.proofs.shallow_diagnostics_are_read_whole.Goals as goal

pub returns : goal.returns
returns c plan script stated events is shallow = shown_whole plan script stated events is shallow
