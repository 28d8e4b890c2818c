use Rattle.std.proofs.Common.{refl}
use Rattle.stream_play.proofs.Sent.{memory_played}
use Rattle.stream_play.proofs.command.tool.PlayTool.without_memory.Goals as goal

pub returns-clause-gives : goal.returns-clause-gives
returns-clause-gives g c = λ settings given before after keeps. (memory_played settings.run settings.find given before after keeps, refl)
