use Rattle.std.proofs.Common.{arith}
use Rattle.std.proofs.lemmas.Grind.{text_groups}
use Rattle.input_graph.proofs.targets.Targets.new.Goals as goal

pub loop-from-preserved : goal.loop-from-preserved
loop-from-preserved c = grind (arith, text_groups)
