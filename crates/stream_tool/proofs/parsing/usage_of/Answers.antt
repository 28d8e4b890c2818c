use Rattle.stream_tool.proofs.parsing.usage_of.Goals as goal

pub returns-then-eq : goal.returns-then-eq
returns-then-eq c = tt
