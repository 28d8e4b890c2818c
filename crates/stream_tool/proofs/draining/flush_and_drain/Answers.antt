use Rattle.stream_tool.proofs.draining.flush_and_drain.Goals as goal

pub returns-clause-read : goal.returns-clause-read
returns-clause-read g c awaited = c.drain.ensures
