use Rattle.laws_watch.proofs.Streams.{stream-no_command, stream-plain}
use Rattle.laws_watch.proofs.printed.no_stream_steers.Goals as goal

pub returns-clause-plain : goal.returns-clause-plain
returns-clause-plain c looks find lines verdict = stream-plain looks find lines verdict

pub returns-clause-command : goal.returns-clause-command
returns-clause-command c looks find lines verdict = stream-no_command looks find lines verdict
