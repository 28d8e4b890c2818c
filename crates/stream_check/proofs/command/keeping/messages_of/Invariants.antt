use Rattle.stream_check.proofs.Kept.{AreKept}
use Rattle.stream_check.proofs.command.keeping.messages_of.Given as goal

abbrev pub invariant-lines : goal.invariant-lines
invariant-lines l = AreKept l.fn.bytes l.rest l.messages.items
