use Rattle.std.proofs.Common.{◌-◌, List}
use Rattle.stream_check.specs.Checking.{HasRead}
use Rattle.stream_check.specs.Message.{Message}
use Rattle.stream_check.proofs.FromReader.{Leads}
use Rattle.stream_check.proofs.verdict.from_reader.check_with.Given as goal

abbrev pub invariant-lines : goal.invariant-lines
invariant-lines g l = record {
  known : (messages : List Message) × HasRead l.checker messages × Leads l.mode (g.R.Read.remaining l.initial.reader) (g.R.Read.remaining l.reader) messages;
}

abbrev pub decreases-lines : goal.decreases-lines
decreases-lines g l = 4294967296 - l.checker.tally.lines
