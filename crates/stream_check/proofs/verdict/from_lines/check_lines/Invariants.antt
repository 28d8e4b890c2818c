use Rattle.std.proofs.Common.{◌≡◌, List, drop, map}
use Rattle.stream_check.specs.Checking.{HasRead}
use Rattle.stream_check.specs.Lines.{verdict_after, verdict_of}
use Rattle.stream_check.specs.Message.{Message}
use Rattle.stream_check.proofs.verdict.from_lines.check_lines.Given as goal

abbrev pub invariant-loop-number : goal.invariant-loop-number
invariant-loop-number l = record {
  count : l.checker.tally.lines ≡ l.number;
  read : (messages : List Message) × HasRead l.checker messages × (verdict_after l.mode messages (map (λ line. line.items) (drop l.number l.lines)) ≡ verdict_of l.mode (map (λ line. line.items) l.lines));
}
