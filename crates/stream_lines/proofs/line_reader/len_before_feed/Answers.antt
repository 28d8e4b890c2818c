use Rattle.std.proofs.Common.{length, arith}
use Rattle.stream_lines.proofs.Feeds.{before_feed}
use Rattle.stream_lines.proofs.line_reader.len_before_feed.Goals as goal

pub returns-in-Some-clause-before : goal.returns-in-Some-clause-before
returns-in-Some-clause-before c =
    let found = c.in-Some.ensures in
    before_feed c.args.bytes.now c.in-Some.len (omega (arith, found.0.high)) found.0.before

pub returns-in-None-clause-before : goal.returns-in-None-clause-before
returns-in-None-clause-before c = before_feed c.args.bytes.now (length c.args.bytes.now) (omega arith) c.in-None.ensures
