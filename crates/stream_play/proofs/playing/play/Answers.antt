-- The next of what the reader gives, by what it is.
use Rattle.std.proofs.Common.{subst, arith}
use Rattle.std.specs.Prelude.{IfSome}
use Rattle.std.specs.Io.Buffered.{reader_remaining}
use Rattle.stream_lines.specs.Reading.{Gives}
use Rattle.stream_lines.specs.declared.line.LineEnd.{LineEnd}
use Rattle.stream_play.proofs.Written.{ends, ends_there, kept, line_failed, one_more, starts, too_long, too_many, unread}
use Rattle.stream_play.proofs.playing.play.Goals as goal

pub lines-init : goal.lines-init
lines-init g c = starts c.args.find (reader_remaining g.R.Read.remaining c.args.reader.now) (g.W.Write.contents c.args.output.now)

pub returns-in-Err-clause-played : goal.returns-in-Err-clause-played
returns-in-Err-clause-played g c =
    unread c.args.find c.in-Err.fault (reader_remaining g.R.Read.remaining c.args.reader.now) (reader_remaining g.R.Read.remaining c.lines.reader) c.lines.before
    (g.W.Write.contents c.args.output.now) (g.W.Write.contents c.lines.output) (g.W.Write.contents c.read_next.new.output)
    c.lines.invariant c.in-Err.ensures.bytes c.in-Err.ensures.refused

pub returns-in-End-clause-played : goal.returns-in-End-clause-played
returns-in-End-clause-played g c =
    let all = reader_remaining g.R.Read.remaining c.args.reader.now in
    let left = reader_remaining g.R.Read.remaining c.lines.reader in
    let rest = reader_remaining g.R.Read.remaining c.read_next.new.reader in
    let gives = subst (λ (w : LineEnd). IfSome left (Gives w c.read_next.new.line.items rest)) c.in-End.is c.in-Ok.ensures.next in
    ends c.args.find all left rest c.lines.before (g.W.Write.contents c.args.output.now) (g.W.Write.contents c.read_next.new.output) c.read_next.new.line.items
    (kept c.args.find all left c.lines.before (g.W.Write.contents c.args.output.now) (g.W.Write.contents c.lines.output) (g.W.Write.contents c.read_next.new.output) c.lines.invariant c.in-Ok.ensures.bytes) gives

pub returns-in-End-clause-at_end : goal.returns-in-End-clause-at_end
returns-in-End-clause-at_end g c =
    let all = reader_remaining g.R.Read.remaining c.args.reader.now in
    let left = reader_remaining g.R.Read.remaining c.lines.reader in
    let rest = reader_remaining g.R.Read.remaining c.read_next.new.reader in
    let gives = subst (λ (w : LineEnd). IfSome left (Gives w c.read_next.new.line.items rest)) c.in-End.is c.in-Ok.ensures.next in
    ends_there c.args.find all left rest c.lines.before (g.W.Write.contents c.args.output.now) (g.W.Write.contents c.lines.output) c.read_next.new.line.items c.lines.invariant gives

pub returns-in-TooLong-clause-played : goal.returns-in-TooLong-clause-played
returns-in-TooLong-clause-played g c =
    let all = reader_remaining g.R.Read.remaining c.args.reader.now in
    let left = reader_remaining g.R.Read.remaining c.lines.reader in
    let rest = reader_remaining g.R.Read.remaining c.read_next.new.reader in
    let gives = subst (λ (w : LineEnd). IfSome left (Gives w c.read_next.new.line.items rest)) c.in-TooLong.is c.in-Ok.ensures.next in
    too_long c.args.find all left rest c.lines.before (g.W.Write.contents c.args.output.now) (g.W.Write.contents c.read_next.new.output) c.read_next.new.line.items
    (kept c.args.find all left c.lines.before (g.W.Write.contents c.args.output.now) (g.W.Write.contents c.lines.output) (g.W.Write.contents c.read_next.new.output) c.lines.invariant c.in-Ok.ensures.bytes) gives

pub lines-preserved : goal.lines-preserved
lines-preserved g c =
    let all = reader_remaining g.R.Read.remaining c.args.reader.now in
    let left = reader_remaining g.R.Read.remaining c.lines.reader in
    let rest = reader_remaining g.R.Read.remaining c.read_next.new.reader in
    let gives = subst (λ (w : LineEnd). IfSome left (Gives w c.read_next.new.line.items rest)) c.in-Line.is c.in-Ok.ensures.next in
    one_more c.args.find all left rest c.lines.before (g.W.Write.contents c.args.output.now) (g.W.Write.contents c.read_next.new.output) (g.W.Write.contents c.play_line.new.output) c.read_next.new.line.items c.in-Line.has_feed
    (kept c.args.find all left c.lines.before (g.W.Write.contents c.args.output.now) (g.W.Write.contents c.lines.output) (g.W.Write.contents c.read_next.new.output) c.lines.invariant c.in-Ok.ensures.bytes) gives c.in-Ok-play_line.ensures

pub returns-in-Err-play_line-clause-played : goal.returns-in-Err-play_line-clause-played
returns-in-Err-play_line-clause-played g c =
    let all = reader_remaining g.R.Read.remaining c.args.reader.now in
    let left = reader_remaining g.R.Read.remaining c.lines.reader in
    let rest = reader_remaining g.R.Read.remaining c.read_next.new.reader in
    let gives = subst (λ (w : LineEnd). IfSome left (Gives w c.read_next.new.line.items rest)) c.in-Line.is c.in-Ok.ensures.next in
    line_failed c.args.find c.in-Err-play_line.fault all left rest c.lines.before (g.W.Write.contents c.args.output.now) (g.W.Write.contents c.read_next.new.output) (g.W.Write.contents c.play_line.new.output) c.read_next.new.line.items c.in-Line.has_feed
    (kept c.args.find all left c.lines.before (g.W.Write.contents c.args.output.now) (g.W.Write.contents c.lines.output) (g.W.Write.contents c.read_next.new.output) c.lines.invariant c.in-Ok.ensures.bytes) gives c.in-Err-play_line.ensures

pub returns-clause-played : goal.returns-clause-played
returns-clause-played g c =
    too_many c.args.find (reader_remaining g.R.Read.remaining c.args.reader.now) (reader_remaining g.R.Read.remaining c.lines.reader) c.lines.before (g.W.Write.contents c.args.output.now) (g.W.Write.contents c.lines.output) (omega arith) c.lines.invariant
