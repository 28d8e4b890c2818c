use Rattle.std.proofs.Common.{◌≡◌, ◌∙◌, ◌++◌, List, ℕ, Some, ap, subst}
use Rattle.stream_lines.specs.Reading.{Gives}
use Rattle.stream_lines.specs.declared.line.LineEnd.{LineEnd}
use Rattle.stream_message.specs.Located.{found_line}
use Rattle.stream_check.proofs.Kept.{kept_on, kept_too_long}
use Rattle.stream_check.proofs.command.keeping.messages_of.Goals as goal

pub returns-in-TooLong : goal.returns-in-TooLong
returns-in-TooLong c =
    let line = c.next_line.new.line.items in
    let rest = Some c.next_line.new.reader.now in
    kept_too_long c.args.bytes.now c.lines.rest.now line c.lines.messages.items rest c.lines.invariant
    (subst (λ (w : LineEnd). Gives w line rest c.lines.rest.now) c.in-TooLong.is c.in-Ok.ensures)

pub lines-preserved : goal.lines-preserved
lines-preserved c =
    let line = c.next_line.new.line.items in
    let rest = c.next_line.new.reader.now in
    kept_on c.args.bytes.now c.lines.rest.now rest line c.lines.messages.items c.add_message.new.messages.items c.in-Line.has_feed c.lines.invariant
    (subst (λ (w : LineEnd). Gives w line (Some rest) c.lines.rest.now) c.in-Line.is c.in-Ok.ensures)
    (c.in-Ok-add_message.ensures ∙ ap (λ (l : List ℕ). c.lines.messages.items ++ found_line l) c.deref.ensures.value)
