use Rattle.std.proofs.Common.{ap, map, string_bytes, ◌∙◌}
use Rattle.term_words.proofs.Appended.{text_as, text_then}
use Rattle.stream_watch.specs.FurtherLines.{further_lines}
use Rattle.stream_watch.specs.State.{line_at, looks_of, state_of}
use Rattle.stream_watch.specs.declared.looks.Looks.{Looks}
use Rattle.stream_watch.specs.declared.mark.Mark.TheVariants as mark
use Rattle.stream_watch.proofs.watcher.Watcher.text_of_lines.Goals as goal

pub returns : goal.returns
returns c =
    let w0 = c.args.self.now in
    let w1 = c.line.new.self in
    let w2 = c.further_lines.new.self in
    let looks = looks_of w0 in
    let rest = map string_bytes c.args.rest.now in
    let first = c.line.ensures c.args.first.now c.text_of-text.ensures in
    let second = c.further_lines.ensures in
    record {
      looks = second.looks ∙ first.looks;
      find = second.find ∙ first.find;
      state = second.state ∙ first.state;
      bytes = text_then w0.printer.printed w1.printer.printed w2.printer.printed (line_at looks (state_of w0) mark.Other c.args.first.now) (further_lines looks mark.Other rest) first.bytes
          (text_as w1.printer.printed w2.printer.printed _ _ (ap (λ (looks : Looks). further_lines looks mark.Other rest) first.looks) second.bytes);
    }
