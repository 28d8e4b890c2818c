use Rattle.std.proofs.Common.{◌∙◌, ap, refl}
use Rattle.term_words.proofs.Appended.{text_as}
use Rattle.stream_watch.specs.Printed.{line_bytes, timed_lines}
use Rattle.stream_watch.proofs.printer.Printer.line.Goals as goal

pub returns-in-Ok : goal.returns-in-Ok
unfolding line_bytes
returns-in-Ok c words had =
    let is = c.deref.ensures.value ∙ c.in-Ok.ensures words had in
    record {
      width = refl;
      has_colour = refl;
      printed = text_as c.args.self.now.printed c.push_timed_lines.new.out _ _ (ap (timed_lines c.args.self.now.has_colour c.args.elapsed c.args.mark) is) c.push_timed_lines.ensures;
    }
