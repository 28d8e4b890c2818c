use Rattle.std.proofs.Common.{◌∙◌, None, ap, refl}
use Rattle.term_words.proofs.Appended.{text_as}
use Rattle.stream_watch.specs.Printed.{further_bytes, later_lines}
use Rattle.stream_watch.proofs.printer.Printer.further.Goals as goal

pub returns-in-Ok : goal.returns-in-Ok
unfolding further_bytes
returns-in-Ok c words had =
    let is = c.deref.ensures.value ∙ c.in-Ok.ensures words had in
    record {
      width = refl;
      has_colour = refl;
      printed = text_as c.args.self.now.printed c.push_later_lines.new.out _ _ (ap (later_lines c.args.self.now.has_colour c.args.mark None) is) c.push_later_lines.ensures;
    }
