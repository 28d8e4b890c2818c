use Rattle.std.proofs.Common.{ℕ, ap, refl, sym, ◌∙◌}
use Rattle.term_words.proofs.Appended.{text_as, text_none}
use Rattle.stream_watch.specs.Printed.{line_bytes}
use Rattle.stream_watch.specs.State.{looks_of, state_of}
use Rattle.stream_watch.proofs.LinesAt.{hidden_line, shown_line}
use Rattle.stream_watch.proofs.Tellings.{looks_same}
use Rattle.stream_watch.proofs.watcher.Watcher.line.Goals as goal

pub returns-then-not-hides : goal.returns-then-not-hides
returns-then-not-hides c = λ words has.
    let old = c.args.self.now in
    let told = c.line.ensures words has in
    let shown = shown_line (looks_of old) (state_of old) c.args.mark words (sym c.hides.ensures ∙ c.if-not-hides.true) in
    record {
      looks = looks_same old (record old { printer = c.line.new.self }) _ refl told;
      find = refl;
      state = refl;
      bytes = text_as old.printer.printed c.line.new.self.printed _ _
          (ap (λ (elapsed : ℕ). line_bytes old.printer.width old.printer.has_colour elapsed c.args.mark words) c.elapsed.ensures ∙ sym shown) told.printed;
    }

pub returns-else-not-hides : goal.returns-else-not-hides
returns-else-not-hides c = λ words has.
    let old = c.args.self.now in
    let hidden = hidden_line (looks_of old) (state_of old) c.args.mark words (sym c.hides.ensures ∙ c.if-not-hides.false) in
    record {
      looks = refl;
      find = refl;
      state = refl;
      bytes = text_as old.printer.printed old.printer.printed _ _ (sym hidden) (text_none old.printer.printed);
    }
