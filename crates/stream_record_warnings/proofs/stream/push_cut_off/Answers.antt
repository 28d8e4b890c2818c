use Rattle.std.proofs.Common.{Bool, ap, sym}
use Rattle.std.specs.Prelude.{codes}
use Rattle.stream_record_warnings.specs.StreamWarnings.{cut_off_warning}
use Rattle.term_words.proofs.Appended.{text_as, text_then}
use Rattle.stream_record_warnings.proofs.stream.push_cut_off.Goals as goal

pub returns-then-is_cut_off : goal.returns-then-is_cut_off
returns-then-is_cut_off c =
    text_as c.args.text.now c.end.new.text _ _ (ap cut_off_warning (sym c.if-is_cut_off.true))
    (text_then c.args.text.now c.begin.new.text c.end.new.text (codes "applystream: warning: ") _ c.begin.ensures
    (text_then c.begin.new.text c.text.new.self c.end.new.text _ (codes "\n") c.text.ensures c.end.ensures))
