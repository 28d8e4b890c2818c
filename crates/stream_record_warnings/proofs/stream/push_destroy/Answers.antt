use Rattle.std.proofs.Common.{ap, sym}
use Rattle.std.specs.Prelude.{codes}
use Rattle.stream_record_warnings.specs.StreamWarnings.{destroy_warning}
use Rattle.term_words.proofs.Appended.{text_as, text_then}
use Rattle.stream_record_warnings.proofs.stream.push_destroy.Goals as goal

pub returns-then-is_destroy : goal.returns-then-is_destroy
returns-then-is_destroy c =
    text_as c.args.text.now c.end.new.text _ _ (ap destroy_warning (sym c.if-is_destroy.true))
    (text_then c.args.text.now c.begin.new.text c.end.new.text (codes "applystream: warning: ") _ c.begin.ensures
    (text_then c.begin.new.text c.text.new.self c.end.new.text _ (codes "\n") c.text.ensures c.end.ensures))
