use Rattle.std.proofs.Common.{ap, sym}
use Rattle.std.specs.Prelude.{codes}
use Rattle.stream_record_warnings.specs.StreamWarnings.{ephemeral_warning}
use Rattle.term_words.proofs.Appended.{text_as, text_then}
use Rattle.stream_record_warnings.proofs.stream.push_ephemeral.Goals as goal

pub returns-in-Some : goal.returns-in-Some
returns-in-Some c =
    text_as c.args.text.now c.end.new.text _ _ (ap ephemeral_warning (sym c.in-Some.is))
    (text_then c.args.text.now c.begin_line.new.text c.end.new.text _ _ c.begin_line.ensures
    (text_then c.begin_line.new.text c.text.new.self c.end.new.text _ (codes "\n") c.text.ensures c.end.ensures))
