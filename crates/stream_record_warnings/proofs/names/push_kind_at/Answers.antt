use Rattle.std.proofs.Common.{ap}
use Rattle.std.specs.Prelude.{codes}
use Rattle.term_text.specs.Shown.{shown_text}
use Rattle.term_words.proofs.Appended.{text_as, text_then}
use Rattle.stream_record_warnings.proofs.TextLemmas.{then_as}
use Rattle.stream_record_warnings.proofs.names.push_kind_at.Goals as goal

pub returns : goal.returns
returns c =
    let address = then_as c.text.new.self c.text-2.new.self c.escaped.new.self (codes " of ") _ _ (ap shown_text c.as_bytes.ensures.value) c.text-2.ensures c.escaped.ensures in
    text_then c.args.text.now c.text.new.self c.escaped.new.self _ _ (text_as c.args.text.now c.text.new.self _ _ c.kind_word.ensures c.text.ensures) address
