use Rattle.std.proofs.Common.{◌∙◌, ap}
use Rattle.std.specs.Prelude.{codes}
use Rattle.term_text.specs.Shown.{shown_text}
use Rattle.term_words.proofs.Appended.{text_as, text_then}
use Rattle.stream_record_script.proofs.outputs.push_output_warning.Goals as goal

pub returns : goal.returns
returns c =
    let begin = c.begin.new.text in
    let last = c.text-2.new.self in
    let name = text_as c.text.new.self c.escaped.new.self _ _ (ap shown_text (c.as_bytes.ensures.value ∙ c.as_str.ensures)) c.escaped.ensures in
    let words = text_then begin c.text.new.self last (codes "the output ") _ c.text.ensures
    (text_then c.text.new.self c.escaped.new.self last _ _ name c.text-2.ensures) in
    text_then c.args.text.now begin c.end.new.text _ _ c.begin.ensures (text_then begin last c.end.new.text _ _ words c.end.ensures)
