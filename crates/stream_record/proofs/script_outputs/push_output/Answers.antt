use Rattle.std.proofs.Common.{ap}
use Rattle.std.specs.Prelude.{codes}
use Rattle.term_words.proofs.Appended.{text_as, text_then}
use Rattle.stream_record.proofs.Remains.{then_as}
use Rattle.stream_record.specs.Parts.{json_text, raw_member}
use Rattle.stream_record.proofs.script_outputs.push_output.Goals as goal

pub returns : goal.returns
returns c =
    let begin = c.args.text.now in
    let named = text_then begin c.json_string.new.self c.text.new.self _ _
    (text_as begin c.json_string.new.self _ _ (ap json_text c.as_str.ensures) c.json_string.ensures) c.text.ensures in
    let sensitive = then_as begin c.text.new.self c.text-2.new.self _ _ _
    c.flag_text.ensures named c.text-2.ensures in
    let typed = text_then begin c.text-2.new.self c.text-3.new.self _ _ sensitive c.text-3.ensures in
    let type = then_as begin c.text-3.new.self c.text-4.new.self _ _ _
    c.as_str-2.ensures typed c.text-4.ensures in
    let value = then_as begin c.text-4.new.self c.push_raw_member.new.text _ _ _
    (ap (raw_member (codes ",\"value\":")) c.as_text.ensures) type c.push_raw_member.ensures in
    text_then begin c.push_raw_member.new.text c.text-5.new.self _ _ value c.text-5.ensures
