use Rattle.std.proofs.Common.{ap}
use Rattle.std.specs.Prelude.{codes}
use Rattle.term_words.proofs.Appended.{text_then}
use Rattle.stream_record.proofs.Remains.{then_as}
use Rattle.stream_record.specs.Parts.{json_text, raw_member}
use Rattle.stream_record.specs.ScriptText.{detail_text}
use Rattle.stream_record.proofs.diagnostics.push_diag.Goals as goal

pub returns : goal.returns
returns c =
    let begin = c.args.text.now in
    let named = text_then begin c.text.new.self c.text-2.new.self _ _ c.text.ensures c.text-2.ensures in
    let summary = then_as begin c.text-2.new.self c.json_string.new.self _ _ _
    (ap json_text c.as_str.ensures) named c.json_string.ensures in
    let detail = then_as begin c.json_string.new.self c.push_detail.new.text _ _ _
    (ap detail_text c.as_str-2.ensures) summary c.push_detail.ensures in
    let address = text_then begin c.push_detail.new.text c.push_text_member.new.text _ _
    detail c.push_text_member.ensures in
    let range = then_as begin c.push_text_member.new.text c.push_raw_member.new.text _ _ _
    (ap (raw_member (codes ",\"range\":")) c.as_text.ensures) address c.push_raw_member.ensures in
    let snippet = then_as begin c.push_raw_member.new.text c.push_raw_member-2.new.text _ _ _
    (ap (raw_member (codes ",\"snippet\":")) c.as_text-2.ensures) range c.push_raw_member-2.ensures in
    text_then begin c.push_raw_member-2.new.text c.text-3.new.self _ _ snippet c.text-3.ensures
