use Rattle.std.proofs.Common.{ap}
use Rattle.std.specs.Prelude.{codes}
use Rattle.term_words.proofs.Appended.{text_then}
use Rattle.stream_record.proofs.Remains.{then_as}
use Rattle.stream_record.specs.Parts.{json_text, text_member}
use Rattle.stream_record.proofs.waits.push_wait_object.Goals as goal

pub returns : goal.returns
returns c =
    let begin = c.args.text.now in
    let address = then_as begin c.text.new.self c.json_string.new.self _ _ _
    (ap json_text c.address.ensures) c.text.ensures c.json_string.ensures in
    let deposed = then_as begin c.json_string.new.self c.push_text_member.new.text _ _ _
    (ap (text_member (codes ",\"deposed\":")) c.deposed.ensures) address c.push_text_member.ensures in
    let number = text_then begin c.push_text_member.new.text c.push_number.new.text _ _
    deposed c.push_number.ensures in
    text_then begin c.push_number.new.text c.text-2.new.self _ _ number c.text-2.ensures
