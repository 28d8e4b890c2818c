use Rattle.std.proofs.Common.{ap}
use Rattle.std.specs.Prelude.{codes}
use Rattle.term_words.proofs.Appended.{text_then}
use Rattle.stream_record.proofs.Remains.{then_as}
use Rattle.stream_record.specs.Parts.{json_text}
use Rattle.stream_record.specs.ScriptText.{diag_member}
use Rattle.stream_record.proofs.provisioners.push_provisioner.Goals as goal

pub returns : goal.returns
returns c =
    let begin = c.args.text.now in
    let name = then_as begin c.text.new.self c.json_string.new.self _ _ _
    (ap json_text c.as_str.ensures) c.text.ensures c.json_string.ensures in
    let named = text_then begin c.json_string.new.self c.text-2.new.self _ _ name c.text-2.ensures in
    let seconds = text_then begin c.text-2.new.self c.number.new.self _ _ named c.number.ensures in
    let printed = text_then begin c.number.new.self c.push_printed.new.text _ _
    seconds c.push_printed.ensures in
    let failed = then_as begin c.push_printed.new.text c.push_diag_member.new.text _ _ _
    (ap (diag_member (codes ",\"failed\":{")) c.as_ref.ensures.value) printed c.push_diag_member.ensures in
    let may_fail = text_then begin c.push_diag_member.new.text c.push_may_fail.new.text _ _
    failed c.push_may_fail.ensures in
    text_then begin c.push_may_fail.new.text c.text-3.new.self _ _ may_fail c.text-3.ensures
