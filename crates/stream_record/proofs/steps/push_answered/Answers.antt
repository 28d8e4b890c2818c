use Rattle.term_words.proofs.Appended.{text_then}
use Rattle.stream_record.proofs.steps.push_answered.Goals as goal

pub returns : goal.returns
returns c =
    let begin = c.args.text.now in
    let seconds = text_then begin c.text.new.self c.number.new.self _ _ c.text.ensures c.number.ensures in
    let ending = text_then begin c.number.new.self c.push_ending.new.text _ _ seconds c.push_ending.ensures in
    let provisioners = text_then begin c.push_ending.new.text c.push_provisioners.new.text _ _
    ending c.push_provisioners.ensures in
    let waits = text_then begin c.push_provisioners.new.text c.push_waits.new.text _ _
    provisioners c.push_waits.ensures in
    text_then begin c.push_waits.new.text c.text-2.new.self _ _ waits c.text-2.ensures
