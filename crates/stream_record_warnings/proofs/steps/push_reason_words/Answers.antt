use Rattle.std.proofs.Common.{◌∙◌, ap, sym}
use Rattle.std.specs.Prelude.{codes}
use Rattle.term_text.specs.Shown.{shown_text}
use Rattle.stream_record_warnings.specs.StepWarnings.{reason_words}
use Rattle.term_words.proofs.Appended.{text_as, text_then}
use Rattle.stream_record_warnings.proofs.steps.push_reason_words.Goals as goal

pub returns-in-TooLong : goal.returns-in-TooLong
returns-in-TooLong c =
    let last = c.text-in-TooLong-2.new.self in
    text_as c.args.text.now last _ _ (ap reason_words (sym c.in-TooLong.is))
    (text_then c.args.text.now c.text-in-TooLong.new.self last (codes " took ") _ c.text-in-TooLong.ensures
    (text_then c.text-in-TooLong.new.self c.number.new.self last _ _ c.number.ensures c.text-in-TooLong-2.ensures))

pub returns-in-TooManyProvisioners : goal.returns-in-TooManyProvisioners
returns-in-TooManyProvisioners c =
    let last = c.text-in-TooManyProvisioners-2.new.self in
    text_as c.args.text.now last _ _ (ap reason_words (sym c.in-TooManyProvisioners.is))
    (text_then c.args.text.now c.text-in-TooManyProvisioners.new.self last (codes " has ") _ c.text-in-TooManyProvisioners.ensures
    (text_then c.text-in-TooManyProvisioners.new.self c.number-in-TooManyProvisioners.new.self last _ _ c.number-in-TooManyProvisioners.ensures c.text-in-TooManyProvisioners-2.ensures))

pub returns-in-TooMuchOutput : goal.returns-in-TooMuchOutput
returns-in-TooMuchOutput c =
    let last = c.text-in-TooMuchOutput-2.new.self in
    text_as c.args.text.now last _ _ (ap reason_words (sym c.in-TooMuchOutput.is))
    (text_then c.args.text.now c.text-in-TooMuchOutput.new.self last (codes " has a provisioner with ") _ c.text-in-TooMuchOutput.ensures
    (text_then c.text-in-TooMuchOutput.new.self c.number-in-TooMuchOutput.new.self last _ _ c.number-in-TooMuchOutput.ensures c.text-in-TooMuchOutput-2.ensures))

pub returns-in-OtherId : goal.returns-in-OtherId
returns-in-OtherId c =
    let last = c.text-in-OtherId-2.new.self in
    let key = text_as c.text-in-OtherId.new.self c.escaped.new.self _ _ (ap shown_text (c.as_bytes.ensures.value ∙ c.as_str.ensures)) c.escaped.ensures in
    text_as c.args.text.now last _ _ (ap reason_words (sym c.in-OtherId.is))
    (text_then c.args.text.now c.text-in-OtherId.new.self last (codes " tells ") _ c.text-in-OtherId.ensures
    (text_then c.text-in-OtherId.new.self c.escaped.new.self last _ _ key c.text-in-OtherId-2.ensures))

pub returns-in-OddProgress : goal.returns-in-OddProgress
returns-in-OddProgress c = text_as c.args.text.now c.text-in-OddProgress.new.self _ _ (ap reason_words (sym c.in-OddProgress.is)) c.text-in-OddProgress.ensures

pub returns-in-Unexplained : goal.returns-in-Unexplained
returns-in-Unexplained c = text_as c.args.text.now c.text-in-Unexplained.new.self _ _ (ap reason_words (sym c.in-Unexplained.is)) c.text-in-Unexplained.ensures

pub returns-in-ProvisionersLeftOut : goal.returns-in-ProvisionersLeftOut
returns-in-ProvisionersLeftOut c = text_as c.args.text.now c.text-in-ProvisionersLeftOut.new.self _ _ (ap reason_words (sym c.in-ProvisionersLeftOut.is)) c.text-in-ProvisionersLeftOut.ensures
