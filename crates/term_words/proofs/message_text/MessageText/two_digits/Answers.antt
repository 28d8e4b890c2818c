use Rattle.term_words.proofs.Appended.{text_then}
use Rattle.term_words.proofs.message_text.MessageText.two_digits.Goals as goal

pub returns : goal.returns
returns c =
    let s1 = text_then c.args.self.now c.number.new.self c.number-2.new.self _ _ c.number.ensures c.number-2.ensures in
    s1
