use Rattle.term_words.proofs.Appended.{text_then}
use Rattle.term_words.proofs.message_text.MessageText.quantity.Goals as goal

pub returns : goal.returns
returns c =
    let s1 = text_then c.args.self.now c.number.new.self c.text.new.self _ _ c.number.ensures c.text.ensures in
    s1
