use Rattle.term_words.proofs.Appended.{text_then}
use Rattle.term_words.proofs.message_text.MessageText.add_right.Goals as goal

pub returns : goal.returns
returns c words is = text_then c.args.self.now c.blanks_before.new.self c.add.new.self _ _ (c.blanks_before.ensures words is) (c.add.ensures words is)
