use Rattle.term_text.proofs.Longest.{front_of-IsUtf8, front_of-longest}
use Rattle.term_text.proofs.laws.a_front_of_text_is_text.Goals as goal

pub returns : goal.returns
returns c = record { text = front_of-IsUtf8; longest = front_of-longest }
