use Rattle.term_text.proofs.Plain.{cut_text-within}
use Rattle.term_text.proofs.laws.a_cut_text_has_room.Goals as goal

pub returns : goal.returns
returns c = cut_text-within
