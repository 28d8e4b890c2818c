use Rattle.term_text.proofs.columns.width_of.Goals as goal

pub returns : goal.returns
returns c = c.width.ensures.value
