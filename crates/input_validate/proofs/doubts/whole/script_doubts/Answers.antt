use Rattle.input_validate.proofs.doubts.whole.script_doubts.Goals as goal

pub returns : goal.returns
returns c = c.joined.ensures _ _ c.first_unheeded-unheeded.ensures c.first_needless.ensures
