use Rattle.input_validate.proofs.doubts.whole.doubts_of.Goals as goal

pub returns : goal.returns
returns c = c.joined.ensures _ _ c.doubts_for-all.ensures c.output_doubts.ensures
