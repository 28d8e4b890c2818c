use Rattle.std.proofs.Common.{arith}
use Rattle.bstr.proofs.lemmas.PieceLemmas.{piece-bounds}
use Rattle.term_text.proofs.piece.first_piece.Goals as goal

pub returns-in-Some-default-clause-some : goal.returns-in-Some-default-clause-some
returns-in-Some-default-clause-some c =
    let bounds = piece-bounds c.args.bytes.now c.requires in
    omega (arith, c.decode.ensures.size)

pub returns-in-Some-default-clause-within : goal.returns-in-Some-default-clause-within
returns-in-Some-default-clause-within c =
    let bounds = piece-bounds c.args.bytes.now c.requires in
    omega (arith, c.decode.ensures.size)
