use Rattle.std.proofs.Common.{rules}
use Rattle.term_text.proofs.Texts.{read-more, all_read}
use Rattle.term_text.proofs.readable_text.readable.Goals as goal

pub loop-rest-preserved : goal.loop-rest-preserved
loop-rest-preserved c =
    let pushed = c.in_ok-push.ensures.bytes in
    read-more _ _ _ _ _ _ (search rules) c.first_piece-piece.ensures.character c.first_piece-piece.ensures.size
    (rw (← c.unwrap_or.ensures) pushed) c.loop-rest.invariant

pub returns : goal.returns
returns c = all_read _ _ _ (search rules) c.loop-rest.invariant
