use Rattle.std.proofs.Common.{sym, arith}
use Rattle.std.proofs.lemmas.Grind.{get_or_default_zero}
use Rattle.term_text.proofs.Blanks.{blanks_gone}
use Rattle.term_text.proofs.shown_text.without_blanks.Goals as goal
use Rattle.term_text.proofs.shown_text.without_blanks.Goals.{then-back-test+else-characters-len-eq32, else-back-test}

pub returns : goal.returns
returns c =
    sym (blanks_gone c.args.characters.now c.back.len c.back.invariant.0 c.back.invariant.1
    (λ some is. elim c.back-test.branch [
      | then-back-test+else-characters-len-eq32 w ↦ (let bad = w.if-characters-len-eq32.false in let at = w.index-characters-len in grind (arith, get_or_default_zero))
      | else-back-test w ↦ (let none = w.back-test.false in absurd (omega (arith, none, some)))
    ]))
