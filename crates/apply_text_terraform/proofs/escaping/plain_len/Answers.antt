use Rattle.std.proofs.Common.{arith}
use Rattle.apply_text_terraform.proofs.Escapes.{both_searches, searched_front}
use Rattle.apply_text_terraform.proofs.escaping.plain_len.Goals as goal

pub returns-clause-plain : goal.returns-clause-plain
returns-clause-plain c =
    let bracket = c.len_before_bracket-bracket in
    let separator = c.len_before_separator in
    searched_front c.min.result bracket.result separator.result c.args.text.now bracket.ensures.within separator.ensures.within (omega (arith, c.min.ensures))
    (both_searches bracket.result separator.result _ bracket.ensures.none separator.ensures.none)
