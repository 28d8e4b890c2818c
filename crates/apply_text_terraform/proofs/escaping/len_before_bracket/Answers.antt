use Rattle.std.proofs.Common.{length, arith}
use Rattle.memchr.specs.Find.{is_byte3}
use Rattle.apply_text_terraform.proofs.Escapes.{none_before}
use Rattle.apply_text_terraform.proofs.escaping.len_before_bracket.Goals as goal

pub returns-in-Some-clause-none : goal.returns-in-Some-clause-none
returns-in-Some-clause-none c =
    let found = c.in-Some.ensures in
    none_before (is_byte3 60 62 38) c.in-Some.len c.args.text.now found.0.before (omega (arith, found.0.high))

pub returns-in-None-clause-none : goal.returns-in-None-clause-none
returns-in-None-clause-none c = none_before (is_byte3 60 62 38) (length c.args.text.now) c.args.text.now c.in-None.ensures (omega arith)
