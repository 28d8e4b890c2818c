use Rattle.std.proofs.Common.{rules, ◌∙◌}
use Rattle.apply_address.proofs.Numbers.{whole_number-err, whole_number-odd, whole_number-ok}
use Rattle.apply_address.proofs.number.whole_number.Goals as goal

pub returns-in_err-number : goal.returns-in_err-number
returns-in_err-number c = c.from_residual.ensures ∙ whole_number-err c.args.text.now c.parse.result c.parse.ensures.value.0 (search rules)

pub returns-then-is_canonical : goal.returns-then-is_canonical
returns-then-is_canonical c = search (rules, whole_number-ok c.args.text.now c.parse.result c.in_ok-number.number c.parse.ensures.value.0 (search rules) (search rules))

pub returns-else-is_canonical : goal.returns-else-is_canonical
returns-else-is_canonical c = whole_number-odd c.args.text.now (search rules)
