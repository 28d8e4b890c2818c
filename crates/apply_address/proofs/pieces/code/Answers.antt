use Rattle.std.proofs.Common.{rules, arith}
use Rattle.apply_address.proofs.Digits.{digits_boundary}
use Rattle.apply_address.proofs.pieces.code.Goals as goal

pub range_from-requires : goal.range_from-requires
range_from-requires c = λ some. digits_boundary c.args.text.now c.args.count c.in_ok-code.code c.utf8.text (omega arith) (search rules) some
