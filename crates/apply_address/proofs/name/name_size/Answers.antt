use Rattle.std.proofs.Common.{rules, arith, sym, length}
use Rattle.std.proofs.lemmas.List.Sums.{position_or_len_is}
use Rattle.apply_address.specs.Names.{is_delimiter}
use Rattle.apply_address.proofs.name.name_size.Goals as goal

pub returns-then-is_delimiter : goal.returns-then-is_delimiter
returns-then-is_delimiter c =
    sym (position_or_len_is is_delimiter c.args.bytes.now c.loop-size.size 0 (omega arith) c.loop-size.invariant (λ less. search rules))

pub returns : goal.returns
returns c =
    sym (position_or_len_is is_delimiter c.args.bytes.now (length c.args.bytes.now) 0 (omega arith) (λ k less. c.loop-size.invariant k (omega arith)) (λ less. absurd (omega arith)))
