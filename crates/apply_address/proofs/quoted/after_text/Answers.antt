use Rattle.std.proofs.Common.{rules, arith, sym}
use Rattle.apply_address.proofs.Quotes.{left-end, left-more}
use Rattle.apply_address.proofs.quoted.after_text.Goals as goal

pub loop-remainder-preserved : goal.loop-remainder-preserved
loop-remainder-preserved c = record {
  text = search rules;
  left = left-more _ _ _ _ (sym c.in-Some.ensures.value) c.in-Some.ensures.shorter c.loop-remainder.invariant.left;
  no_longer = omega (arith, c.in-Some.ensures.shorter, c.loop-remainder.invariant.no_longer);
}

pub returns-clause-value : goal.returns-clause-value
returns-clause-value c = left-end _ _ (search rules) c.loop-remainder.invariant.left
