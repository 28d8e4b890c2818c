use Rattle.std.proofs.Common.{rules, sym}
use Rattle.apply_address.proofs.Quotes.{content-end, content-more}
use Rattle.apply_address.proofs.quoted.unescaped.Goals as goal

pub loop-character-preserved-in_ok-push : goal.loop-character-preserved-in_ok-push
loop-character-preserved-in_ok-push c = record {
  text = search rules;
  so_far = content-more _ _ _ _ _ _ (sym c.in-Some.ensures.value) c.in-Some.ensures.shorter (search rules) c.loop-character.invariant.so_far;
}

pub loop-character-preserved : goal.loop-character-preserved
loop-character-preserved c = record {
  text = search rules;
  so_far = content-more _ _ _ _ _ _ (sym c.in-Some.ensures.value) c.in-Some.ensures.shorter (search rules) c.loop-character.invariant.so_far;
}

pub returns : goal.returns
returns c = content-end _ _ _ (search rules) c.loop-character.invariant.so_far
