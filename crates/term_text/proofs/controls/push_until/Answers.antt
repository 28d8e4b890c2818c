use Rattle.std.proofs.Common.{◌++◌, ap, arith, sym, rules, string_bytes}
use Rattle.std.proofs.lemmas.List.{take_all}
use Rattle.term_text.proofs.Texts.{added-more, kept-more, shown_text-after}
use Rattle.term_text.proofs.controls.push_until.Goals as goal

pub loop-text-init : goal.loop-text-init
loop-text-init c = record {
  added = ap (λ shown. string_bytes c.args.text.now ++ shown) (sym (shown_text-after c.args.bytes.now));
  kept = take_all _ _ (omega arith);
}

pub loop-text-preserved : goal.loop-text-preserved
loop-text-preserved c = record {
  added =
      added-more c.loop-text.start _ _ _ _ _ _ _ (search rules) c.first_piece-piece.ensures.character c.first_piece-piece.ensures.size
      c.in_ok-push_piece.ensures c.after-start.ensures c.loop-text.invariant.added;
  kept = rw c.in_ok-push_piece.ensures (kept-more _ _ _ c.loop-text.invariant.kept);
}
