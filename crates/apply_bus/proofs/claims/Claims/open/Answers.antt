use Rattle.std.proofs.Common.{◌<◌, sym, ◌∙◌, subst, arith}
use Rattle.std.proofs.lemmas.Grind.{common_steps}
use Rattle.apply_bus.proofs.ClaimsSteps.{begins, deals, left_over, split_off}
use Rattle.apply_bus.proofs.NewDrawers.{is_new, new_view, one_more}
use Rattle.apply_bus.proofs.claims.Claims.open.Goals as goal

pub of_words-requires : goal.of_words-requires
of_words-requires c = begins _ _ (omega arith) (omega arith)

pub split_seat-theirs-requires : goal.split_seat-theirs-requires
split_seat-theirs-requires c = let made = c.in_ok-table.ensures in (
  c.loop-worker.invariant.at,
  subst (λ k. 0 < k) (sym made.0) (omega arith),
  deals _ c.args.n c.args.workers _ c.loop-worker.worker _ made.5 c.loop-worker-test.true c.loop-worker.invariant.left,
)

pub invariant_of-drawer : goal.invariant_of-drawer
invariant_of-drawer c = is_new c.loop-worker.worker c.args.n c.args.workers c.split_seat-theirs.result
    (split_off c.args.n c.args.workers c.loop-worker.worker _ _ c.loop-worker-test.true c.loop-worker.invariant.left c.split_seat-theirs.ensures.4)

pub loop-worker-preserved : goal.loop-worker-preserved
loop-worker-preserved c = let i = c.loop-worker.invariant in let e = c.split_seat-theirs.ensures in record {
  at = e.0 ∙ i.at;
  left = left_over c.args.n c.args.workers c.loop-worker.worker _ _ c.loop-worker-test.true i.left e.2;
  made = one_more _ c.loop-worker.worker _ _ _ i.made (grind (arith, common_steps))
      (new_view c.loop-worker.worker c.args.n c.args.workers c.split_seat-theirs.result _ (split_off c.args.n c.args.workers c.loop-worker.worker _ _ c.loop-worker-test.true i.left e.4) (e.3 ∙ i.at));
}
