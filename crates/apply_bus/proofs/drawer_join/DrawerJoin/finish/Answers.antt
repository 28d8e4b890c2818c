use Rattle.std.proofs.Common.{ℕ, ◌<◌, map, sym, ap, ◌∙◌, subst, arith}
use Rattle.atomic_table.specs.Table.{Me}
use Rattle.apply_events.specs.Partition.{NamesEachWorkerOnce}
use Rattle.apply_bus.specs.declared.claims_rule.Hand.{Hand}
use Rattle.apply_bus.specs.declared.claims_rule.Share.{Share}
use Rattle.apply_bus.specs.Claims.{ClaimsName, JoinedDrawers, lists_drawn, workers_of, IsDealtOut}
use Rattle.apply_bus.proofs.ClaimsSteps.{looks}
use Rattle.apply_bus.proofs.JoinedDrawers.{joined_drawers, lists_of_shares}
use Rattle.apply_bus.proofs.drawer_join.DrawerJoin.finish.Goals as goal

pub load-requires : goal.load-requires
load-requires c = (
  ap (λ (t : JoinedDrawers). t.claims.table) c.self.view_is ∙ ap (λ (i : ClaimsName). i.table) (c.requires.claims ∙ sym c.claims.view_is),
  omega arith,
  looks _ _ _ _ _,
)

pub returns-clause-lists : goal.returns-clause-lists
returns-clause-lists c =
    c.of.ensures ∙ ap (λ (m : Me ℕ Hand). map (λ (s : Share). s.drawn) m.0.shares) c.load.ensures.2.0
    ∙ lists_of_shares _ _ ∙ ap (λ (t : JoinedDrawers). lists_drawn t.drawings) c.self.view_is

pub returns-clause-dealt_out : goal.returns-clause-dealt_out
returns-clause-dealt_out c =
    let some : 0 < c.self.inside.workers = subst (λ k. 0 < k) (sym (ap (λ (t : JoinedDrawers). t.claims.workers) c.self.view_is ∙ ap (λ (i : ClaimsName). i.workers) (c.requires.claims ∙ sym c.claims.view_is))) c.claims.invariant.2 in
    subst (λ (t : JoinedDrawers). (m : ℕ) × IsDealtOut t.claims t.drawings m) c.self.view_is
    (joined_drawers _ _ c.self.invariant.same c.load.ensures.2.1 some (subst (λ (t : JoinedDrawers). NamesEachWorkerOnce t.claims.workers (workers_of t.drawings)) (sym c.self.view_is) c.requires.each))
