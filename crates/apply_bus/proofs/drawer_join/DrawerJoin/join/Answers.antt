use Rattle.std.proofs.Common.{ℕ, sym, ap, ◌∙◌, arith}
use Rattle.atomic_table.specs.Table.{Me}
use Rattle.apply_bus.specs.declared.claims_rule.Hand.{Hand}
use Rattle.apply_bus.specs.Claims.{ClaimsName, Drawing, JoinedDrawers}
use Rattle.apply_bus.proofs.ClaimsSteps.{joins}
use Rattle.apply_bus.proofs.drawer_join.DrawerJoin.join.Goals as goal

pub join_seat-requires : goal.join_seat-requires
join_seat-requires c = let table = sym (ap (λ (i : ClaimsName). i.table) c.claims.view_is) in (
  ap (λ (t : JoinedDrawers). t.claims.table) c.self.view_is ∙ ap (λ (i : ClaimsName). i.table) c.requires.claims ∙ table,
  ap (λ (d : Drawing). d.claims.table) c.drawer.view_is ∙ ap (λ (i : ClaimsName). i.table) c.requires.drawer ∙ table,
  ap (λ (m : Me ℕ Hand). m.1) c.drawer.invariant,
  omega arith,
  joins _ _ _ _ _ _,
)
