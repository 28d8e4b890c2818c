-- A drawer that was split off.
use Rattle.std.proofs.Common.{◌≡◌, ℕ, suc, ◌+◌, false, List, [], ◌∷◌, ◌++◌, sym, ap, ◌∙◌, arith}
use Rattle.atomic_table.specs.Table.{Me}
use Rattle.atomic_table.specs.Seated.{TableId}
use Rattle.atomic_table.specs.declared.shared.Seat.{Seat}
use Rattle.apply_bus.specs.declared.claims_rule.Hand.{Hand}
use Rattle.apply_bus.specs.Claims.{ClaimsName, Drawing, new_drawers}
use Rattle.apply_bus.specs.ClaimsRule.{drawer}
use Rattle.apply_bus.specs.Seats.{first_limit, first_workers, first_drawn, IsDrawerSeat}

pub is_new : (d n w : ℕ) (s : Seat ℕ Hand) → s.me ≡ (drawer d n w [] false, []) → IsDrawerSeat d false s
is_new d n w s is = is ∙ ap (λ (m : Me ℕ Hand). (drawer d (first_limit m.0.shares) (first_workers m.0.shares) (first_drawn m.0.shares) false, [])) (sym is)

abbrev pub name : TableId → ℕ → ℕ → ClaimsName
name t n w = record { table = t; limit = n; workers = w }

abbrev pub drawing : ClaimsName → ℕ → List ℕ → Drawing
drawing claims d xs = record { claims = claims; worker = d; drawn = xs; met_none = false }

pub new_view : (d n w : ℕ) (s : Seat ℕ Hand) (t : TableId) → s.me ≡ (drawer d n w [] false, []) → s.table_id ≡ t
    → drawing (name s.table_id (first_limit s.me.0.shares) (first_workers s.me.0.shares)) d (first_drawn s.me.0.shares) ≡ drawing (name t n w) d []
new_view d n w s t is at =
    ap (λ (m : Me ℕ Hand). drawing (name s.table_id (first_limit m.0.shares) (first_workers m.0.shares)) d (first_drawn m.0.shares)) is ∙ ap (λ u. drawing (name u n w) d []) at

pub one_more : (claims : ClaimsName) (i : ℕ) (old new : List Drawing) (d : Drawing) → old ≡ new_drawers claims i → new ≡ old ++ d ∷ [] → d ≡ drawing claims i [] → new ≡ new_drawers claims (i + 1)
one_more claims i old new d was is same =
    let up : suc i ≡ i + 1 = omega arith in
    is ∙ ap (λ l. l ++ d ∷ []) was ∙ ap (λ x. new_drawers claims i ++ x ∷ []) same ∙ ap (new_drawers claims) up
