use Rattle.std.proofs.Common.{◌≡◌, ℕ, ◌<◌, ◌≤◌, All, Bool, true, List, [], ◌∷◌, ◌++◌, sym, ap, ◌∙◌, subst, arith, lt-ltb, le-ltb, if◌then◌else◌}
use Rattle.std.specs.List.{AllByRecursion}
use Rattle.atomic_table.specs.Seated.{TableId}
use Rattle.atomic_table.specs.Table.{Me}
use Rattle.atomic_table.specs.declared.shared.Seat.{Seat}
use Rattle.apply_bus.specs.declared.claims_rule.Hand.{Hand}
use Rattle.apply_bus.specs.declared.claims_rule.Share.{Share}
use Rattle.apply_bus.specs.Claims.{ClaimsName, Drawing}
use Rattle.apply_bus.specs.ClaimsRule.{share, hand, drawer, first_after, IsDrawn}
use Rattle.apply_bus.specs.Seats.{first_limit, first_workers, first_drawn, seat_claims, seat_drawn, IsDrawerSeat}
use Rattle.apply_bus.proofs.ClaimsSteps.{draws}
use Rattle.apply_bus.proofs.claims.Claims.draw.Goals as goal

-- a draw that finds no number left sets the mark
end_met : (d n w previous : ℕ) (drawn : List ℕ) (met : Bool) (me after : Me ℕ Hand) → me ≡ (drawer d n w drawn met, []) → n ≤ previous → IsDrawn me previous after → after ≡ (drawer d n w drawn true, [])
end_met d n w previous drawn met me after was past drew =
    drew.0 ∙ ap (λ (m : Me ℕ Hand). (hand (first_after m.0.shares previous), [])) was
    ∙ ap (λ b. (hand ((if b then share d n w (drawn ++ previous ∷ []) met else share d n w drawn true) ∷ []), [])) (le-ltb previous n past)

-- and one that finds a number keeps it, which is above all before
one_drawn : (d n w previous : ℕ) (drawn : List ℕ) (met : Bool) (me after : Me ℕ Hand) → me ≡ (drawer d n w drawn met, []) → previous < n → IsDrawn me previous after → after ≡ (drawer d n w (drawn ++ previous ∷ []) met, [])
one_drawn d n w previous drawn met me after was low drew =
    drew.0 ∙ ap (λ (m : Me ℕ Hand). (hand (first_after m.0.shares previous), [])) was
    ∙ ap (λ b. (hand ((if b then share d n w (drawn ++ previous ∷ []) met else share d n w drawn true) ∷ []), [])) (lt-ltb previous n low)

above_all : (d n w previous : ℕ) (drawn : List ℕ) (met : Bool) (me after : Me ℕ Hand) → me ≡ (drawer d n w drawn met, []) → IsDrawn me previous after → All (λ earlier. earlier < previous) drawn
above_all d n w previous drawn met me after was drew = (subst (λ (m : Me ℕ Hand). AllByRecursion (λ (s : Share). All (λ earlier. earlier < previous) s.drawn) m.0.shares) was drew.1).0

has_seat : (d n w : ℕ) (drawn : List ℕ) (met : Bool) (s : Seat ℕ Hand) → s.me ≡ (drawer d n w drawn met, []) → IsDrawerSeat d met s
has_seat d n w drawn met s is = is ∙ ap (λ (m : Me ℕ Hand). (drawer d (first_limit m.0.shares) (first_workers m.0.shares) (first_drawn m.0.shares) met, [])) (sym is)

drawing_of_seat : (d n w : ℕ) (drawn : List ℕ) (met : Bool) (s : Seat ℕ Hand) (t : TableId) → s.me ≡ (drawer d n w drawn met, []) → s.table_id ≡ t
    → ◌≡◌ {A = Drawing} record { claims = seat_claims s; worker = d; drawn = seat_drawn s; met_none = met }
    record { claims = record { table = t; limit = n; workers = w }; worker = d; drawn = drawn; met_none = met }
drawing_of_seat d n w drawn met s t is at =
    ap (λ (m : Me ℕ Hand). record { claims = record { table = s.table_id; limit = first_limit m.0.shares; workers = first_workers m.0.shares }; worker = d; drawn = first_drawn m.0.shares; met_none = met }) is
    ∙ ap (λ u. record { claims = record { table = u; limit = n; workers = w }; worker = d; drawn = drawn; met_none = met }) at

pub fetch_add-previous-requires : goal.fetch_add-previous-requires
fetch_add-previous-requires c =
    let seat = c.drawer.inside.seat in
    let same = ap (λ (d : Drawing). d.claims) c.drawer.view_is ∙ c.requires ∙ sym c.self.view_is in
    let key = c.self.invariant.1 in
    let limit = ap (λ (i : ClaimsName). i.limit) same ∙ sym (ap (λ (k : ℕ × ℕ). k.0) key) in
    let workers = ap (λ (i : ClaimsName). i.workers) same ∙ sym (ap (λ (k : ℕ × ℕ). k.1) key) in (
      ap (λ (i : ClaimsName). i.table) same,
      omega arith,
      draws _ _ _ _ seat.me c.drawer.inside.worker (seat_drawn seat)
          (subst (λ (y : ℕ × ℕ × Bool). seat.me ≡ (drawer c.drawer.inside.worker y.0 y.1 (seat_drawn seat) y.2, [])) (λ i. (limit i, workers i, c.if-drawer.false i)) c.drawer.invariant),
    )

pub invariant_of-drawer-else-previous-from : goal.invariant_of-drawer-else-previous-from
invariant_of-drawer-else-previous-from c =
    let seat = c.drawer.inside.seat in
    let same = ap (λ (d : Drawing). d.claims) c.drawer.view_is ∙ c.requires ∙ sym c.self.view_is in
    let limit : first_limit seat.me.0.shares ≡ c.self.inside.limit = ap (λ (i : ClaimsName). i.limit) same in
    has_seat _ _ _ _ _ c.fetch_add-previous.new.seat (end_met c.drawer.inside.worker (first_limit seat.me.0.shares) (first_workers seat.me.0.shares) c.fetch_add-previous.result (seat_drawn seat) c.drawer.inside.met_none seat.me _ c.drawer.invariant (omega arith) c.fetch_add-previous.ensures.2)

pub returns-then-previous-from-clause-some : goal.returns-then-previous-from-clause-some
returns-then-previous-from-clause-some c =
    let seat = c.drawer.inside.seat in
    let previous = c.fetch_add-previous.result in
    let same = ap (λ (d : Drawing). d.claims) c.drawer.view_is ∙ c.requires ∙ sym c.self.view_is in
    let limit : first_limit seat.me.0.shares ≡ c.self.inside.limit = ap (λ (i : ClaimsName). i.limit) same in
    drawing_of_seat _ _ _ _ _ c.fetch_add-previous.new.seat _
    (one_drawn c.drawer.inside.worker (first_limit seat.me.0.shares) (first_workers seat.me.0.shares) previous (seat_drawn seat) c.drawer.inside.met_none seat.me _ c.drawer.invariant (omega arith) c.fetch_add-previous.ensures.2)
    c.fetch_add-previous.ensures.0
    ∙ ap (λ (d : Drawing). record d { drawn = d.drawn ++ previous ∷ [] }) c.drawer.view_is

pub returns-then-previous-from-clause-rising : goal.returns-then-previous-from-clause-rising
returns-then-previous-from-clause-rising c =
    let seat = c.drawer.inside.seat in
    let previous = c.fetch_add-previous.result in
    subst (λ (d : Drawing). All (λ earlier. earlier < previous) d.drawn) c.drawer.view_is
    (above_all c.drawer.inside.worker (first_limit seat.me.0.shares) (first_workers seat.me.0.shares) previous (seat_drawn seat) c.drawer.inside.met_none seat.me _ c.drawer.invariant c.fetch_add-previous.ensures.2)
