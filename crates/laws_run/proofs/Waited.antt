-- The steps that a turn waits for are done in a round before the round in which the turn is ready.
use Rattle.std.proofs.Common.{◌≡◌, All, List, [], ◌∷◌, Option, Some, None, refl, sym, subst}
use Rattle.std.specs.Prelude.{option_map}
use Rattle.std.proofs.lemmas.List.Elements.{All-cons, All-nil, All-weaker}
use Rattle.apply_events.specs.Step.{Work}
use Rattle.apply_events.specs.declared.lanes.turn.StartedTurn.{StartedTurn}
use Rattle.apply_events.specs.Waits.Done.{done_at, done_by, later_if_both}
use Rattle.apply_events.specs.declared.lanes.lane_time.LaneTime.{LaneTime}
use Rattle.apply_events.specs.Waits.LaneTime.{IsNoLater, later_of, next_round}
use Rattle.apply_model.specs.declared.script.wait.Wait.{Wait}
use Rattle.apply_events.proofs.Waits.Moments.{first_no_later, no_later_on, second_no_later}

-- the step is done, and the next round is no later
abbrev pub IsDoneBefore : Work → List StartedTurn → LaneTime → Wait → Type 0
IsDoneBefore w taken at name = (m : LaneTime) × (done_at w taken name ≡ Some m) × IsNoLater (next_round m) at

pub both_are : (a b : Option LaneTime) (at : LaneTime) → later_if_both a b ≡ Some at
    → (p : LaneTime) × (q : LaneTime) × (a ≡ Some p) × (b ≡ Some q) × (at ≡ later_of p q)
both_are None b at is = absurd cc
both_are (Some p) None at is = absurd cc
both_are (Some p) (Some q) at is = (p, q, refl, refl, cc)

pub round_is : (a : Option LaneTime) (p : LaneTime) → option_map next_round a ≡ Some p → (m : LaneTime) × (a ≡ Some m) × (p ≡ next_round m)
round_is None p is = absurd cc
round_is (Some m) p is = (m, refl, cc)

pub are_done_before : (w : Work) (taken : List StartedTurn) (names : List Wait) (at : LaneTime) → done_by w taken names ≡ Some at
    → All (IsDoneBefore w taken at) names
are_done_before w taken [] at is = All-nil _
are_done_before w taken (name ∷ names) at is =
    let both = both_are (option_map next_round (done_at w taken name)) (done_by w taken names) at is in
    let p = both.0 in let q = both.1 in
    let one = round_is (done_at w taken name) p both.2 in
    let here : IsNoLater (next_round one.0) at = subst (λ m. IsNoLater m at) one.2 (subst (IsNoLater p) (sym both.4) (first_no_later p q)) in
    let rest : IsNoLater q at = subst (IsNoLater q) (sym both.4) (second_no_later p q) in
    All-cons (IsDoneBefore w taken at) name names (one.0, one.1, here)
    (All-weaker (IsDoneBefore w taken q) (IsDoneBefore w taken at)
    (λ other h. (h.0, h.1, no_later_on (next_round h.0) q at h.2 rest)) names (are_done_before w taken names q both.3))
