-- The order of turns that may be ready.
use Rattle.std.proofs.Common.{◌≡◌, ◌<◌, ◌≤◌, true, false, cond, refl, sym, ap, ◌∙◌, subst, ⊎_elim, ◌⊎◌, inl, inr, arith, lt-ltb, le-ltb, ltb, ◌&&◌, ◌||◌, Option, None, Some, not}
use Rattle.std.proofs.lemmas.Bool.{cases_lt, true≢false}
use Rattle.stream_record_waits.specs.declared.course.ReadyTurn.{ReadyTurn}
use Rattle.stream_record_waits.specs.declared.lane_time.LaneTime.{LaneTime}
use Rattle.stream_record_waits.specs.Course.{earlier_of}
use Rattle.stream_record_waits.specs.LaneTime.{IsNoLater, is_earlier}
use Rattle.stream_record_waits.specs.ReadyTurns.{IsNoLaterIf, IsNoLaterTurn, first_of, goes_first}
use Rattle.stream_record_waits.proofs.Moments.{emits, no_later_both, no_later_on, no_later_refl, not_before_itself, same_lane_time}

same_turn : (a b : ReadyTurn) → a.step ≡ b.step → a.at ≡ b.at → a ≡ b
same_turn a b step at =
    ap (λ s. let turn : ReadyTurn = record { step = s; at = a.at } in turn) step ∙ ap (λ m. let turn : ReadyTurn = record { step = b.step; at = m } in turn) at

turn_refl : (a : ReadyTurn) → IsNoLaterTurn a a
turn_refl a = (no_later_refl a.at, λ second round. omega arith)

turn_on : (a b c : ReadyTurn) → IsNoLaterTurn a b → IsNoLaterTurn b c → IsNoLaterTurn a c
turn_on a b c p q = (
  no_later_on a.at b.at c.at p.0 q.0,
  λ second round.
      let ab = p.0.0 in let bc = q.0.0 in
      let first : a.at.second ≡ b.at.second = omega (arith, ab, bc, second) in
      let then : b.at.second ≡ c.at.second = omega (arith, ab, bc, second) in
      let low = p.0.1 first in let high = q.0.1 then in
      let less = p.1 first (omega (arith, low, high, round)) in
      let more = q.1 then (omega (arith, low, high, round)) in
      omega (arith, less, more),
)

turn_both : (a b : ReadyTurn) → IsNoLaterTurn a b → IsNoLaterTurn b a → a ≡ b
turn_both a b p q =
    let at : a.at ≡ b.at = no_later_both a.at b.at p.0 q.0 in
    let low = p.1 (ap (λ (m : LaneTime). m.second) at) (ap (λ (m : LaneTime). m.round) at) in
    let high = q.1 (ap (λ (m : LaneTime). m.second) (sym at)) (ap (λ (m : LaneTime). m.round) (sym at)) in
    same_turn a b (omega (arith, low, high)) at

-- what is earlier is not at the same time
not_same : (a b : LaneTime) → is_earlier a b ≡ true → a.second ≡ b.second → a.round ≡ b.round → ⊥
not_same a b its second round = true≢false (sym its ∙ ap (is_earlier a) (sym (same_lane_time a b second round)) ∙ not_before_itself a)

earlier_turn : (a b : ReadyTurn) → is_earlier a.at b.at ≡ true → IsNoLater a.at b.at → IsNoLaterTurn a b
earlier_turn a b its late = (late, λ second round. absurd (not_same a.at b.at its second round))

-- what the result of the test means
goes : (a b : ReadyTurn) → ((goes_first a b ≡ true) × IsNoLaterTurn a b) ⊎ ((goes_first a b ≡ false) × IsNoLaterTurn b a)
goes a b = ⊎_elim
    (λ (c : (is_earlier a.at b.at ≡ true) × IsNoLater a.at b.at).
    inl ((ap (λ t. t || (not (is_earlier b.at a.at) && ltb a.step b.step)) c.0, earlier_turn a b c.0 c.1)))
    (λ (c : (is_earlier a.at b.at ≡ false) × IsNoLater b.at a.at).
    let late = ap (λ t. t || (not (is_earlier b.at a.at) && ltb a.step b.step)) c.0 in ⊎_elim
    (λ (d : (is_earlier b.at a.at ≡ true) × IsNoLater b.at a.at).
    inr ((late ∙ ap (λ t. not t && ltb a.step b.step) d.0, earlier_turn b a d.0 d.1)))
    (λ (d : (is_earlier b.at a.at ≡ false) × IsNoLater a.at b.at).
    let same = late ∙ ap (λ t. not t && ltb a.step b.step) d.0 in ⊎_elim
    (λ (lt : a.step < b.step). inl ((same ∙ lt-ltb a.step b.step lt, (d.1, λ second round. omega (arith, lt)))))
    (λ (ge : b.step ≤ a.step). inr ((same ∙ le-ltb a.step b.step ge, (c.1, λ second round. ge))))
    (cases_lt a.step b.step))
    (emits b.at a.at))
    (emits a.at b.at)

-- ---- turns that may be ready

pub if_refl : (a : Option ReadyTurn) → IsNoLaterIf a a
if_refl None = tt
if_refl (Some a) = turn_refl a

pub if_on : (a b c : Option ReadyTurn) → IsNoLaterIf a b → IsNoLaterIf b c → IsNoLaterIf a c
if_on a b None p q = tt
if_on a None (Some c) p q = absurd q
if_on None (Some b) (Some c) p q = absurd p
if_on (Some a) (Some b) (Some c) p q = turn_on a b c p q

pub if_both : (a b : Option ReadyTurn) → IsNoLaterIf a b → IsNoLaterIf b a → a ≡ b
if_both None None p q = refl
if_both None (Some b) p q = absurd p
if_both (Some a) None p q = absurd q
if_both (Some a) (Some b) p q = ap Some (turn_both a b p q)

-- the first of two is one of the two, and none goes before it
pub first_cases : (a b : Option ReadyTurn) → ((first_of a b ≡ a) × IsNoLaterIf a b) ⊎ ((first_of a b ≡ b) × IsNoLaterIf b a)
first_cases None b = inr ((refl, tt))
first_cases (Some a) None = inl ((refl, tt))
first_cases (Some a) (Some b) = ⊎_elim
    (λ (c : (goes_first b a ≡ true) × IsNoLaterTurn b a). inr ((ap (λ t. cond t (Some b) (Some a)) c.0, c.1)))
    (λ (c : (goes_first b a ≡ false) × IsNoLaterTurn a b). inl ((ap (λ t. cond t (Some b) (Some a)) c.0, c.1)))
    (goes b a)

pub first_before_both : (a b : Option ReadyTurn) → IsNoLaterIf (first_of a b) a × IsNoLaterIf (first_of a b) b
first_before_both a b = ⊎_elim
    (λ (c : (first_of a b ≡ a) × IsNoLaterIf a b). (subst (λ (o : Option ReadyTurn). IsNoLaterIf o a) (sym c.0) (if_refl a), subst (λ (o : Option ReadyTurn). IsNoLaterIf o b) (sym c.0) c.1))
    (λ (c : (first_of a b ≡ b) × IsNoLaterIf b a). (subst (λ (o : Option ReadyTurn). IsNoLaterIf o a) (sym c.0) c.1, subst (λ (o : Option ReadyTurn). IsNoLaterIf o b) (sym c.0) (if_refl b)))
    (first_cases a b)

-- the earlier of two turns goes before both, where the first has the lower step
pub earlier_before_both : (a b : Option ReadyTurn) → ((x y : ReadyTurn) → a ≡ Some x → b ≡ Some y → x.step < y.step)
    → IsNoLaterIf (earlier_of a b) a × IsNoLaterIf (earlier_of a b) b
earlier_before_both None b lower = (tt, if_refl b)
earlier_before_both (Some a) None lower = (turn_refl a, tt)
earlier_before_both (Some a) (Some b) lower = ⊎_elim
    (λ (c : (is_earlier b.at a.at ≡ true) × IsNoLater b.at a.at).
    subst (λ (o : Option ReadyTurn). IsNoLaterIf o (Some a) × IsNoLaterIf o (Some b)) (sym (ap (λ t. cond t (Some b) (Some a)) c.0))
    (earlier_turn b a c.0 c.1, turn_refl b))
    (λ (c : (is_earlier b.at a.at ≡ false) × IsNoLater a.at b.at).
    subst (λ (o : Option ReadyTurn). IsNoLaterIf o (Some a) × IsNoLaterIf o (Some b)) (sym (ap (λ t. cond t (Some b) (Some a)) c.0))
    (turn_refl a, (c.1, λ second round. let less = lower a b refl refl in omega (arith, less))))
    (emits b.at a.at)
