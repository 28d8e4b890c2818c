-- A turn starts once, so each event belongs to one turn and has that turn's time.
use Rattle.std.proofs.Common.{◌≡◌, ◌≢◌, ℕ, ◌+◌, ◌<◌, ◌≤◌, All, Bool, true, false, ◌&&◌, List, [], ◌∷◌, ◌++◌, cond, length, refl, sym, ap, ◌∙◌, subst, ⊎_elim, ◌⊎◌, inl, inr, arith, eqb, leb, ltb, eq-eqb, ne_eqb, lt-ltb}
use Rattle.std.specs.List.{Contains, range_with_len}
use Rattle.std.proofs.lemmas.Bool.{and_parts, cases_Bool, le-leb, leb-true, ltb-true, true≢false}
use Rattle.std.proofs.lemmas.Bool.Decides.{eqb_tells}
use Rattle.std.proofs.lemmas.List.Elements.{All-tail}
use Rattle.apply_events.specs.declared.event.Event.{Event}
use Rattle.apply_events.specs.Step.{Work, kinds_applied}
use Rattle.apply_events.specs.declared.lanes.turn.StartedTurn.{StartedTurn}
use Rattle.apply_model.specs.Script.OutcomeMap.{outcome_of}
use Rattle.apply_model.specs.Script.Waits.{names_a_wait}
use Rattle.apply_events.specs.Waits.Schedule.{is_same_turn, is_started}
use Rattle.apply_events.specs.Waits.TimeLine.{is_of_turn, lane_time_from, lane_time_of}
use Rattle.apply_events.specs.declared.lanes.turn.Turn.{Turn}
use Rattle.apply_events.specs.Waits.Turn.{single, turns, turns_of, whole}
use Rattle.apply_events.proofs.Waits.Members.{any_in, flat_map_in, in_any, in_cases, in_head, not_in_none}
use Rattle.apply_events.proofs.Waits.StartedTurns.{same_itself}
use Rattle.apply_events.proofs.Waits.TurnEvents.{OfTurn}
use Rattle.apply_events.proofs.Waits.TurnSteps.{all_at}

-- ---- the turns of a change

abbrev pub is_split : Work → ℕ → Bool
is_split w c = eqb (length (kinds_applied w.plan w.script c)) 2 && names_a_wait (outcome_of w.script c 1)

-- it is the whole change, or one of two single steps
abbrev pub IsTurnOf : Work → ℕ → Turn → Type 0
IsTurnOf w c turn = ((is_split w c ≡ false) × (turn ≡ whole w c)) ⊎ ((is_split w c ≡ true) × ((turn ≡ single c 0) ⊎ (turn ≡ single c 1)))

turns_are : (w : Work) (c : ℕ) (turn : Turn) (t : Bool) → is_split w c ≡ t → Contains (cond t (single c 0 ∷ single c 1 ∷ []) (whole w c ∷ [])) turn → IsTurnOf w c turn
turns_are w c turn true is h = inr (
  is,
  ⊎_elim
      (λ (first : single c 0 ≡ turn). inl (sym first))
      (λ (later : Contains (single c 1 ∷ []) turn). ⊎_elim
      (λ (second : single c 1 ≡ turn). inr (sym second))
      (λ (none : Contains [] turn). absurd (not_in_none turn none))
      (in_cases (single c 1) [] turn later))
      (in_cases (single c 0) (single c 1 ∷ []) turn h),
)
turns_are w c turn false is h = inl (
  is,
  ⊎_elim
      (λ (same : whole w c ≡ turn). sym same)
      (λ (none : Contains [] turn). absurd (not_in_none turn none))
      (in_cases (whole w c) [] turn h),
)

change_is : (w : Work) (c : ℕ) (turn : Turn) → IsTurnOf w c turn → turn.change ≡ c
change_is w c turn (inl one) = ap (λ (t : Turn). t.change) one.1
change_is w c turn (inr (split, inl first)) = ap (λ (t : Turn). t.change) first
change_is w c turn (inr (split, inr second)) = ap (λ (t : Turn). t.change) second

pub turn_is : (w : Work) (turn : Turn) → Contains (turns w) turn → IsTurnOf w turn.change turn
turn_is w turn h =
    let answer = flat_map_in (turns_of w) (range_with_len 0 (length w.plan.changes)) turn h in
    let c = answer.0 in
    let is : IsTurnOf w c turn = turns_are w c turn (is_split w c) refl answer.2 in
    subst (λ k. IsTurnOf w k turn) (sym (change_is w c turn is)) is

-- turns of one change that have a step in common are equal
pub same_turn : (w : Work) (c k : ℕ) (a b : Turn) → IsTurnOf w c a → IsTurnOf w c b → a.first ≤ k → k < a.first + a.count → b.first ≤ k → k < b.first + b.count → a ≡ b
same_turn w c k a b (inl p) (inl q) la ha lb hb = p.1 ∙ sym q.1
same_turn w c k a b (inl p) (inr q) la ha lb hb = absurd (true≢false (sym q.0 ∙ p.0))
same_turn w c k a b (inr p) (inl q) la ha lb hb = absurd (true≢false (sym p.0 ∙ q.0))
same_turn w c k a b (inr (split, inl p)) (inr (split', inl q)) la ha lb hb = p ∙ sym q
same_turn w c k a b (inr (split, inr p)) (inr (split', inr q)) la ha lb hb = p ∙ sym q
same_turn w c k a b (inr (split, inl p)) (inr (split', inr q)) la ha lb hb =
    let first = ap (λ (t : Turn). t.first) p in let count = ap (λ (t : Turn). t.count) p in let second = ap (λ (t : Turn). t.first) q in absurd (omega arith)
same_turn w c k a b (inr (split, inr p)) (inr (split', inl q)) la ha lb hb =
    let first = ap (λ (t : Turn). t.first) q in let count = ap (λ (t : Turn). t.count) q in let second = ap (λ (t : Turn). t.first) p in absurd (omega arith)

-- and so are those with the same first step
same_first : (w : Work) (c : ℕ) (a b : Turn) → IsTurnOf w c a → IsTurnOf w c b → a.first ≡ b.first → a ≡ b
same_first w c a b (inl p) (inl q) is = p.1 ∙ sym q.1
same_first w c a b (inl p) (inr q) is = absurd (true≢false (sym q.0 ∙ p.0))
same_first w c a b (inr p) (inl q) is = absurd (true≢false (sym p.0 ∙ q.0))
same_first w c a b (inr (split, inl p)) (inr (split', inl q)) is = p ∙ sym q
same_first w c a b (inr (split, inr p)) (inr (split', inr q)) is = p ∙ sym q
same_first w c a b (inr (split, inl p)) (inr (split', inr q)) is =
    let first = ap (λ (t : Turn). t.first) p in let second = ap (λ (t : Turn). t.first) q in absurd (omega arith)
same_first w c a b (inr (split, inr p)) (inr (split', inl q)) is =
    let first = ap (λ (t : Turn). t.first) q in let second = ap (λ (t : Turn). t.first) p in absurd (omega arith)

-- ---- each turn starts once

-- each is a turn of the work, and none stands twice
pub record AreTurns (w : Work) (started : List StartedTurn) : Type 0 where
  pub known : All (λ one. Contains (turns w) one.turn) started
  pub once : (later before : List StartedTurn) (one : StartedTurn) → started ≡ later ++ one ∷ before → is_started before one.turn ≡ false

pub turns_tail : (w : Work) (one : StartedTurn) (started : List StartedTurn) → AreTurns w (one ∷ started) → AreTurns w started
turns_tail w one started h = record {
  known = All-tail (λ (x : StartedTurn). Contains (turns w) x.turn) one started h.known;
  once = λ later before x is. h.once (one ∷ later) before x (ap (λ l. one ∷ l) is);
}

pub known_turn : (w : Work) (started : List StartedTurn) (one : StartedTurn) → AreTurns w started → Contains started one → IsTurnOf w one.turn.change one.turn
known_turn w started one h there = turn_is w one.turn (all_at (λ (x : StartedTurn). Contains (turns w) x.turn) started one h.known there)

pub started_in_list : (started : List StartedTurn) (one : StartedTurn) (turn : Turn) → Contains started one → one.turn ≡ turn → is_started started turn ≡ true
started_in_list started one turn there is = any_in (λ (x : StartedTurn). is_same_turn x.turn turn) started one there (ap (λ t. is_same_turn t turn) is ∙ same_itself turn)

-- a turn that was started is in the list
pub in_list : (w : Work) (started : List StartedTurn) (turn : Turn) → AreTurns w started → Contains (turns w) turn → is_started started turn ≡ true
    → (one : StartedTurn) × Contains started one × (one.turn ≡ turn)
in_list w started turn h known is =
    let answer = in_any (λ (x : StartedTurn). is_same_turn x.turn turn) started is in
    let one = answer.0 in
    let both = and_parts (eqb one.turn.change turn.change) (eqb one.turn.first turn.first) answer.2 in
    let change : one.turn.change ≡ turn.change = from_test one.turn.change turn.change both.0 in
    let first : one.turn.first ≡ turn.first = from_test one.turn.first turn.first both.1 in
    (one, answer.1, same_first w turn.change one.turn turn (subst (λ c. IsTurnOf w c one.turn) change (known_turn w started one h answer.1)) (turn_is w turn known) first)
  where
    from_test : (a b : ℕ) → eqb a b ≡ true → a ≡ b
    from_test a b same = ⊎_elim
        (λ (c : _ × (a ≡ b)). c.1)
        (λ (c : _ × (a ≢ b)). absurd (true≢false (sym same ∙ ne_eqb a b c.1)))
        (eqb_tells a b)

pub same_started : (w : Work) (started : List StartedTurn) (a b : StartedTurn) → AreTurns w started → Contains started a → Contains started b → a.turn ≡ b.turn → a ≡ b
same_started w [] a b h p q same = absurd (not_in_none a p)
same_started w (x ∷ started) a b h p q same =
    let new : is_started started x.turn ≡ false = h.once [] started x refl in ⊎_elim
    (λ (xa : x ≡ a). ⊎_elim
    (λ (xb : x ≡ b). sym xa ∙ xb)
    (λ (later : Contains started b).
    absurd (true≢false (sym (started_in_list started b x.turn later (sym same ∙ sym (ap (λ (y : StartedTurn). y.turn) xa))) ∙ new)))
    (in_cases x started b q))
    (λ (later : Contains started a). ⊎_elim
    (λ (xb : x ≡ b).
    absurd (true≢false (sym (started_in_list started a x.turn later (same ∙ sym (ap (λ (y : StartedTurn). y.turn) xb))) ∙ new)))
    (λ (later' : Contains started b). same_started w started a b (turns_tail w x started h) later later' same)
    (in_cases x started b q))
    (in_cases x started a p)

-- two started turns with a common step are the same
pub one_turn : (w : Work) (started : List StartedTurn) (c k : ℕ) (a b : StartedTurn) → AreTurns w started → Contains started a → Contains started b → a.turn.change ≡ c → b.turn.change ≡ c
    → a.turn.first ≤ k → k < a.turn.first + a.turn.count → b.turn.first ≤ k → k < b.turn.first + b.turn.count → a ≡ b
one_turn w started c k a b h p q ca cb la ha lb hb =
    same_started w started a b h p q (same_turn w c k a.turn b.turn
    (subst (λ x. IsTurnOf w x a.turn) ca (known_turn w started a h p)) (subst (λ x. IsTurnOf w x b.turn) cb (known_turn w started b h q)) la ha lb hb)

-- an event is of one turn
pub one_event : (w : Work) (started : List StartedTurn) (a b : StartedTurn) (e f : Event) → AreTurns w started → Contains started a → Contains started b → OfTurn w a e → OfTurn w b f
    → e.change ≡ f.change → e.step ≡ f.step → a ≡ b
one_event w started a b e f h p q oe of change step =
    let low = oe.low in let high = oe.high in let low' = of.low in let high' = of.high in
    one_turn w started e.change e.step a b h p q (sym oe.change) (sym of.change ∙ sym change) low high (omega arith) (omega arith)

-- ---- times

is_of : (one : StartedTurn) (e : Event) → one.turn.change ≡ e.change → one.turn.first ≤ e.step → e.step < one.turn.first + one.turn.count → is_of_turn one.turn e ≡ true
is_of one e change low high =
    ap (λ t. t && leb one.turn.first e.step && ltb e.step (one.turn.first + one.turn.count)) (eq-eqb one.turn.change e.change change)
    ∙ ap (λ t. t && ltb e.step (one.turn.first + one.turn.count)) (le-leb one.turn.first e.step low)
    ∙ lt-ltb e.step (one.turn.first + one.turn.count) high

of_is : (one : StartedTurn) (e : Event) → is_of_turn one.turn e ≡ true → (one.turn.change ≡ e.change) × (one.turn.first ≤ e.step) × (e.step < one.turn.first + one.turn.count)
of_is one e its =
    let all = and_parts (eqb one.turn.change e.change && leb one.turn.first e.step) (ltb e.step (one.turn.first + one.turn.count)) its in
    let both = and_parts (eqb one.turn.change e.change) (leb one.turn.first e.step) all.0 in (
      ⊎_elim (λ (c : _ × (one.turn.change ≡ e.change)). c.1) (λ (c : _ × (one.turn.change ≢ e.change)). absurd (true≢false (sym both.0 ∙ ne_eqb one.turn.change e.change c.1))) (eqb_tells one.turn.change e.change),
      leb-true one.turn.first e.step both.1,
      ltb-true e.step (one.turn.first + one.turn.count) all.1,
    )

pub lane_time_is : (w : Work) (started : List StartedTurn) (one : StartedTurn) (e : Event) → AreTurns w started → Contains started one → OfTurn w one e → lane_time_of started e ≡ lane_time_from one.begin e
lane_time_is w [] one e h there of = absurd (not_in_none one there)
lane_time_is w (x ∷ started) one e h there of = ⊎_elim
    (λ (yes : is_of_turn x.turn e ≡ true).
    let parts = of_is x e yes in let low = of.low in let high = of.high in
    let same : x ≡ one = one_turn w (x ∷ started) e.change e.step x one h (in_head x started) there parts.0 (sym of.change) parts.1 parts.2 low high in
    ap (λ t. cond t (lane_time_from x.begin e) (lane_time_of started e)) yes ∙ ap (λ (y : StartedTurn). lane_time_from y.begin e) same)
    (λ (no : is_of_turn x.turn e ≡ false).
    ap (λ t. cond t (lane_time_from x.begin e) (lane_time_of started e)) no ∙ ⊎_elim
    (λ (same : x ≡ one).
    let yes : is_of_turn x.turn e ≡ true = ap (λ (y : StartedTurn). is_of_turn y.turn e) same ∙ is_of one e (sym of.change) of.low of.high in absurd (true≢false (sym yes ∙ no)))
    (λ (later : Contains started one). lane_time_is w started one e (turns_tail w x started h) later of)
    (in_cases x started one there))
    (cases_Bool (is_of_turn x.turn e))
