-- One lane, which goes from one of its turns to the next.
use Rattle.std.proofs.Common.{◌≡◌, ◌≢◌, ℕ, ◌+◌, ◌<◌, ◌≤◌, true, false, ◌&&◌, List, [], ◌++◌, Option, Some, None, cond, drop, get_or, length, refl, sym, ap, ◌∙◌, subst, ⊎_elim, inl, inr, arith, eqb, eq-eqb, ne_eqb}
use Rattle.std.specs.Prelude.{is_some}
use Rattle.std.specs.List.{Contains}
use Rattle.std.proofs.lemmas.Bool.{and_parts, true≢false}
use Rattle.std.proofs.lemmas.Bool.Decides.{eqb_tells}
use Rattle.std.proofs.lemmas.List.{drop_all, drop_more}
use Rattle.std.proofs.lemmas.List.Elements.{Contains-get_or}
use Rattle.apply_events.specs.declared.lanes.lane.UnderWay.{UnderWay}
use Rattle.apply_events.specs.declared.lanes.turn.StartedTurn.{StartedTurn}
use Rattle.apply_events.specs.declared.lanes.turn.Turn.{Turn}
use Rattle.apply_events.specs.Lanes.Lane.{IsBegun, begin_of, events_of}
use Rattle.apply_events.specs.Lanes.LaneState.{HasGoneOn, emitted_by}
use Rattle.apply_events.specs.Lanes.Startable.{has_turn, is_that_turn}
use Rattle.apply_events.specs.Step.{Work}
use Rattle.apply_events.specs.Waits.LaneTime.{first_lane_time}
use Rattle.apply_events.specs.Waits.TimeLine.{turn_events}
use Rattle.apply_events.specs.Waits.Turn.{turns}
use Rattle.apply_events.proofs.Waits.Members.{in_any}

-- ---- a turn of the work

number_is : (a b : ℕ) → eqb a b ≡ true → a ≡ b
number_is a b same = ⊎_elim
    (λ (c : _ × (a ≡ b)). c.1)
    (λ (c : _ × (a ≢ b)). absurd (true≢false (sym same ∙ ne_eqb a b c.1)))
    (eqb_tells a b)

that_is : (a b : Turn) → is_that_turn a b ≡ true → a ≡ b
that_is a b same =
    let all = and_parts (eqb a.change b.change && eqb a.first b.first) (eqb a.count b.count) same in
    let both = and_parts (eqb a.change b.change) (eqb a.first b.first) all.0 in
    let change = number_is a.change b.change both.0 in
    let first = number_is a.first b.first both.1 in
    let count = number_is a.count b.count all.1 in
    ap (λ n. let t : Turn = record { change = n; first = a.first; count = a.count } in t) change
    ∙ ap (λ n. let t : Turn = record { change = b.change; first = n; count = a.count } in t) first
    ∙ ap (λ n. let t : Turn = record { change = b.change; first = b.first; count = n } in t) count

pub known_is : (w : Work) (turn : Turn) → has_turn w turn ≡ true → Contains (turns w) turn
known_is w turn has =
    let answer = in_any (λ other. is_that_turn other turn) (turns w) has in
    subst (Contains (turns w)) (that_is answer.0 turn answer.2) answer.1

-- ---- the lane's next turn

-- the lane's events of the turns from a position on: of the turn at that position, if the lane
-- started it, and of the turns after it
emitted_here : (w : Work) (lane place : ℕ) (started : List StartedTurn) (one : StartedTurn) → place < length started → one ≡ get_or started place one
    → emitted_by w lane (drop place started) ≡ cond (eqb one.lane lane) (turn_events w one) [] ++ emitted_by w lane (drop (place + 1) started)
emitted_here w lane place started one lt is =
    ap (emitted_by w lane) (drop_more started place one lt)
    ∙ ap (λ (x : StartedTurn). cond (eqb x.lane lane) (turn_events w x) [] ++ emitted_by w lane (drop (place + 1) started)) (sym is)

pub other_lane : (w : Work) (lane place : ℕ) (started : List StartedTurn) (one : StartedTurn) → place < length started → one ≡ get_or started place one → one.lane ≢ lane
    → emitted_by w lane (drop place started) ≡ emitted_by w lane (drop (place + 1) started)
other_lane w lane place started one lt is ne =
    emitted_here w lane place started one lt is ∙ ap (λ t. cond t (turn_events w one) [] ++ emitted_by w lane (drop (place + 1) started)) (ne_eqb one.lane lane ne)

own_turn : (w : Work) (lane place : ℕ) (started : List StartedTurn) (one : StartedTurn) → place < length started → one ≡ get_or started place one → one.lane ≡ lane
    → emitted_by w lane (drop place started) ≡ turn_events w one ++ emitted_by w lane (drop (place + 1) started)
own_turn w lane place started one lt is own =
    emitted_here w lane place started one lt is ∙ ap (λ t. cond t (turn_events w one) [] ++ emitted_by w lane (drop (place + 1) started)) (eq-eqb one.lane lane own)

begun_none : {a b : _} {g : _} (w : Work) (one : StartedTurn) (turn : Option (UnderWay a b g)) → IsBegun w one turn → is_some turn ≡ false → turn_events w one ≡ []
begun_none w one None begun none = begun
begun_none w one (Some turn) begun none = absurd (true≢false none)

-- a turn without events
pub no_events : {a b : _} {g : _} (w : Work) (lane place : ℕ) (started : List StartedTurn) (one : StartedTurn) (turn : Option (UnderWay a b g)) → place < length started → one ≡ get_or started place one → one.lane ≡ lane
    → IsBegun w one turn → is_some turn ≡ false → emitted_by w lane (drop place started) ≡ emitted_by w lane (drop (place + 1) started)
no_events w lane place started one turn lt is own begun none =
    own_turn w lane place started one lt is own ∙ ap (λ es. es ++ emitted_by w lane (drop (place + 1) started)) (begun_none w one turn begun none)

begun_events : {a b : _} {g : _} (w : Work) (one : StartedTurn) (turn : Option (UnderWay a b g)) → IsBegun w one turn → is_some turn ≡ true
    → (events_of turn ≡ turn_events w one) × (begin_of turn ≡ one.begin) × (events_of turn ≢ [])
begun_events w one None begun some = absurd (true≢false (sym some))
begun_events w one (Some turn) begun some = (sym begun.1, begun.0, λ none. absurd cc)

pub gone_on : {a b : _} {g : _} (w : Work) (lane from place : ℕ) (started : List StartedTurn) (one : StartedTurn) (turn : Option (UnderWay a b g)) → place < length started → one ≡ get_or started place one → one.lane ≡ lane
    → IsBegun w one turn → is_some turn ≡ true → emitted_by w lane (drop place started) ≡ emitted_by w lane (drop from started)
    → HasGoneOn w started lane from (record { number = lane; events = events_of turn; begin = begin_of turn; place = place + 1 })
gone_on w lane from place started one turn lt is own begun some so_far =
    let has = begun_events w one turn begun some in record {
      number = refl;
      left = sym so_far ∙ own_turn w lane place started one lt is own ∙ ap (λ es. es ++ emitted_by w lane (drop (place + 1) started)) (sym has.0);
      over = λ none. absurd (has.2 none);
      turn = inr (one, subst (Contains started) (sym is) (Contains-get_or started place one lt), has.1, has.0);
    }

pub none_left : (w : Work) (lane from place : ℕ) (started : List StartedTurn) → length started ≤ place → emitted_by w lane (drop place started) ≡ emitted_by w lane (drop from started)
    → HasGoneOn w started lane from (record { number = lane; events = []; begin = first_lane_time; place = length started })
none_left w lane from place started over so_far =
    record {
      number = refl;
      left = sym so_far ∙ ap (emitted_by w lane) (drop_all place started over) ∙ sym (ap (emitted_by w lane) (drop_all (length started) started (omega arith)));
      over = λ none. omega arith;
      turn = inl refl;
    }
