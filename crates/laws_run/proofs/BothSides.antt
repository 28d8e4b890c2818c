-- At each place of a time line no more steps have an event before it and an event after it than
-- there are lanes. Steps may wait for others.
use Rattle.std.proofs.Common.{◌≡◌, ◌≢◌, ◌⊎◌, ℕ, ◌+◌, ◌<◌, ◌≤◌, nat_eq, Bool, true, false, ◌&&◌, List, [], ◌∷◌, ◌++◌, All, cond, get_or, nat_le, nat_lt, sum_by, sym, refl, ap, ap₂, ◌∙◌, subst, ⊎_elim, inl, inr, arith, eq-eqb, ne_eqb}
use Rattle.std.specs.Prelude.{◌||◌}
use Rattle.std.specs.List.{Contains, list_any, range_with_len}
use Rattle.std.proofs.lemmas.Bool.{and_parts, cases_Bool, cases_lt, leb-true, ltb-true, true≢false}
use Rattle.std.proofs.lemmas.Bool.Decides.{eqb_tells}
use Rattle.std.proofs.lemmas.List.Elements.{Contains-append_cases, Contains-append_left, Contains-append_right}
use Rattle.std.proofs.lemmas.List.Folds.{list_any-append}
use Rattle.std.proofs.lemmas.List.FromFn.{get_or-range_with_len, length-range_with_len}
use Rattle.std.proofs.lemmas.List.Sums.{get_or-le-sum_by, sum_by-cons, sum_by-le, sum_by-le-sum_by}
use Rattle.apply_model.specs.declared.script.wait.Wait.{Wait}
use Rattle.apply_events.specs.declared.event.Event.{Event}
use Rattle.apply_events.specs.declared.lanes.turn.StartedTurn.{StartedTurn}
use Rattle.apply_events.specs.ChangeEvents.{in_turn}
use Rattle.apply_events.specs.Interleaving.{IsInterleaving}
use Rattle.apply_events.specs.OfWorker.{of_worker}
use Rattle.apply_events.specs.Step.{Step, Work}
use Rattle.apply_events.specs.StepEvents.{step_events, step_time}
use Rattle.apply_events.specs.Waits.TimeLine.{InOrder, Precedes, lane_turns, lane_time_of, turn_events}
use Rattle.apply_events.specs.Waits.Turn.{begun_steps}
use Rattle.apply_events.proofs.Joined.{of_worker-append}
use Rattle.apply_events.proofs.StepNumbers.{AreNumbered}
use Rattle.apply_events.proofs.Waits.Located.{answer, lane_in}
use Rattle.apply_events.proofs.Waits.Members.{any_in, in_any, in_cases, in_filter, in_head, in_tail, not_in_none}
use Rattle.apply_events.proofs.Waits.Once.{AreTurns, one_event, started_in_list, turns_tail}
use Rattle.apply_events.proofs.Waits.TurnEvents.{of_step, of_turn, step_of_event}
use Rattle.apply_events.proofs.Waits.TurnSteps.{all_at, begun_numbered, numbered_in}
use Rattle.laws_run.specs.WaitingSteps.{has_events, is_of_step}
use Rattle.laws_run.proofs.Along.{no_later}
use Rattle.laws_run.specs.StepsUnderWay.{is_on_both_sides, is_step_under_way_at}
use Rattle.laws_run.proofs.OpenInLanes.{all_range, bit, bit_le, sum_none, sum_plus}
use Rattle.laws_run.proofs.StepsOnce.{is_step}

-- ---- tests

eq_from : (a b : ℕ) → nat_eq a b ≡ true → a ≡ b
eq_from a b is = ⊎_elim
    (λ (c : _ × (a ≡ b)). c.1)
    (λ (c : _ × (a ≢ b)). absurd (true≢false (sym is ∙ ne_eqb a b c.1)))
    (eqb_tells a b)

or_right : (a b : Bool) → b ≡ true → (a || b) ≡ true
or_right true b is = refl
or_right false b is = is

or_none : (a b : Bool) → b ≡ false → (a || b) ≡ a
or_none true b is = refl
or_none false b is = is

-- a bit is at most another bit if the first one set sets the other one
no_more : (a b c d : Bool) → (a ≡ true → b ≡ true → c && d ≡ true) → bit (a && b) ≤ bit (c && d)
no_more true true c d more = let on : bit (c && d) ≡ 1 = ap bit (more refl refl) in omega arith
no_more true false c d more = omega arith
no_more false b c d more = omega arith

both : (a b : Bool) → a ≡ true → b ≡ true → (a && b) ≡ true
both a b one other = ap₂ (λ (x y : Bool). x && y) one other

-- ---- events of a step among some

pub of_name : (name : Wait) (e : Event) → is_of_step name e ≡ true → (e.change ≡ name.change) × (e.step ≡ name.step)
of_name name e is =
    let parts = and_parts (nat_eq e.change name.change) (nat_eq e.step name.step) is in
    (eq_from e.change name.change parts.0, eq_from e.step name.step parts.1)

has-append : (name : Wait) (es fs : List Event) → has_events (es ++ fs) name ≡ (has_events es name || has_events fs name)
has-append name es fs = list_any-append (is_of_step name) es fs

has_front : (name : Wait) (es fs : List Event) → has_events es name ≡ true → has_events (es ++ fs) name ≡ true
has_front name es fs is = has-append name es fs ∙ ap (λ b. b || has_events fs name) is

has_back : (name : Wait) (es fs : List Event) → has_events fs name ≡ true → has_events (es ++ fs) name ≡ true
has_back name es fs is = has-append name es fs ∙ or_right (has_events es name) (has_events fs name) is

-- no step has events among both
abbrev AreApart : (es fs : List Event) → Type 0
AreApart es fs = (e f : Event) → Contains es e → Contains fs f → e.change ≡ f.change → e.step ≡ f.step → ⊥

apart_has : (name : Wait) (es fs : List Event) → AreApart es fs → has_events es name ≡ true → has_events fs name ≡ true → ⊥
apart_has name es fs apart first second =
    let e = in_any (is_of_step name) es first in
    let f = in_any (is_of_step name) fs second in
    let here = of_name name e.0 e.2 in let there = of_name name f.0 f.2 in
    apart e.0 f.0 e.1 f.1 (here.0 ∙ sym there.0) (here.1 ∙ sym there.1)

-- two lists that are joined, cut at another place
record CutAfter {A : Type 0} (es fs front rest : List A) : Type 0 where
  middle : List A
  front_is : front ≡ es ++ middle
  rest_is : fs ≡ middle ++ rest

record CutBefore {A : Type 0} (es fs front rest : List A) : Type 0 where
  middle : List A
  front_is : es ≡ front ++ middle
  rest_is : rest ≡ middle ++ fs

cut : {A : Type 0} (es fs front rest : List A) → es ++ fs ≡ front ++ rest → CutAfter es fs front rest ⊎ CutBefore es fs front rest
cut [] fs front rest e = inl (record { middle = front; front_is = refl; rest_is = e })
cut (x ∷ es) fs [] rest e = inr (record { middle = x ∷ es; front_is = refl; rest_is = sym e })
cut (x ∷ es) fs (y ∷ front) rest e =
    let same : x ≡ y = cc in
    let later : es ++ fs ≡ front ++ rest = cc in
    ⊎_elim
    (λ (c : CutAfter es fs front rest). inl (record { middle = c.middle; front_is = ap₂ (λ a l. a ∷ l) (sym same) c.front_is; rest_is = c.rest_is }))
    (λ (c : CutBefore es fs front rest). inr (record { middle = c.middle; front_is = ap₂ (λ a l. a ∷ l) same c.front_is; rest_is = c.rest_is }))
    (cut es fs front rest later)

-- ---- how many of some steps

module _ (xs : List Wait) (each : (c k : ℕ) → sum_by (λ x. bit (is_step x c k)) xs ≤ 1) where
  abbrev on_both_sides : (front rest : List Event) → ℕ
  on_both_sides front rest = sum_by (λ x. bit (is_on_both_sides front rest x)) xs

  -- at each place of these events at most one step has events on both sides
  abbrev OneAtATime : List Event → Type 0
  OneAtATime es = (front rest : List Event) → es ≡ front ++ rest → on_both_sides front rest ≤ 1

  one_of_step : (c k : ℕ) (es : List Event) → ((e : Event) → Contains es e → (e.change ≡ c) × (e.step ≡ k)) → OneAtATime es
  one_of_step c k es of front rest is =
      let less = sum_by-le-sum_by (λ x. bit (is_on_both_sides front rest x)) (λ x. bit (is_step x c k)) xs (λ x.
      no_more (has_events front x) (has_events rest x) (nat_eq c x.change) (nat_eq k x.step) (λ first second. named x first)) in
      let one = each c k in
      omega arith
    where
      named : (x : Wait) → has_events front x ≡ true → is_step x c k ≡ true
      named x first =
          let e = in_any (is_of_step x) front first in
          let its = of_name x e.0 e.2 in
          let its' = of e.0 (subst (λ l. Contains l e.0) (sym is) (Contains-append_left front rest e.0 e.1)) in
          both (nat_eq c x.change) (nat_eq k x.step) (eq-eqb c x.change (sym its'.0 ∙ its.0)) (eq-eqb k x.step (sym its'.1 ∙ its.1))

  one_in_none : OneAtATime []
  one_in_none front rest is = of_front front is
    where
      of_front : (front : List Event) → [] ≡ front ++ rest → on_both_sides front rest ≤ 1
      of_front [] is = let none = sum_none (λ x. bit (is_on_both_sides [] rest x)) xs (λ x. refl) in omega arith
      of_front (e ∷ front) is = absurd cc

  one_in_both : (es fs : List Event) → AreApart es fs → OneAtATime es → OneAtATime fs → OneAtATime (es ++ fs)
  one_in_both es fs apart first second front rest is = ⊎_elim
      (λ (c : CutAfter es fs front rest).
      let m = c.middle in
      let less = sum_by-le-sum_by (λ x. bit (is_on_both_sides front rest x)) (λ x. bit (is_on_both_sides m rest x)) xs (λ x.
      no_more (has_events front x) (has_events rest x) (has_events m x) (has_events rest x) (λ before after. after_first x m before after c.front_is c.rest_is)) in
      let one = second m rest c.rest_is in
      omega arith)
      (λ (c : CutBefore es fs front rest).
      let m = c.middle in
      let less = sum_by-le-sum_by (λ x. bit (is_on_both_sides front rest x)) (λ x. bit (is_on_both_sides front m x)) xs (λ x.
      no_more (has_events front x) (has_events rest x) (has_events front x) (has_events m x) (λ before after. before_second x m before after c.front_is c.rest_is)) in
      let one = first front m c.front_is in
      omega arith)
      (cut es fs front rest is)
    where
      -- a step with events after the place has none among the first
      after_first : (x : Wait) (m : List Event) → has_events front x ≡ true → has_events rest x ≡ true → front ≡ es ++ m → fs ≡ m ++ rest → (has_events m x && has_events rest x) ≡ true
      after_first x m before after front_is rest_is =
          let later : has_events fs x ≡ true = ap (λ l. has_events l x) rest_is ∙ has_back x m rest after in
          let some : (has_events es x || has_events m x) ≡ true = sym (has-append x es m) ∙ sym (ap (λ l. has_events l x) front_is) ∙ before in ⊎_elim
          (λ (yes : has_events es x ≡ true). absurd (apart_has x es fs apart yes later))
          (λ (no : has_events es x ≡ false). both (has_events m x) (has_events rest x) (sym (ap (λ b. b || has_events m x) no) ∙ some) after)
          (cases_Bool (has_events es x))

      -- what has events before the place has none among the second
      before_second : (x : Wait) (m : List Event) → has_events front x ≡ true → has_events rest x ≡ true → es ≡ front ++ m → rest ≡ m ++ fs → (has_events front x && has_events m x) ≡ true
      before_second x m before after front_is rest_is =
          let earlier : has_events es x ≡ true = ap (λ l. has_events l x) front_is ∙ has_front x front m before in
          let some : (has_events m x || has_events fs x) ≡ true = sym (has-append x m fs) ∙ sym (ap (λ l. has_events l x) rest_is) ∙ after in ⊎_elim
          (λ (yes : has_events fs x ≡ true). absurd (apart_has x es fs apart earlier yes))
          (λ (no : has_events fs x ≡ false). both (has_events front x) (has_events m x) before (sym (or_none (has_events m x) (has_events fs x) no) ∙ some))
          (cases_Bool (has_events fs x))

  one_in_step : (lane moment : ℕ) (s : Step) → OneAtATime (step_events lane s moment)
  one_in_step lane moment s = one_of_step s.change s.number (step_events lane s moment) (λ e there. let of = of_step lane s moment e there in (of.change, of.step))

  one_in_turn : (lane n moment : ℕ) (steps : List Step) → AreNumbered n steps → OneAtATime (in_turn (step_events lane) step_time steps moment)
  one_in_turn lane n moment [] numbered = one_in_none
  one_in_turn lane n moment (s ∷ steps) numbered =
      let later = moment + step_time s in
      one_in_both (step_events lane s moment) (in_turn (step_events lane) step_time steps later)
      (λ e f here there change step.
      let number = (of_step lane s moment e here).step in
      let other = step_of_event lane steps later f there in
      let low = (numbered_in (n + 1) steps other.0 numbered.1 other.1).0 in
      let first = numbered.0 in let its = other.2 in
      absurd (omega arith))
      (one_in_step lane moment s) (one_in_turn lane (n + 1) later steps numbered.1)

  module _ (w : Work) where
    lane_apart : (taken : List StartedTurn) (one : StartedTurn) (lane : ℕ) → AreTurns w (one ∷ taken) → AreApart (lane_turns w taken lane) (turn_events w one)
    lane_apart taken one lane ok e f here there change step =
        let other = lane_in w taken lane e here in
        let same : other.0 ≡ one = one_event w (one ∷ taken) other.0 one e f ok (in_tail one taken other.0 other.1) (in_head one taken) (of_turn w other.0 e other.3) (of_turn w one f there) change step in
        true≢false (sym (started_in_list taken other.0 one.turn other.1 (ap (λ (x : StartedTurn). x.turn) same)) ∙ ok.once [] taken one refl)

    one_in_lane : (taken : List StartedTurn) (lane : ℕ) → AreTurns w taken → OneAtATime (lane_turns w taken lane)
    one_in_lane [] lane ok = one_in_none
    one_in_lane (one ∷ taken) lane ok = of_lane (nat_eq one.lane lane) (one_in_lane taken lane (turns_tail w one taken ok)) (lane_apart taken one lane ok)
      where
        of_lane : (b : Bool) → OneAtATime (lane_turns w taken lane) → AreApart (lane_turns w taken lane) (turn_events w one) → OneAtATime (lane_turns w taken lane ++ cond b (turn_events w one) [])
        of_lane true before apart =
            one_in_both (lane_turns w taken lane) (turn_events w one) apart before
            (one_in_turn one.lane one.turn.first one.begin.second (begun_steps w one.turn) (begun_numbered w one.turn))
        of_lane false before apart = one_in_both (lane_turns w taken lane) [] (λ e f here there change step. not_in_none f there) before one_in_none

    -- ---- in all lanes

    module _ (n : ℕ) (taken : List StartedTurn) (front rest : List Event) (line : IsInterleaving n (lane_turns w taken) (front ++ rest)) (ok : AreTurns w taken) where
      -- a step that has events on both sides has them in a lane
      some_lane : (x : Wait) → has_events front x ≡ true → has_events rest x ≡ true → (lane : ℕ) × (lane < n) × (is_on_both_sides (of_worker lane front) (of_worker lane rest) x ≡ true)
      some_lane x before after =
          let events = front ++ rest in
          let e = in_any (is_of_step x) front before in
          let f = in_any (is_of_step x) rest after in
          let first = Contains-append_left front rest e.0 e.1 in
          let its = answer w n taken events line e.0 first in
          let other = answer w n taken events line f.0 (Contains-append_right front rest f.0 f.1) in
          let here = of_name x e.0 e.2 in let there = of_name x f.0 f.2 in
          let same : its.one ≡ other.one = one_event w taken its.one other.one e.0 f.0 ok its.there other.there its.of other.of (here.0 ∙ sym there.0) (here.1 ∙ sym there.1) in
          let lane = e.0.worker in
          let alike : f.0.worker ≡ lane = other.of.worker ∙ sym (ap (λ (t : StartedTurn). t.lane) same) ∙ sym its.of.worker in (
            lane,
            all_at (λ (g : Event). g.worker < n) events e.0 line.named first,
            both (has_events (of_worker lane front) x) (has_events (of_worker lane rest) x)
                (any_in (is_of_step x) (of_worker lane front) e.0 (in_filter (λ (g : Event). nat_eq g.worker lane) front e.0 e.1 (eq-eqb lane lane refl)) e.2)
                (any_in (is_of_step x) (of_worker lane rest) f.0 (in_filter (λ (g : Event). nat_eq g.worker lane) rest f.0 f.1 (eq-eqb f.0.worker lane alike)) f.2),
          )

      in_lanes : (x : Wait) → bit (is_on_both_sides front rest x) ≤ sum_by (λ lane. bit (is_on_both_sides (of_worker lane front) (of_worker lane rest) x)) (range_with_len 0 n)
      in_lanes x = ⊎_elim
          (λ (yes : is_on_both_sides front rest x ≡ true).
          let parts = and_parts (has_events front x) (has_events rest x) yes in
          let there = some_lane x parts.0 parts.1 in
          let lane = there.0 in let below = there.1 in
          let size = length-range_with_len 0 n in
          let number : get_or (range_with_len 0 n) lane 0 ≡ lane = get_or-range_with_len 0 n lane 0 below ∙ omega arith in
          let one : bit (is_on_both_sides (of_worker (get_or (range_with_len 0 n) lane 0) front) (of_worker (get_or (range_with_len 0 n) lane 0) rest) x) ≡ 1 =
          ap (λ l. bit (is_on_both_sides (of_worker l front) (of_worker l rest) x)) number ∙ ap bit there.2 in
          let all = get_or-le-sum_by (λ l. bit (is_on_both_sides (of_worker l front) (of_worker l rest) x)) (range_with_len 0 n) lane 0 (omega arith) in
          let few = bit_le (is_on_both_sides front rest x) in
          omega arith)
          (λ (no : is_on_both_sides front rest x ≡ false). let none : bit (is_on_both_sides front rest x) ≡ 0 = ap bit no in omega arith)
          (cases_Bool (is_on_both_sides front rest x))

      all_in_lanes : (ys : List Wait) → sum_by (λ x. bit (is_on_both_sides front rest x)) ys ≤ sum_by (λ lane. sum_by (λ x. bit (is_on_both_sides (of_worker lane front) (of_worker lane rest) x)) ys) (range_with_len 0 n)
      all_in_lanes [] = omega arith
      all_in_lanes (x ∷ ys) =
          let part = λ (lane : ℕ) (y : Wait). bit (is_on_both_sides (of_worker lane front) (of_worker lane rest) y) in
          let mine = sum_by-cons (λ y. bit (is_on_both_sides front rest y)) x ys in
          let one = in_lanes x in
          let others = all_in_lanes ys in
          let sum = sum_plus (λ lane. sum_by (part lane) (x ∷ ys)) (λ lane. part lane x) (λ lane. sum_by (part lane) ys) (range_with_len 0 n) (λ lane. sum_by-cons (part lane) x ys) in
          omega arith

      pub few_on_both_sides : on_both_sides front rest ≤ n
      few_on_both_sides =
          let some = all_in_lanes xs in
          let one : All (λ lane. on_both_sides (of_worker lane front) (of_worker lane rest) ≤ 1) (range_with_len 0 n) =
          all_range (λ lane. on_both_sides (of_worker lane front) (of_worker lane rest) ≤ 1) 0 n (λ lane lt.
          one_in_lane taken lane ok (of_worker lane front) (of_worker lane rest) (sym (line.parts lane (omega arith)) ∙ of_worker-append lane front rest)) in
          let all = sum_by-le (λ lane. on_both_sides (of_worker lane front) (of_worker lane rest)) 1 (range_with_len 0 n) one in
          let size = length-range_with_len 0 n in
          omega arith

-- ---- at a time

-- an event by a time stands before each later event
pub record IsCutAt (moment : ℕ) (events : List Event) : Type 0 where
  pub front : List Event
  pub rest : List Event
  pub are : events ≡ front ++ rest
  pub by_then : (e : Event) → Contains front e → e.at ≤ moment
  pub later : (e : Event) → Contains rest e → moment < e.at

pub cut_at : (taken : List StartedTurn) (moment : ℕ) (events : List Event) → InOrder (lane_time_of taken) events → IsCutAt moment events
cut_at taken moment [] order = record {
  front = [];
  rest = [];
  are = refl;
  by_then = λ e there. absurd (not_in_none e there);
  later = λ e there. absurd (not_in_none e there);
}
cut_at taken moment (x ∷ events) order = ⊎_elim
    (λ (late : moment < x.at). record {
      front = [];
      rest = x ∷ events;
      are = refl;
      by_then = λ e there. absurd (not_in_none e there);
      later = λ e there. from_then e there late;
    })
    (λ (early : x.at ≤ moment). let rest = cut_at taken moment events order.1 in record {
      front = x ∷ rest.front;
      rest = rest.rest;
      are = ap (λ l. x ∷ l) rest.are;
      by_then = λ e there. ⊎_elim
          (λ (is : x ≡ e). subst (λ (y : Event). y.at ≤ moment) is early)
          (λ (there' : Contains rest.front e). rest.by_then e there')
          (in_first x rest.front e there);
      later = rest.later;
    })
    (cases_lt moment x.at)
  where
    in_first : (x : Event) (es : List Event) (e : Event) → Contains (x ∷ es) e → (x ≡ e) ⊎ Contains es e
    in_first x es e there = in_cases x es e there

    from_then : (e : Event) → Contains (x ∷ events) e → moment < x.at → moment < e.at
    from_then e there late = ⊎_elim
        (λ (is : x ≡ e). subst (λ (y : Event). moment < y.at) is late)
        (λ (there' : Contains events e). let low = no_later taken x e (all_at (Precedes (lane_time_of taken) x) events e order.0 there') in omega arith)
        (in_cases x events e there)

-- a step with an event by the time and a later event has events on both sides
pub both_sides_at : (moment : ℕ) (events : List Event) (its : IsCutAt moment events) (x : Wait) → bit (is_step_under_way_at moment events x) ≤ bit (is_on_both_sides its.front its.rest x)
both_sides_at moment events its x =
    no_more (list_any by_then events) (list_any later events) (has_events its.front x) (has_events its.rest x) (λ first second.
    both (has_events its.front x) (has_events its.rest x) (before first) (after second))
  where
    by_then : Event → Bool
    by_then e = is_of_step x e && nat_le e.at moment

    later : Event → Bool
    later e = is_of_step x e && nat_lt moment e.at

    before : list_any by_then events ≡ true → has_events its.front x ≡ true
    before is =
        let e = in_any by_then events is in
        let parts = and_parts (is_of_step x e.0) (nat_le e.0.at moment) e.2 in
        let early = leb-true e.0.at moment parts.1 in ⊎_elim
        (λ (there : Contains its.front e.0). any_in (is_of_step x) its.front e.0 there parts.0)
        (λ (there : Contains its.rest e.0). absurd (let late = its.later e.0 there in omega arith))
        (Contains-append_cases its.front its.rest e.0 (subst (λ l. Contains l e.0) its.are e.1))

    after : list_any later events ≡ true → has_events its.rest x ≡ true
    after is =
        let e = in_any later events is in
        let parts = and_parts (is_of_step x e.0) (nat_lt moment e.0.at) e.2 in
        let late = ltb-true moment e.0.at parts.1 in ⊎_elim
        (λ (there : Contains its.front e.0). absurd (let early = its.by_then e.0 there in omega arith))
        (λ (there : Contains its.rest e.0). any_in (is_of_step x) its.rest e.0 there parts.0)
        (Contains-append_cases its.front its.rest e.0 (subst (λ l. Contains l e.0) its.are e.1))
