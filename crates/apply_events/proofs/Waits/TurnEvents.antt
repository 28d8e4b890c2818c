-- The events of a turn, from its begin on: of its steps that begin, in its lane. The events of each
-- step come before the step is done.
use Rattle.std.proofs.Common.{◌≡◌, ◌≢◌, ℕ, ◌+◌, ◌<◌, ◌≤◌, All, Bool, true, false, List, [], ◌∷◌, ◌++◌, cond, map, Option, Some, None, refl, sym, ap, ◌∙◌, subst, ⊎_elim, ◌⊎◌, inl, inr, arith, eq-eqb, ne_eqb}
use Rattle.std.specs.Prelude.{is_some, option_map, option_to_list}
use Rattle.std.specs.List.{Contains}
use Rattle.std.proofs.lemmas.Bool.{cases_eq}
use Rattle.std.proofs.lemmas.Bool.Decides.{eqb_tells}
use Rattle.std.proofs.lemmas.List.Elements.{All-append, All-cons, All-nil, All-weaker, Contains-append_cases, Contains-append_left, Contains-append_right}
use Rattle.apply_hooks.specs.declared.phase.Phase.{Phase}
use Rattle.apply_hooks.specs.declared.phase.Phase.TheVariants.{Pre}
use Rattle.apply_events.specs.declared.event.Event.{Event}
use Rattle.apply_events.specs.declared.what.What.{What}
use Rattle.apply_events.specs.declared.what.What.TheVariants.{Halted, Start}
use Rattle.apply_events.specs.ChangeEvents.{in_turn}
use Rattle.apply_events.specs.Step.{Step, Work}
use Rattle.apply_events.specs.StepEvents.{between, endings, event, goes_on, halts, phase_after, seconds_of, start_events, step_events, step_time}
use Rattle.apply_events.specs.declared.lanes.turn.StartedTurn.{StartedTurn}
use Rattle.apply_events.specs.Waits.Done.{done_among, done_in, end_after, end_of_turn}
use Rattle.apply_events.specs.declared.lanes.lane_time.LaneTime.{LaneTime}
use Rattle.apply_events.specs.Waits.LaneTime.{IsNoLater, later_by}
use Rattle.apply_model.specs.declared.script.wait.Wait.{Wait}
use Rattle.apply_events.specs.Waits.TimeLine.{lane_time_from, turn_events}
use Rattle.apply_events.specs.Waits.Turn.{begun_steps}
use Rattle.apply_events.proofs.Moments.{step_rises}
use Rattle.apply_events.proofs.Moments as moments
use Rattle.apply_events.proofs.Rising as rising
use Rattle.apply_events.proofs.StepNumbers.{AreNumbered}
use Rattle.apply_events.proofs.Waits.Members.{in_cases, in_head, in_tail, not_in_none}
use Rattle.apply_events.proofs.Waits.Moments.{end_no_earlier, later_by_none, later_by_second, later_by_some, later_no_earlier, no_later_on}
use Rattle.apply_events.proofs.Waits.TurnSteps.{all_at, begun_numbered, begun_of_change, begun_within, numbered_in, step_names_change}

-- ---- the events of a step

each_map : {X : Type 0} (P : Event → Type 0) (g : X → Event) (xs : List X) → ((x : X) → P (g x)) → All P (map g xs)
each_map P g [] h = All-nil P
each_map P g (x ∷ xs) h = All-cons P (g x) (map g xs) (h x) (each_map P g xs h)

module _ (P : Event → Type 0) (lane : ℕ) (s : Step) (each : (at : ℕ) (what : What) → P (event lane s at what)) where
  each_halt : (phase : Phase) (at : ℕ) (answer : Option ℕ) → All P (option_to_list (option_map (λ hook. event lane s at (Halted phase hook)) answer))
  each_halt phase at None = All-nil P
  each_halt phase at (Some hook) = All-cons P (event lane s at (Halted phase hook)) [] (each at (Halted phase hook)) (All-nil P)

  each_started : (at : ℕ) → All P (start_events lane s at)
  each_started at =
      let beat : ℕ × What → Event = λ p. event lane s (at + p.0) p.1 in
      let emit : What → Event = λ what. event lane s (at + seconds_of s) what in
      let last = halts lane s (phase_after s.fails) (at + seconds_of s) in
      All-cons P (event lane s at Start) (map beat (between s) ++ map emit (endings s) ++ last) (each at Start)
      (All-append P (map beat (between s) ++ map emit (endings s)) last
      (All-append P (map beat (between s)) (map emit (endings s))
      (each_map P beat (between s) (λ p. each (at + p.0) p.1))
      (each_map P emit (endings s) (λ what. each (at + seconds_of s) what)))
      (each_halt (phase_after s.fails) (at + seconds_of s) (s.halts (phase_after s.fails))))

  each_begun : (at : ℕ) (answer : Option ℕ) → All P (cond (is_some answer) (option_to_list (option_map (λ hook. event lane s at (Halted Pre hook)) answer)) (start_events lane s at))
  each_begun at None = each_started at
  each_begun at (Some hook) = each_halt Pre at (Some hook)

  each_of_step : (at : ℕ) → All P (step_events lane s at)
  each_of_step at = each_begun at (s.halts Pre)

-- a step that begins has an event
first_event : (lane : ℕ) (s : Step) (at : ℕ) (answer : Option ℕ)
    → (e : Event) × Contains (cond (is_some answer) (option_to_list (option_map (λ hook. event lane s at (Halted Pre hook)) answer)) (start_events lane s at)) e
first_event lane s at None = (event lane s at Start, in_head (event lane s at Start) _)
first_event lane s at (Some hook) = (event lane s at (Halted Pre hook), in_head (event lane s at (Halted Pre hook)) [])

pub rises_all : (low high : ℕ) (es : List Event) → rising.Rises moments.lane_time_of low high es → All (λ e. (low ≤ e.at) × (e.at ≤ high)) es
rises_all low high [] h = All-nil _
rises_all low high (e ∷ es) h =
    let first = h.0 in let last = rising.Rises-le moments.lane_time_of e.at high es h.1 in
    All-cons (λ (f : Event). (low ≤ f.at) × (f.at ≤ high)) e es (omega arith, omega arith)
    (All-weaker (λ (f : Event). (e.at ≤ f.at) × (f.at ≤ high)) (λ (f : Event). (low ≤ f.at) × (f.at ≤ high)) (λ f p. let low = p.0 in let high = p.1 in (omega arith, omega arith)) es (rises_all e.at high es h.1))

pub record OfStep (lane : ℕ) (s : Step) (at : ℕ) (e : Event) : Type 0 where
  pub worker : e.worker ≡ lane
  pub change : e.change ≡ s.change
  pub step : e.step ≡ s.number
  pub from : at ≤ e.at
  pub until : e.at ≤ at + step_time s

pub of_step : (lane : ℕ) (s : Step) (at : ℕ) (e : Event) → Contains (step_events lane s at) e → OfStep lane s at e
of_step lane s at e h =
    let within = all_at (λ (f : Event). (at ≤ f.at) × (f.at ≤ at + step_time s)) (step_events lane s at) e (rises_all at (at + step_time s) (step_events lane s at) (step_rises lane s at)) h in
    let named = all_at (λ (f : Event). (f.worker ≡ lane) × (f.change ≡ s.change) × (f.step ≡ s.number)) (step_events lane s at) e
    (each_of_step (λ (f : Event). (f.worker ≡ lane) × (f.change ≡ s.change) × (f.step ≡ s.number)) lane s (λ _ _. (refl, refl, refl)) at) h in
    record { worker = named.0; change = named.1; step = named.2; from = within.0; until = within.1 }

-- ---- times within a turn

-- the time of a step's begin in a turn: the begin of the turn, or round 0 of a later second
abbrev Along : LaneTime → LaneTime → Type 0
Along begin at = (at ≡ begin) ⊎ ((begin.second < at.second) × (at.round ≡ 0))

along_low : (begin at : LaneTime) → Along begin at → begin.second ≤ at.second
along_low begin at (inl is) = let same = ap (λ (m : LaneTime). m.second) is in omega arith
along_low begin at (inr late) = let less = late.0 in omega arith

along_later : (begin at : LaneTime) (seconds : ℕ) → Along begin at → Along begin (later_by seconds at)
along_later begin at seconds h = ⊎_elim
    (λ (none : seconds ≡ 0). subst (Along begin) (sym (later_by_none at seconds none)) h)
    (λ (some : seconds ≡ 0 → ⊥).
    let low = along_low begin at h in
    let less : begin.second < at.second + seconds = omega arith in
    subst (Along begin) (sym (later_by_some at seconds some)) (inr (less, refl)))
    (cases_eq seconds 0)

round_at_begin : (begin : LaneTime) (e : Event) → e.at ≡ begin.second → (lane_time_from begin e).round ≡ begin.round
round_at_begin begin e is = ap (λ t. cond t begin.round 0) (eq-eqb e.at begin.second is)

round_later : (begin : LaneTime) (e : Event) → e.at ≢ begin.second → (lane_time_from begin e).round ≡ 0
round_later begin e ne = ap (λ t. cond t begin.round 0) (ne_eqb e.at begin.second ne)

no_earlier : (begin at : LaneTime) (e : Event) → Along begin at → at.second ≤ e.at → IsNoLater at (lane_time_from begin e)
no_earlier begin at e (inl is) low =
    let second = ap (λ (m : LaneTime). m.second) is in let round = ap (λ (m : LaneTime). m.round) is in
    (low, λ same. let now = round_at_begin begin e (omega arith) in omega arith)
no_earlier begin at e (inr late) low = let none = late.1 in (low, λ same. omega arith)

at_once : (begin at : LaneTime) (e : Event) → Along begin at → at.second ≤ e.at → e.at ≤ at.second → IsNoLater (lane_time_from begin e) at
at_once begin at e (inl is) low high =
    let second = ap (λ (m : LaneTime). m.second) is in let round = ap (λ (m : LaneTime). m.round) is in
    (high, λ same. let now = round_at_begin begin e (omega arith) in omega arith)
at_once begin at e (inr late) low high =
    let less = late.0 in let later : e.at ≢ begin.second = omega arith in
    (high, λ same. let none = round_later begin e later in omega arith)

no_later_than_end : (begin at : LaneTime) (e : Event) (seconds : ℕ) → Along begin at → at.second ≤ e.at → e.at ≤ at.second + seconds → IsNoLater (lane_time_from begin e) (later_by seconds at)
no_later_than_end begin at e seconds along low high = ⊎_elim
    (λ (none : seconds ≡ 0). subst (IsNoLater (lane_time_from begin e)) (sym (later_by_none at seconds none)) (at_once begin at e along low (omega arith)))
    (λ (some : seconds ≡ 0 → ⊥).
    let from = along_low begin at along in
    subst (IsNoLater (lane_time_from begin e)) (sym (later_by_some at seconds some))
    (high, λ same. (let later : e.at ≢ begin.second = omega arith in let none = round_later begin e later in omega arith)))
    (cases_eq seconds 0)

-- ---- the steps of a turn one after another

-- facts of an event of these steps, of which the first is number n and begins at `at`
pub record OfSteps (lane n : ℕ) (begin at : LaneTime) (steps : List Step) (e : Event) : Type 0 where
  pub step : (s : Step) × Contains steps s × (e.step ≡ s.number) × (e.change ≡ s.change)
  pub worker : e.worker ≡ lane
  pub low : n ≤ e.step
  pub from : IsNoLater at (lane_time_from begin e)
  pub until : (m : LaneTime) → done_among e.step at steps ≡ Some m → IsNoLater (lane_time_from begin e) m
  pub last : IsNoLater (lane_time_from begin e) (end_after at steps)

pub done_first : (k : ℕ) (at : LaneTime) (s : Step) (steps : List Step) → s.number ≡ k → done_among k at (s ∷ steps) ≡ cond (goes_on s) (Some (later_by (step_time s) at)) None
done_first k at s steps is = ap (λ t. cond t (cond (goes_on s) (Some (later_by (step_time s) at)) None) (done_among k (later_by (step_time s) at) steps)) (eq-eqb s.number k is)

pub done_later : (k : ℕ) (at : LaneTime) (s : Step) (steps : List Step) → s.number ≢ k → done_among k at (s ∷ steps) ≡ done_among k (later_by (step_time s) at) steps
done_later k at s steps ne = ap (λ t. cond t (cond (goes_on s) (Some (later_by (step_time s) at)) None) (done_among k (later_by (step_time s) at) steps)) (ne_eqb s.number k ne)

pub done_if : (t : Bool) (a m : LaneTime) → cond t (Some a) None ≡ Some m → (t ≡ true) × (a ≡ m)
done_if true a m is = (refl, cc)
done_if false a m is = absurd cc

of_steps : (lane n : ℕ) (begin at : LaneTime) (steps : List Step) (e : Event) → AreNumbered n steps → Along begin at
    → Contains (in_turn (step_events lane) step_time steps at.second) e → OfSteps lane n begin at steps e
of_steps lane n begin at [] e numbered along h = absurd (not_in_none e h)
of_steps lane n begin at (s ∷ steps) e numbered along h = ⊎_elim
    (λ (here : Contains (step_events lane s at.second) e).
    let of = of_step lane s at.second e here in
    let first = numbered.0 in let number = of.step in
    record {
      step = (s, in_head s steps, of.step, of.change);
      worker = of.worker;
      low = omega arith;
      from = no_earlier begin at e along of.from;
      until = λ m is.
          let ends = done_if (goes_on s) (later_by (step_time s) at) m (sym (done_first e.step at s steps (sym number)) ∙ is) in
          subst (IsNoLater (lane_time_from begin e)) ends.1 (no_later_than_end begin at e (step_time s) along of.from of.until);
      last = no_later_on (lane_time_from begin e) (later_by (step_time s) at) (end_after at (s ∷ steps)) (no_later_than_end begin at e (step_time s) along of.from of.until)
          (end_no_earlier (later_by (step_time s) at) steps);
    })
    (λ (later : Contains (in_turn (step_events lane) step_time steps (at.second + step_time s)) e).
    let next = later_by (step_time s) at in
    let rest = of_steps lane (n + 1) begin next steps e numbered.1 (along_later begin at (step_time s) along)
    (subst (λ second. Contains (in_turn (step_events lane) step_time steps second) e) (sym (later_by_second at (step_time s))) later) in
    let first = numbered.0 in let low = rest.low in
    record {
      step = (rest.step.0, in_tail s steps rest.step.0 rest.step.1, rest.step.2, rest.step.3);
      worker = rest.worker;
      low = omega arith;
      from = no_later_on at next (lane_time_from begin e) (later_no_earlier at (step_time s)) rest.from;
      until = λ m is. rest.until m (sym (done_later e.step at s steps (omega arith)) ∙ is);
      last = rest.last;
    })
    (Contains-append_cases (step_events lane s at.second) (in_turn (step_events lane) step_time steps (at.second + step_time s)) e h)

-- the step of an event of some steps one after another
pub step_of_event : (lane : ℕ) (steps : List Step) (at : ℕ) (e : Event) → Contains (in_turn (step_events lane) step_time steps at) e → (s : Step) × Contains steps s × (e.step ≡ s.number)
step_of_event lane [] at e h = absurd (not_in_none e h)
step_of_event lane (s ∷ steps) at e h = ⊎_elim
    (λ (here : Contains (step_events lane s at) e). (s, in_head s steps, (of_step lane s at e here).step))
    (λ (later : Contains (in_turn (step_events lane) step_time steps (at + step_time s)) e).
    let rest = step_of_event lane steps (at + step_time s) e later in (rest.0, in_tail s steps rest.0 rest.1, rest.2))
    (Contains-append_cases (step_events lane s at) (in_turn (step_events lane) step_time steps (at + step_time s)) e h)

-- each step has an event
event_of : (lane : ℕ) (steps : List Step) (at : ℕ) (s : Step) → Contains steps s
    → (e : Event) × Contains (in_turn (step_events lane) step_time steps at) e × (e.step ≡ s.number) × (e.change ≡ s.change)
event_of lane [] at s h = absurd (not_in_none s h)
event_of lane (x ∷ steps) at s h = ⊎_elim
    (λ (is : x ≡ s).
    let answer = first_event lane x at (x.halts Pre) in
    let of = of_step lane x at answer.0 answer.1 in (
      answer.0,
      Contains-append_left (step_events lane x at) (in_turn (step_events lane) step_time steps (at + step_time x)) answer.0 answer.1,
      of.step ∙ ap (λ (y : Step). y.number) is,
      of.change ∙ ap (λ (y : Step). y.change) is,
    ))
    (λ (later : Contains steps s).
    let answer = event_of lane steps (at + step_time x) s later in
    (answer.0, Contains-append_right (step_events lane x at) (in_turn (step_events lane) step_time steps (at + step_time x)) answer.0 answer.1, answer.2, answer.3))
    (in_cases x steps s h)

-- ---- done

done_is : (k : ℕ) (at : LaneTime) (steps : List Step) (m : LaneTime) → done_among k at steps ≡ Some m → (s : Step) × Contains steps s × (s.number ≡ k) × (goes_on s ≡ true)
done_is k at [] m is = absurd cc
done_is k at (s ∷ steps) m is = ⊎_elim
    (λ (c : _ × (s.number ≡ k)).
    let ends = done_if (goes_on s) (later_by (step_time s) at) m (sym (done_first k at s steps c.1) ∙ is) in (s, in_head s steps, c.1, ends.0))
    (λ (c : _ × (s.number ≢ k)).
    let rest = done_is k (later_by (step_time s) at) steps m (sym (done_later k at s steps c.1) ∙ is) in (rest.0, in_tail s steps rest.0 rest.1, rest.2, rest.3))
    (eqb_tells s.number k)

is_done : (n : ℕ) (at : LaneTime) (steps : List Step) (s : Step) → AreNumbered n steps → Contains steps s → goes_on s ≡ true → (m : LaneTime) × (done_among s.number at steps ≡ Some m)
is_done n at [] s numbered h on = absurd (not_in_none s h)
is_done n at (x ∷ steps) s numbered h on = ⊎_elim
    (λ (is : x ≡ s).
    let end = later_by (step_time x) at in
    (end, done_first s.number at x steps (ap (λ (y : Step). y.number) is) ∙ ap (λ t. cond t (Some end) None) (ap goes_on is ∙ on)))
    (λ (later : Contains steps s).
    let rest = is_done (n + 1) (later_by (step_time x) at) steps s numbered.1 later on in
    let low = (numbered_in (n + 1) steps s numbered.1 later).0 in let first = numbered.0 in
    (rest.0, done_later s.number at x steps (omega arith) ∙ rest.1))
    (in_cases x steps s h)

-- ---- a turn

-- what is known of an event of a turn
pub record OfTurn (w : Work) (one : StartedTurn) (e : Event) : Type 0 where
  pub step : (s : Step) × Contains (begun_steps w one.turn) s × (e.step ≡ s.number)
  pub change : e.change ≡ one.turn.change
  pub worker : e.worker ≡ one.lane
  pub low : one.turn.first ≤ e.step
  pub high : e.step < one.turn.first + one.turn.count
  pub from : IsNoLater one.begin (lane_time_from one.begin e)
  pub until : (m : LaneTime) → done_among e.step one.begin (begun_steps w one.turn) ≡ Some m → IsNoLater (lane_time_from one.begin e) m
  pub last : IsNoLater (lane_time_from one.begin e) (end_of_turn w one)

pub of_turn : (w : Work) (one : StartedTurn) (e : Event) → Contains (turn_events w one) e → OfTurn w one e
of_turn w one e h =
    let of = of_steps one.lane one.turn.first one.begin one.begin (begun_steps w one.turn) e (begun_numbered w one.turn) (inl refl) h in
    let s = of.step.0 in
    let within = begun_within w one.turn s of.step.1 in
    let number = of.step.2 in let low = within.0 in let high = within.1 in
    record {
      step = (s, of.step.1, number);
      change = of.step.3 ∙ step_names_change w one.turn.change s (begun_of_change w one.turn s of.step.1);
      worker = of.worker;
      low = omega arith;
      high = omega arith;
      from = of.from;
      until = of.until;
      last = of.last;
    }

pub turn_has : (w : Work) (one : StartedTurn) (s : Step) → Contains (begun_steps w one.turn) s
    → (e : Event) × Contains (turn_events w one) e × (e.step ≡ s.number) × (e.change ≡ one.turn.change)
turn_has w one s h =
    let answer = event_of one.lane (begun_steps w one.turn) one.begin.second s h in
    (answer.0, answer.1, answer.2, answer.3 ∙ step_names_change w one.turn.change s (begun_of_change w one.turn s h))

-- what is done in a turn is one of its steps that begin, and goes on
pub record IsDoneIn (w : Work) (one : StartedTurn) (name : Wait) (m : LaneTime) : Type 0 where
  pub change : one.turn.change ≡ name.change
  pub among : done_among name.step one.begin (begun_steps w one.turn) ≡ Some m
  pub step : (s : Step) × Contains (begun_steps w one.turn) s × (s.number ≡ name.step) × (goes_on s ≡ true)

pub done_in_turn : (w : Work) (one : StartedTurn) (name : Wait) (m : LaneTime) → done_in w one name ≡ Some m → IsDoneIn w one name m
done_in_turn w one name m is = ⊎_elim
    (λ (c : _ × (one.turn.change ≡ name.change)).
    let among : done_among name.step one.begin (begun_steps w one.turn) ≡ Some m =
    sym (ap (λ t. cond t (done_among name.step one.begin (begun_steps w one.turn)) None) (eq-eqb one.turn.change name.change c.1)) ∙ is in
    record { change = c.1; among = among; step = done_is name.step one.begin (begun_steps w one.turn) m among })
    (λ (c : _ × (one.turn.change ≢ name.change)).
    let none = ap (λ t. cond t (done_among name.step one.begin (begun_steps w one.turn)) None) (ne_eqb one.turn.change name.change c.1) in absurd cc)
    (eqb_tells one.turn.change name.change)

pub done_then : (w : Work) (one : StartedTurn) (s : Step) (name : Wait) → Contains (begun_steps w one.turn) s → goes_on s ≡ true → name.change ≡ one.turn.change → name.step ≡ s.number
    → (m : LaneTime) × (done_in w one name ≡ Some m)
done_then w one s name h on change step =
    let answer = is_done one.turn.first one.begin (begun_steps w one.turn) s (begun_numbered w one.turn) h on in (
      answer.0,
      ap (λ t. cond t (done_among name.step one.begin (begun_steps w one.turn)) None) (eq-eqb one.turn.change name.change (sym change))
          ∙ ap (λ k. done_among k one.begin (begun_steps w one.turn)) step ∙ answer.1,
    )
