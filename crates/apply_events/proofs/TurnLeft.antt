-- A runner of a change emits the events of a turn first, and stops after them.
use Rattle.std.proofs.Common.{◌≡◌, ◌≢◌, ℕ, ◌+◌, ◌<◌, ◌≤◌, Bool, true, false, ◌&&◌, List, [], ◌∷◌, ◌++◌, Option, Some, None, cond, drop, length, map, take, refl, sym, ap, ◌∙◌, subst, ⊎_elim, inl, inr, arith, eqb, leb, ltb, eq-eqb, ne_eqb, lt-ltb, le-ltb}
use Rattle.std.specs.Prelude.{is_some, option_map, option_to_list}
use Rattle.std.specs.List.{Contains, enumerate_from, list_all}
use Rattle.std.proofs.lemmas.Bool.{and_parts, cases_lt, le-leb, leb-true, ltb-true, true≢false}
use Rattle.std.proofs.lemmas.Bool.Decides.{eqb_tells}
use Rattle.std.specs.Option.{option_map_or}
use Rattle.std.proofs.lemmas.List.{append-nil, length-drop, take_all}
use Rattle.std.proofs.lemmas.List.Elements.{filter-append}
use Rattle.apply_hooks.specs.declared.phase.Phase.TheVariants.{Pre}
use Rattle.apply_events.specs.declared.event.Event.{Event}
use Rattle.apply_events.specs.declared.lanes.turn.Turn.{Turn}
use Rattle.apply_events.specs.declared.what.What.TheVariants.{Halted, Start}
use Rattle.apply_events.specs.ChangeEvents.{begun, in_turn}
use Rattle.apply_events.specs.Course.{GivesNext, is_beginning}
use Rattle.apply_events.specs.Stages.{events_from}
use Rattle.apply_events.specs.Step.{Step, Work, kinds_applied, step_of, steps_of}
use Rattle.apply_events.specs.StepEvents.{event, goes_on, start_events, step_events, step_time}
use Rattle.apply_events.specs.BeforeStep.{before_step, begins_with, stops_at}
use Rattle.apply_events.specs.Waits.Turn.{single, turns, whole}
use Rattle.apply_events.proofs.StepNumbers.{AreNumbered, AreNumbered-begun, AreNumbered-drop, steps_of-numbered}
use Rattle.apply_events.proofs.Waits.Members.{all_in, filter_all, in_all, filter_no, in_cases, in_head, in_tail, not_in_none}
use Rattle.apply_events.proofs.Waits.Once.{IsTurnOf, is_split, turn_is}
use Rattle.apply_events.proofs.Waits.TurnEvents.{of_step, step_of_event}
use Rattle.apply_events.proofs.Waits.TurnSteps.{HasTwo, has_two, length-begun, length-steps_of, numbered_in}

-- ---- events of steps before one

below_is : (end : ℕ) (e : Event) (es : List Event) → e.step < end → stops_at end (e ∷ es) ≡ stops_at end es
below_is end e es lt = ap (λ t. cond t (stops_at end es) (is_beginning e.what && eqb e.step end && list_all (λ (f : Event). leb end f.step) es)) (lt-ltb e.step end lt)

-- none stops where all are before
stops_all : (end : ℕ) (es more : List Event) → ((e : Event) → Contains es e → e.step < end) → stops_at end (es ++ more) ≡ stops_at end more
stops_all end [] more h = refl
stops_all end (e ∷ es) more h = below_is end e (es ++ more) (h e (in_head e es)) ∙ stops_all end es more (λ f there. h f (in_tail e es f there))

before_all : (end : ℕ) (es : List Event) → ((e : Event) → Contains es e → e.step < end) → before_step end es ≡ es
before_all end es h = filter_all (λ (e : Event). ltb e.step end) es (λ e there. lt-ltb e.step end (h e there))

before_none : (end : ℕ) (es : List Event) → ((e : Event) → Contains es e → end ≤ e.step) → before_step end es ≡ []
before_none end es h = filter_no (λ (e : Event). ltb e.step end) es (λ e there yes. let low = h e there in let high = ltb-true e.step end yes in absurd (omega arith))

-- an event with which a step begins
beginning_stops : (n : ℕ) (e : Event) (es : List Event) → is_beginning e.what ≡ true → e.step ≡ n → ((f : Event) → Contains es f → n ≤ f.step) → stops_at n (e ∷ es) ≡ true
beginning_stops n e es begins step later =
    ap (λ t. cond t (stops_at n es) (is_beginning e.what && eqb e.step n && list_all (λ (f : Event). leb n f.step) es)) (le-ltb e.step n (omega arith))
    ∙ ap (λ t. t && eqb e.step n && list_all (λ (f : Event). leb n f.step) es) begins
    ∙ ap (λ t. t && list_all (λ (f : Event). leb n f.step) es) (eq-eqb e.step n step)
    ∙ all_in (λ (f : Event). leb n f.step) es (λ f there. le-leb n f.step (later f there))

first_stops : (lane : ℕ) (s : Step) (at : ℕ) (more : List Event) (answer : Option ℕ) → ((e : Event) → Contains (cond (is_some answer) (option_to_list (option_map (λ hook. event lane s at (Halted Pre hook)) answer)) (start_events lane s at) ++ more) e → s.number ≤ e.step)
    → stops_at s.number (cond (is_some answer) (option_to_list (option_map (λ hook. event lane s at (Halted Pre hook)) answer)) (start_events lane s at) ++ more) ≡ true
first_stops lane s at more None h = beginning_stops s.number (event lane s at Start) _ refl refl (λ e there. h e (in_tail (event lane s at Start) _ e there))
first_stops lane s at more (Some hook) h = beginning_stops s.number (event lane s at (Halted Pre hook)) more refl refl (λ e there. h e (in_tail (event lane s at (Halted Pre hook)) more e there))

-- ---- the turns

-- what the runner of a change gives from the first step of a turn on
abbrev Given : Work → (lane at : ℕ) → Turn → List Event
Given w lane at turn = events_from lane (drop turn.first (steps_of w turn.change)) at

abbrev Begins : Work → (lane at : ℕ) → Turn → Type 0
Begins w lane at turn = (stops_at (turn.first + turn.count) (Given w lane at turn) ≡ true)
    × (before_step (turn.first + turn.count) (Given w lane at turn) ≡ in_turn (step_events lane) step_time (begun (take turn.count (drop turn.first (steps_of w turn.change)))) at)

-- the steps of a change from one on
all_low : (w : Work) (lane at c k : ℕ) (e : Event) → Contains (in_turn (step_events lane) step_time (begun (drop k (steps_of w c))) at) e → (k ≤ e.step) × (e.step < k + length (drop k (steps_of w c)))
all_low w lane at c k e there =
    let place : 0 + k ≡ k = omega arith in
    let numbered = subst (λ n. AreNumbered n (drop k (steps_of w c))) place (AreNumbered-drop 0 k (steps_of w c) (steps_of-numbered w c)) in
    let s = step_of_event lane (begun (drop k (steps_of w c))) at e there in
    let within = numbered_in k (begun (drop k (steps_of w c))) s.0 (AreNumbered-begun k (drop k (steps_of w c)) numbered) s.1 in
    let low = within.0 in let high = within.1 in let few = length-begun (drop k (steps_of w c)) in let number = s.2 in
    (omega arith, omega arith)

whole_begins : (w : Work) (lane at c : ℕ) → Begins w lane at (whole w c)
whole_begins w lane at c =
    let size = length-steps_of w c in
    let es = in_turn (step_events lane) step_time (begun (steps_of w c)) at in
    let end = 0 + length (kinds_applied w.plan w.script c) in
    let low : (e : Event) → Contains es e → e.step < end = λ e there. (let high = (all_low w lane at c 0 e there).1 in omega arith) in (
      ap (stops_at end) (sym (append-nil es)) ∙ stops_all end es [] low,
      before_all end es low ∙ ap (λ steps. in_turn (step_events lane) step_time (begun steps) at) (sym (take_all (length (kinds_applied w.plan w.script c)) (steps_of w c) (omega arith))),
    )

second_begins_turn : (w : Work) (lane at c : ℕ) → length (kinds_applied w.plan w.script c) ≡ 2 → Begins w lane at (single c 1)
second_begins_turn w lane at c two =
    let size = length-steps_of w c in
    let left = length-drop 1 (steps_of w c) in
    let es = in_turn (step_events lane) step_time (begun (drop 1 (steps_of w c))) at in
    let low : (e : Event) → Contains es e → e.step < 2 = λ e there. (let high = (all_low w lane at c 1 e there).1 in omega arith) in (
      ap (stops_at 2) (sym (append-nil es)) ∙ stops_all 2 es [] low,
      before_all 2 es low ∙ ap (λ steps. in_turn (step_events lane) step_time (begun steps) at) (sym (take_all 1 (drop 1 (steps_of w c)) (omega arith))),
    )

same_none : (t : Bool) → cond t (begun []) [] ≡ []
same_none true = refl
same_none false = refl

-- what comes of a second step, where the first goes on
abbrev rest_of : (lane at : ℕ) → Step → Bool → List Event
rest_of lane at next t = in_turn (step_events lane) step_time (cond t (begun (next ∷ [])) []) at

rest_high : (lane at : ℕ) (next : Step) → next.number ≡ 1 → (t : Bool) (e : Event) → Contains (rest_of lane at next t) e → 1 ≤ e.step
rest_high lane at next one true e there =
    let answer = step_of_event lane (begun (next ∷ [])) at e there in
    let number = answer.2 in let low = (numbered_in 1 (begun (next ∷ [])) answer.0 (AreNumbered-begun 1 (next ∷ []) (one, tt)) answer.1).0 in omega arith
rest_high lane at next one false e there = absurd (not_in_none e there)

rest_stops : (lane at : ℕ) (next : Step) → next.number ≡ 1 → (t : Bool) → stops_at 1 (rest_of lane at next t) ≡ true
rest_stops lane at next one true =
    let more = in_turn (step_events lane) step_time (cond (goes_on next) (begun []) []) (at + step_time next) in
    subst (λ n. stops_at n (step_events lane next at ++ more) ≡ true) one
    (first_stops lane next at more (next.halts Pre) (λ e there. (let low = rest_high lane at next one true e there in omega arith)))
rest_stops lane at next one false = refl

first_begins_turn : (w : Work) (lane at c : ℕ) (two : HasTwo w c) → Begins w lane at (single c 0)
first_begins_turn w lane at c two =
    let s = step_of w c 0 two.first in let next = step_of w c 1 two.second in
    let mine = step_events lane s at in
    let rest = rest_of lane (at + step_time s) next (goes_on s) in
    let steps : steps_of w c ≡ s ∷ next ∷ [] = ap (λ kinds. map (λ p. step_of w c p.0 p.1) (enumerate_from 0 kinds)) two.are in
    let given : Given w lane at (single c 0) ≡ mine ++ rest = ap (λ l. events_from lane l at) steps in
    let wanted : in_turn (step_events lane) step_time (begun (take 1 (steps_of w c))) at ≡ mine =
    ap (λ l. in_turn (step_events lane) step_time (begun (take 1 l)) at) steps ∙ ap (λ l. mine ++ in_turn (step_events lane) step_time l (at + step_time s)) (same_none (goes_on s)) ∙ append-nil mine in
    let low : (e : Event) → Contains mine e → e.step < 1 = λ e there. (let number = (of_step lane s at e there).step in omega arith) in (
      ap (stops_at 1) given ∙ stops_all 1 mine rest low ∙ rest_stops lane (at + step_time s) next refl (goes_on s),
      ap (before_step 1) given ∙ filter-append (λ (e : Event). ltb e.step 1) mine rest ∙ ap (λ l. l ++ before_step 1 rest) (before_all 1 mine low)
          ∙ ap (λ l. mine ++ l) (before_none 1 rest (rest_high lane (at + step_time s) next refl (goes_on s))) ∙ append-nil mine ∙ sym wanted,
    )

same_number : (a b : ℕ) → eqb a b ≡ true → a ≡ b
same_number a b same = ⊎_elim
    (λ (c : _ × (a ≡ b)). c.1)
    (λ (c : _ × (a ≢ b)). absurd (true≢false (sym same ∙ ne_eqb a b c.1)))
    (eqb_tells a b)

two_steps : (w : Work) (c : ℕ) → is_split w c ≡ true → length (kinds_applied w.plan w.script c) ≡ 2
two_steps w c split = same_number (length (kinds_applied w.plan w.script c)) 2 (and_parts (eqb (length (kinds_applied w.plan w.script c)) 2) _ split).0

turn_begins_of : (w : Work) (lane at c : ℕ) (turn : Turn) → IsTurnOf w c turn → Begins w lane at turn
turn_begins_of w lane at c turn (inl all) = subst (Begins w lane at) (sym all.1) (whole_begins w lane at c)
turn_begins_of w lane at c turn (inr (split, inl first)) =
    let two = two_steps w c split in subst (Begins w lane at) (sym first) (first_begins_turn w lane at c (has_two w c (omega arith) (omega arith)))
turn_begins_of w lane at c turn (inr (split, inr second)) = subst (Begins w lane at) (sym second) (second_begins_turn w lane at c (two_steps w c split))

pub turn_begins : (w : Work) (lane at : ℕ) (turn : Turn) → Contains (turns w) turn → Begins w lane at turn
turn_begins w lane at turn known = turn_begins_of w lane at turn.change turn (turn_is w turn known)

-- ---- the next event

abbrev rest_test : ℕ → Event → List Event → Bool
rest_test end e es = is_beginning e.what && eqb e.step end && list_all (λ (f : Event). leb end f.step) es

-- no event of the turn is left once a step after it begins
pub stopped : (end : ℕ) (es : List Event) → stops_at end es ≡ true → begins_with end es ≡ true → before_step end es ≡ []
stopped end [] stops begins = refl
stopped end (e ∷ es) stops begins = begin_is (is_beginning e.what) begins
  where
    begin_is : (t : Bool) → option_map_or (λ step. eqb step end) (cond t (Some e.step) None) false ≡ true → before_step end (e ∷ es) ≡ []
    begin_is false its = absurd (true≢false (sym its))
    begin_is true its =
        let step : e.step ≡ end = same_number e.step end its in
        let test : stops_at end (e ∷ es) ≡ rest_test end e es = ap (λ t. cond t (stops_at end es) (rest_test end e es)) (le-ltb e.step end (omega arith)) in
        let all = (and_parts (is_beginning e.what && eqb e.step end) (list_all (λ (f : Event). leb end f.step) es) (sym test ∙ stops)).1 in
        before_none end (e ∷ es) (λ f there. ⊎_elim
        (λ (same : e ≡ f). let number = ap (λ (x : Event). x.step) same in omega arith)
        (λ (later : Contains es f). leb-true end f.step (in_all (λ (x : Event). leb end x.step) es f all later))
        (in_cases e es f there))

-- else the next event is one of the turn
pub gives_on : (end : ℕ) (es : List Event) (result : Option Event) (after : List Event) → stops_at end es ≡ true → begins_with end es ≡ false → GivesNext es result after
    → GivesNext (before_step end es) result (before_step end after) × (stops_at end after ≡ true)
gives_on end es None after stops begins gives = ((ap (before_step end) gives.0, ap (before_step end) gives.1), ap (stops_at end) gives.1)
gives_on end es (Some e) after stops begins gives = ⊎_elim
    (λ (lt : e.step < end). (
      ap (before_step end) gives ∙ ap (λ t. cond t (e ∷ before_step end after) (before_step end after)) (lt-ltb e.step end lt),
      sym (below_is end e after lt) ∙ sym (ap (stops_at end) gives) ∙ stops,
    ))
    (λ (ge : end ≤ e.step).
    let test : stops_at end (e ∷ after) ≡ rest_test end e after = ap (λ t. cond t (stops_at end after) (rest_test end e after)) (le-ltb e.step end ge) in
    let both = and_parts (is_beginning e.what && eqb e.step end) (list_all (λ (f : Event). leb end f.step) after) (sym test ∙ sym (ap (stops_at end) gives) ∙ stops) in
    let parts = and_parts (is_beginning e.what) (eqb e.step end) both.0 in
    let yes : begins_with end (e ∷ after) ≡ true = ap (λ t. option_map_or (λ step. eqb step end) (cond t (Some e.step) None) false) parts.0 ∙ parts.1 in
    absurd (true≢false (sym yes ∙ sym (ap (begins_with end) gives) ∙ begins)))
    (cases_lt e.step end)
