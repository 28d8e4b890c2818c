-- The events of a change in order, with their times.
use Rattle.std.proofs.Common.{◌≡◌, ◌∙◌, ◌&&◌, ◌+◌, ◌<◌, ◌≤◌, ℕ, zero, suc, All, Bool, true, false, List, [], ◌∷◌, ◌++◌, Option, Some, None, cond, length, map, sum_by, take, refl, sym, ap, arith, subst, inl, ⊎_elim}
use Rattle.std.specs.Prelude.{is_none, is_some, not, slice_get}
use Rattle.std.specs.List.{Contains, enumerate_from}
use Rattle.std.specs.Option.{option_map_or}
use Rattle.std.proofs.lemmas.Bool.{cases_eq}
use Rattle.std.proofs.lemmas.List.{append-nil}
use Rattle.std.proofs.lemmas.List.Elements.{All-append, All-nil, All-weaker, Contains-append_left, Contains-append_right}
use Rattle.std.proofs.lemmas.List.Sums.{sum_by-cons, sum_by_more}
use Rattle.std.proofs.lemmas.Option.{get_or_from_slice_get, same_Some, slice_get_within}
use Rattle.apply_model.specs.declared.plan.step_kind.StepKind.{StepKind}
use Rattle.apply_model.specs.Plan.SavedPlan.{SavedPlan}
use Rattle.apply_model.specs.Script.OutcomeMap.{OutcomeMap, first_skipped}
use Rattle.apply_hooks.specs.declared.phase.Phase.{Phase}
use Rattle.apply_hooks.specs.declared.phase.Phase.TheVariants.{Pre, PostDone}
use Rattle.apply_hooks.specs.declared.rule.Rule.{Rule}
use Rattle.apply_hooks.specs.Hooks.{first_halting}
use Rattle.apply_events.specs.declared.event.Event.{Event}
use Rattle.apply_events.specs.declared.what.What.{What}
use Rattle.apply_events.specs.declared.what.What.TheVariants.{Start, Progress, Complete, Errored, ErrorNote, WarnNote, Halted, ProvisionStart, ProvisionOutput, ProvisionComplete, ProvisionErrored}
use Rattle.apply_events.specs.ChangeEvents.{begun, in_turn}
use Rattle.apply_events.specs.Step.{Step, Work, address_of, kinds_applied, kinds_of, step_of, steps_of}
use Rattle.apply_events.specs.StepEvents.{event, goes_on, seconds_of, step_events, step_time}
use Rattle.apply_events.proofs.Waits.Members.{in_head}
use Rattle.laws_queue.specs.Dealing.{steps_begun}
use Rattle.laws_queue.specs.OfRun.{is_end, is_start}
use Rattle.laws_queue.proofs.BegunSteps.{Begins, begins}
use Rattle.laws_queue.proofs.BegunSteps.Begins.{nothing, one, two}
use Rattle.laws_queue.proofs.Ordered.{Ordered, ordered_append}
use Rattle.laws_queue.proofs.Ranks.{IsOfStep, Ranked, cross_all, events_are, of_step, phase, ranked}

-- ---- the steps of a change

kind_before : (k j : ℕ) (kinds : List StepKind) (kind : StepKind) → slice_get (take j kinds) k ≡ Some kind → slice_get kinds k ≡ Some kind
kind_before k zero kinds kind is = absurd cc
kind_before k (suc j) [] kind is = is
kind_before zero (suc j) (x ∷ kinds) kind is = is
kind_before (suc k) (suc j) (x ∷ kinds) kind is = kind_before k j kinds kind is

kind_planned : (plan : SavedPlan) (script : OutcomeMap) (c k : ℕ) (kind : StepKind) → slice_get (kinds_applied plan script c) k ≡ Some kind → slice_get (kinds_of plan c) k ≡ Some kind
kind_planned plan script c k kind is = by_answer (first_skipped script c) is
  where
    by_answer : (answer : Option ℕ) → slice_get (option_map_or (λ skipped. take skipped (kinds_of plan c)) answer (kinds_of plan c)) k ≡ Some kind → slice_get (kinds_of plan c) k ≡ Some kind
    by_answer None its = its
    by_answer (Some j) its = kind_before k j (kinds_of plan c) kind its

begun_among : (steps : List Step) (k : ℕ) (step : Step) → slice_get (begun steps) k ≡ Some step → slice_get steps k ≡ Some step
begun_among [] k step is = is
begun_among (s ∷ steps) zero step is = is
begun_among (s ∷ steps) (suc k) step is = by_going (begun_among steps k step) (goes_on s) is
  where
    by_going : (slice_get (begun steps) k ≡ Some step → slice_get steps k ≡ Some step) → (t : Bool) → slice_get (cond t (begun steps) []) k ≡ Some step → slice_get steps k ≡ Some step
    by_going further true its = further its
    by_going further false its = absurd cc

enumerated : (work : Work) (c : ℕ) (kinds : List StepKind) (n k : ℕ) (step : Step) → slice_get (map (λ p. step_of work c p.0 p.1) (enumerate_from n kinds)) k ≡ Some step
    → (kind : StepKind) × (slice_get kinds k ≡ Some kind) × (step ≡ step_of work c (n + k) kind)
enumerated work c [] n k step is = absurd cc
enumerated work c (kind ∷ kinds) n zero step is =
    let here : n ≡ n + zero = omega arith in
    (kind, refl, sym (same_Some (step_of work c n kind) step is) ∙ ap (λ m. step_of work c m kind) here)
enumerated work c (kind ∷ kinds) n (suc k) step is =
    let rest = enumerated work c kinds (n + 1) k step is in
    let next : n + 1 + k ≡ n + suc k = omega arith in
    (rest.0, rest.1, rest.2 ∙ ap (λ m. step_of work c m rest.0) next)

pub begun_step : (work : Work) (c k : ℕ) (step : Step) → slice_get (steps_begun work c) k ≡ Some step → (kind : StepKind) × (slice_get (kinds_of work.plan c) k ≡ Some kind) × (step ≡ step_of work c k kind)
begun_step work c k step is =
    let its = enumerated work c (kinds_applied work.plan work.script c) 0 k step (begun_among (steps_of work c) k step is) in
    let same : 0 + k ≡ k = omega arith in
    (its.0, kind_planned work.plan work.script c k its.0 its.1, its.2 ∙ ap (λ m. step_of work c m its.0) same)

-- ---- without hooks

module _ (work : Work) (unhooked : work.hooks ≡ []) where
  step_unhalted : (c k : ℕ) (kind : StepKind) (when : Phase) → (step_of work c k kind).halts when ≡ None
  step_unhalted c k kind when = ap (λ (hooks : List (List Rule)). first_halting hooks (record { phase = when; kind = kind; address = address_of work.plan c })) unhooked

  pub begun_unhalted : (c k : ℕ) (step : Step) → slice_get (steps_begun work c) k ≡ Some step → (when : Phase) → step.halts when ≡ None
  begun_unhalted c k step is when =
      let its = begun_step work c k step is in
      ap (λ (s : Step). s.halts when) its.2 ∙ step_unhalted c k its.0 when

  pub takes : (step : Step) → ((when : Phase) → step.halts when ≡ None) → step_time step ≡ seconds_of step
  takes step unhalted = ap (λ (hook : Option ℕ). cond (is_some hook) 0 (seconds_of step)) (unhalted Pre)

  pub goes : (step : Step) → ((when : Phase) → step.halts when ≡ None) → goes_on step ≡ not step.fails
  goes step unhalted =
      ap (λ (hook : Option ℕ). (is_none hook && not step.fails) && is_none (step.halts PostDone)) (unhalted Pre)
      ∙ ap (λ (hook : Option ℕ). not step.fails && is_none hook) (unhalted PostDone) ∙ and_yes (not step.fails)
    where
      and_yes : (t : Bool) → (t && true) ≡ t
      and_yes true = refl
      and_yes false = refl

pub phase_most : (what : What) → phase what ≤ 3
phase_most Start = omega arith
phase_most (Complete seconds) = omega arith
phase_most (Errored seconds) = omega arith
phase_most ErrorNote = omega arith
phase_most WarnNote = omega arith
phase_most (Halted when hook) = omega arith
phase_most (Progress seconds) = omega arith
phase_most (ProvisionStart i) = omega arith
phase_most (ProvisionOutput i line) = omega arith
phase_most (ProvisionComplete i) = omega arith
phase_most (ProvisionErrored i) = omega arith

-- ---- the events of a change that begins at that second in that lane

module _ (work : Work) (unhooked : work.hooks ≡ []) (c : ℕ) (few : length (kinds_of work.plan c) ≤ 2) (lane at : ℕ) where
  abbrev steps : List Step
  steps = steps_begun work c

  abbrev pub change_events : List Event
  change_events = in_turn (step_events lane) step_time (steps_begun work c) at

  pub record IsOfChange (e : Event) : Type 0 where
    pub lane_is : e.worker ≡ lane
    pub change : e.change ≡ c
    pub has : e.step < length (steps_begun work c)
    pub low : e.step ≤ 1
    pub start : is_start e.what ≡ true → e.at ≡ at + sum_by step_time (take e.step (steps_begun work c))
    pub end : is_end e.what ≡ true → e.at ≡ at + sum_by step_time (take (e.step + 1) (steps_begun work c))

  -- an event of step k
  module _ (k begin : ℕ) (s : Step) (is : slice_get (steps_begun work c) k ≡ Some s) (first : k ≤ 1) (begins : begin ≡ at + sum_by step_time (take k (steps_begun work c))) where
    unhalted : (when : Phase) → s.halts when ≡ None
    unhalted when = begun_unhalted work unhooked c k s is when

    abbrev IsOfNth : Event → Type 0
    IsOfNth e = IsOfChange e × (e.step ≡ k)

    of_nth : (e : Event) → IsOfStep lane begin s e → IsOfNth e
    of_nth e h =
        let its = begun_step work c k s is in
        let number : e.step ≡ k = h.number ∙ ap (λ (x : Step). x.number) its.2 in
        let more : sum_by step_time (take (k + 1) steps) ≡ sum_by step_time (take k steps) + step_time s =
        sum_by_more step_time steps k s (slice_get_within steps k s is) ∙ ap (λ x. sum_by step_time (take k steps) + step_time x) (get_or_from_slice_get steps k s s is) in
        let time = takes work unhooked s unhalted in (
          record {
            lane_is = h.lane_is;
            change = h.change ∙ ap (λ (x : Step). x.change) its.2;
            has = let lt = slice_get_within steps k s is in omega arith;
            low = omega arith;
            start = λ starts. h.start starts ∙ begins ∙ sym (ap (λ j. at + sum_by step_time (take j steps)) number);
            end = λ ends. h.end ends ∙ (let sum : begin + seconds_of s ≡ at + sum_by step_time (take (k + 1) steps) = omega arith in sum) ∙ sym (ap (λ j. at + sum_by step_time (take (j + 1) steps)) number);
          },
          number,
        )

    nth_events : All IsOfNth (step_events lane s begin)
    nth_events = All-weaker (IsOfStep lane begin s) IsOfNth of_nth (step_events lane s begin) (of_step lane begin s unhalted)

    nth_order : Ordered Ranked (step_events lane s begin)
    nth_order = ranked lane begin s unhalted

    nth_event : (e : Event) × Contains (step_events lane s begin) e × (e.step ≡ k)
    nth_event =
        let its = begun_step work c k s is in
        let start = event lane s begin Start in
        (start, subst (λ l. Contains l start) (sym (events_are lane begin s unhalted)) (in_head start _), ap (λ (x : Step). x.number) its.2)

  -- ---- all

  -- what holds of its events
  pub record AreInOrder (es : List Event) : Type 0 where
    pub each : All IsOfChange es
    pub order : Ordered Ranked es
    pub begin : (k : ℕ) → k < length (steps_begun work c) → (e : Event) × Contains es e × (e.step ≡ k)

  pub in_order : AreInOrder change_events
  in_order = by_view (begins work c few)
    where
      by_view : Begins work c → AreInOrder (in_turn (step_events lane) step_time (steps_begun work c) at)
      by_view (nothing none) = record {
        each = subst (λ l. All IsOfChange (in_turn (step_events lane) step_time l at)) (sym none) (All-nil IsOfChange);
        order = subst (λ l. Ordered Ranked (in_turn (step_events lane) step_time l at)) (sym none) tt;
        begin = λ k lt. let count = ap length none in absurd (omega arith);
      }
      by_view (one s alone) =
          let is : slice_get (steps_begun work c) 0 ≡ Some s = ap (λ l. slice_get l 0) alone in
          let zeroth : at ≡ at + sum_by step_time (take 0 (steps_begun work c)) = omega arith in
          let are : in_turn (step_events lane) step_time (steps_begun work c) at ≡ step_events lane s at =
          ap (λ l. in_turn (step_events lane) step_time l at) alone ∙ append-nil (step_events lane s at) in
          let all = nth_events 0 at s is (omega arith) zeroth in
          record {
            each = subst (All IsOfChange) (sym are) (All-weaker (λ e. IsOfChange e × (e.step ≡ 0)) IsOfChange (λ e h. h.0) (step_events lane s at) all);
            order = subst (Ordered Ranked) (sym are) (nth_order 0 at s is (omega arith) zeroth);
            begin = λ k lt.
                let count = ap length alone in
                let first : k ≡ 0 = omega arith in
                let event = nth_event 0 at s is (omega arith) zeroth in
                (event.0, subst (λ l. Contains l event.0) (sym are) event.1, event.2 ∙ sym first);
          }
      by_view (two s t both its) =
          let is : slice_get (steps_begun work c) 0 ≡ Some s = ap (λ l. slice_get l 0) both in
          let is' : slice_get (steps_begun work c) 1 ≡ Some t = ap (λ l. slice_get l 1) both in
          let first = step_events lane s at in
          let second = step_events lane t (at + step_time s) in
          let zeroth : at ≡ at + sum_by step_time (take 0 (steps_begun work c)) = omega arith in
          let one_step : at + step_time s ≡ at + sum_by step_time (s ∷ []) = (let sum = sum_by-cons step_time s [] in let nothing_more : sum_by step_time [] ≡ 0 = refl in omega arith) in
          let more : at + step_time s ≡ at + sum_by step_time (take 1 (steps_begun work c)) = one_step ∙ sym (ap (λ l. at + sum_by step_time (take 1 l)) both) in
          let are : in_turn (step_events lane) step_time (steps_begun work c) at ≡ first ++ second =
          ap (λ l. in_turn (step_events lane) step_time l at) both ∙ ap (λ l. first ++ l) (append-nil second) in
          let all = nth_events 0 at s is (omega arith) zeroth in
          let all' = nth_events 1 (at + step_time s) t is' (omega arith) more in
          record {
            each = subst (All IsOfChange) (sym are) (All-append IsOfChange first second
                (All-weaker (λ e. IsOfChange e × (e.step ≡ 0)) IsOfChange (λ e h. h.0) first all) (All-weaker (λ e. IsOfChange e × (e.step ≡ 1)) IsOfChange (λ e h. h.0) second all'));
            order = subst (Ordered Ranked) (sym are) (ordered_append Ranked first second
                (nth_order 0 at s is (omega arith) zeroth) (nth_order 1 (at + step_time s) t is' (omega arith) more)
                (cross_all (λ e. IsOfChange e × (e.step ≡ 0)) (λ e. IsOfChange e × (e.step ≡ 1)) Ranked first second (λ e f h h'.
                let change = h.0.change in let change' = h'.0.change in let number = h.1 in let number' = h'.1 in let most = phase_most e.what in inl (omega arith)) all all'));
            begin = λ k lt.
                let count = ap length both in
                let event = nth_event 0 at s is (omega arith) zeroth in
                let event' = nth_event 1 (at + step_time s) t is' (omega arith) more in ⊎_elim
                (λ (none : k ≡ 0). (event.0, subst (λ l. Contains l event.0) (sym are) (Contains-append_left first second event.0 event.1), event.2 ∙ sym none))
                (λ (some : k ≡ 0 → ⊥).
                let last : k ≡ 1 = omega arith in
                (event'.0, subst (λ l. Contains l event'.0) (sym are) (Contains-append_right first second event'.0 event'.1), event'.2 ∙ sym last))
                (cases_eq k 0);
          }
