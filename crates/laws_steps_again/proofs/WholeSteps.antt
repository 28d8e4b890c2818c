-- The hook messages of a step that begins: its start, what it does, its end.
use Rattle.std.proofs.Common.{◌≡◌, ◌∙◌, ◌+◌, ◌<◌, ℕ, zero, suc, Bool, true, false, ◌||◌, not, List, [], ◌∷◌, ◌++◌, map, take, Option, Some, None, refl, sym, ap, arith}
use Rattle.std.specs.Prelude.{slice_get}
use Rattle.std.specs.List.{enumerate_from, list_any}
use Rattle.std.specs.Option.{option_map_or}
use Rattle.std.proofs.lemmas.Option.{same_Some}
use Rattle.apply_model.specs.declared.plan.step_kind.StepKind.{StepKind}
use Rattle.apply_model.specs.Script.Outcome.{fails, is_warned}
use Rattle.apply_model.specs.Script.OutcomeMap.{first_skipped, outcome_of}
use Rattle.apply_hooks.specs.declared.phase.Phase.{Phase}
use Rattle.apply_hooks.specs.Hooks.{first_halting}
use Rattle.apply_events.specs.declared.event.Event.{Event}
use Rattle.apply_events.specs.declared.what.What.TheVariants.{Start}
use Rattle.apply_events.specs.Diagnostics.{is_note}
use Rattle.apply_events.specs.Step.{Step, Work, address_of, kinds_applied, kinds_of, step_of}
use Rattle.apply_events.specs.StepEvents.{between, emits_end, end_of, event, seconds_of, step_events}
use Rattle.apply_events.specs.Waits.Schedule.{schedule}
use Rattle.apply_events.proofs.Waits.StartedTurns.{were_started}
use Rattle.apply_text.specs.Order.{hook_messages_of}
use Rattle.laws_run.proofs.WholeSteps.{whole}
use Rattle.laws_lanes.specs.Alike.{is_begun}
use Rattle.laws_lanes.proofs.WithEvents.{begun_is}
use Rattle.laws_begun.specs.Followed.{events_of_step, is_of_step}
use Rattle.laws_begun.proofs.InTurn.{filters_commute, none_among}
use Rattle.laws_begun.proofs.WholeEvents.{shown}
use Rattle.laws_steps_again.specs.Own.{IsOwn}

-- ---- steps of a change

-- the step of a number is made of the kind of that number
pub step_made : (work : Work) (c n k : ℕ) (kinds : List StepKind) (step : Step) → slice_get (map (λ p. step_of work c p.0 p.1) (enumerate_from n kinds)) k ≡ Some step
    → (kind : StepKind) × (slice_get kinds k ≡ Some kind) × (step ≡ step_of work c (n + k) kind)
step_made work c n k [] step at = absurd cc
step_made work c n zero (kind ∷ kinds) step at =
    let same : step ≡ step_of work c n kind = cc in
    let here : n ≡ n + 0 = omega arith in
    (kind, refl, same ∙ ap (λ m. step_of work c m kind) here)
step_made work c n (suc k) (kind ∷ kinds) step at =
    let rest = step_made work c (n + 1) k kinds step at in
    let there : n + 1 + k ≡ n + suc k = omega arith in
    (rest.0, rest.1, rest.2 ∙ ap (λ m. step_of work c m rest.0) there)

taken_at : {X : Type 0} (n k : ℕ) (xs : List X) (x : X) → slice_get (take n xs) k ≡ Some x → slice_get xs k ≡ Some x
taken_at zero k xs x at = absurd cc
taken_at (suc n) k [] x at = absurd cc
taken_at (suc n) zero (y ∷ xs) x at = at
taken_at (suc n) (suc k) (y ∷ xs) x at = taken_at n k xs x at

pub applied_at : (work : Work) (c k : ℕ) (kind : StepKind) → slice_get (kinds_applied work.plan work.script c) k ≡ Some kind → slice_get (kinds_of work.plan c) k ≡ Some kind
applied_at work c k kind at = of (first_skipped work.script c) at
  where
    of : (skipped : Option ℕ) → slice_get (option_map_or (λ n. take n (kinds_of work.plan c)) skipped (kinds_of work.plan c)) k ≡ Some kind → slice_get (kinds_of work.plan c) k ≡ Some kind
    of None at = at
    of (Some n) at = taken_at n k (kinds_of work.plan c) kind at

-- ---- a step that begins

-- the events of the step in a lane, from a second on
pub record HasEvents (work : Work) (events : List Event) (c k : ℕ) (kind : StepKind) : Type 0 where
  pub lane : ℕ
  pub begin : ℕ
  pub are : events_of_step c k (hook_messages_of events)
      ≡ event lane (step_of work c k kind) begin Start
      ∷ (map (λ p. event lane (step_of work c k kind) (begin + p.0) p.1) (between (step_of work c k kind))
      ++ event lane (step_of work c k kind) (begin + seconds_of (step_of work c k kind)) (end_of (fails (outcome_of work.script c k)) (seconds_of (step_of work c k kind))) ∷ [])

pub yes_or : (t : Bool) → (t || true) ≡ true
yes_or true = refl
yes_or false = refl

module _ (work : Work) (n : ℕ) (events : List Event) (own : IsOwn work n events) where
  some : 0 < n
  some = let one = own.some in omega (arith, one)

  pub begun_by_events : (c k : ℕ) → is_begun work (schedule work n) c k ≡ list_any (is_of_step c k) events
  begun_by_events c k = begun_is work n some events own.line c k

  shown_of : (c k : ℕ) → events_of_step c k (hook_messages_of events) ≡ hook_messages_of (events_of_step c k events)
  shown_of c k = filters_commute (is_of_step c k) (λ (event : Event). not (is_note event.what)) events

  pub has_events : (c k : ℕ) (kind : StepKind) → slice_get (kinds_of work.plan c) k ≡ Some kind → is_begun work (schedule work n) c k ≡ true → HasEvents work events c k kind
  has_events c k kind at begun =
      let one = whole work n (schedule work n) events (were_started work n some) own.line.interleaved (record { change = c; step = k }) (sym (begun_by_events c k) ∙ begun) in
      let made = step_made work c 0 k (kinds_applied work.plan work.script c) one.step one.is_step in
      let zeroth : 0 + k ≡ k = omega arith in
      let same : made.0 ≡ kind = same_Some made.0 kind (sym (applied_at work c k made.0 made.1) ∙ at) in
      let is : one.step ≡ step_of work c k kind = made.2 ∙ ap (λ m. step_of work c m made.0) zeroth ∙ ap (step_of work c k) same in
      let unhalted = λ (phase : Phase). ap (λ hooks. first_halting hooks (record { phase = phase; kind = kind; address = address_of work.plan c })) own.hooks in
      let ends : emits_end (fails (outcome_of work.script c k)) (is_warned (outcome_of work.script c k).result) ≡ true =
      ap (emits_end (fails (outcome_of work.script c k))) (own.ends c k) ∙ yes_or (fails (outcome_of work.script c k)) in record {
        lane = one.lane;
        begin = one.begin;
        are = shown_of c k ∙ ap hook_messages_of one.are_all ∙ ap (λ (s : Step). hook_messages_of (step_events one.lane s one.begin)) is
            ∙ shown one.lane (step_of work c k kind) one.begin unhalted ends;
      }

  pub has_none : (c k : ℕ) → is_begun work (schedule work n) c k ≡ false → events_of_step c k (hook_messages_of events) ≡ []
  has_none c k never =
      shown_of c k ∙ ap hook_messages_of (none_among c k events (sym (begun_by_events c k) ∙ never))
