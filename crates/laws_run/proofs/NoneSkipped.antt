-- No event is of a skipped step, or of a step after a skipped step in the same change.
use Rattle.std.proofs.Common.{◌≡◌, ◌≢◌, ℕ, ◌<◌, ◌≤◌, All, List, [], Some, get_or, length, take, sym, ap, subst, ⊎_elim, arith}
use Rattle.std.specs.Option.{option_map_or}
use Rattle.std.proofs.lemmas.Bool.{cases_lt}
use Rattle.std.proofs.lemmas.List.Elements.{All-nil, All-weaker}
use Rattle.apply_model.specs.Script.OutcomeMap.{first_skipped}
use Rattle.apply_events.specs.declared.event.Event.{Event}
use Rattle.apply_events.specs.Fits.{IsApplied}
use Rattle.apply_events.specs.Interleaving.{IsInterleaving}
use Rattle.apply_events.specs.Step.{Work, kinds_applied, kinds_of}
use Rattle.apply_events.specs.WorkerEvents.{worker_events}
use Rattle.apply_events.proofs.TimeLines.Merge.{all_parts}
use Rattle.apply_events.proofs.TimeLines.Order.{nobody_else}
use Rattle.apply_events.proofs.WorkerLists.{IsOfApplied, worker_applied}

pub of_workers : (work : Work) (workers : ℕ) (lists : List (List ℕ)) (events : List Event)
    → IsInterleaving workers (λ worker. worker_events work worker (get_or lists worker [])) events → All (IsOfApplied work) events
of_workers work workers lists events interleaved = all_parts (IsOfApplied work) events (λ w. ⊎_elim
    (λ (lt : w < workers). subst (All (IsOfApplied work)) (sym (interleaved.parts w lt)) (worker_applied work w (get_or lists w [])))
    (λ (ge : workers ≤ w). subst (All (IsOfApplied work)) (sym (nobody_else workers events interleaved.named w ge)) (All-nil (IsOfApplied work)))
    (cases_lt w workers))

pub in_no_lane : (work : Work) (n : ℕ) (events : List Event) → n ≤ 0 → All (λ e. e.worker < n) events → All (IsOfApplied work) events
in_no_lane work n events none named = All-weaker (λ (e : Event). e.worker < n) (IsOfApplied work) (λ e lt. absurd (omega arith)) events named

-- no step of a change is applied if its first step is skipped
no_step : (work : Work) (c k : ℕ) → first_skipped work.script c ≡ Some 0 → IsApplied work.plan work.script c k → ⊥
no_step work c k is applied =
    let none : length (kinds_applied work.plan work.script c) ≡ 0 = ap (λ first. length (option_map_or (λ j. take j (kinds_of work.plan c)) first (kinds_of work.plan c))) is in
    omega arith

pub none_of_change : (work : Work) (c : ℕ) (events : List Event) → first_skipped work.script c ≡ Some 0 → All (IsOfApplied work) events → All (λ e. e.change ≢ c) events
none_of_change work c events is all =
    All-weaker (IsOfApplied work) (λ (e : Event). e.change ≢ c)
    (λ e applied same. no_step work c e.step is (subst (λ x. IsApplied work.plan work.script x e.step) same applied)) events all
