-- Works whose steps go alike: the same seconds, provisioners, ends and waits. Diagnostics may
-- differ.
use Rattle.std.specs.Prelude.{◌≡◌, ◌<◌, ◌≤◌, ◌⊎◌, ◌==◌, ◌&&◌, ⊤, ℕ, List, [], ◌∷◌, filter, length, slice_get, not, Bool, true, false, Some, None}
use Rattle.std.specs.List.{Contains, list_any}
use Rattle.apply_model.specs.declared.plan.step_kind.StepKind.{StepKind}
use Rattle.apply_model.specs.declared.script.outcome.Outcome.{Outcome}
use Rattle.apply_model.specs.declared.script.provisioner.Provisioner.{Provisioner}
use Rattle.apply_model.specs.declared.script.wait.Wait.{Wait}
use Rattle.apply_model.specs.Script.Outcome.{fails, has_failed, is_warned, makes_fail, ran, seconds_after, seconds_before}
use Rattle.apply_model.specs.Script.OutcomeMap.{outcome_of}
use Rattle.apply_model.specs.Script.Waits.{names_a_wait, waits_of}
use Rattle.apply_events.specs.declared.event.Event.{Event}
use Rattle.apply_events.specs.declared.lanes.turn.StartedTurn.{StartedTurn}
use Rattle.apply_events.specs.Diagnostics.{is_note}
use Rattle.apply_events.specs.Step.{Work, kinds_applied, kinds_of}
use Rattle.apply_events.specs.Waits.Done.{done_at}
use Rattle.apply_events.specs.Waits.Schedule.{schedule}
use Rattle.apply_events.specs.Waits.Turn.{begun_steps}

-- The events whose messages come from hooks: all but diagnostics.
abbrev pub hooks_of : List Event → List Event
hooks_of events = filter (λ event. not (is_note event.what)) events

-- ---- one step

-- Two provisioners run alike, as far as messages show it.
pub record RunsAlike (one other : Provisioner) : Type 0 where
  pub name : other.name ≡ one.name
  pub seconds : other.seconds ≡ one.seconds
  pub output : other.output ≡ one.output
  pub failed : has_failed other ≡ has_failed one
  pub fatal : makes_fail other ≡ makes_fail one

abbrev pub RunAlike : (ones others : List Provisioner) → Type 0
RunAlike [] [] = ⊤
RunAlike [] (other ∷ others) = ⊥
RunAlike (one ∷ ones) [] = ⊥
RunAlike (one ∷ ones) (other ∷ others) = RunsAlike one other × RunAlike ones others

-- Two outcomes of a step of this kind make the same messages, but for diagnostics and ids. Both
-- have an end.
pub record IsAnsweredAlike (kind : StepKind) (one other : Outcome) : Type 0 where
  pub before : seconds_before kind other ≡ seconds_before kind one
  pub ran : RunAlike (ran one.provisioners) (ran other.provisioners)
  pub after : seconds_after kind other ≡ seconds_after kind one
  pub fails : fails other ≡ fails one
  pub ends : is_warned one.result ≡ false
  pub other_ends : is_warned other.result ≡ false

-- ---- all steps

-- Step k of change c begins in one of the started turns.
abbrev pub is_begun : Work → List StartedTurn → (c k : ℕ) → Bool
is_begun work started c k =
    list_any (λ one. one.turn.change == c && list_any (λ step. step.number == k) (begun_steps work one.turn)) started

-- A step that begins in the first work is applied in the second, with a like outcome and the same
-- waits, in any order.
pub record BeginsAlike (work other : Work) (c k : ℕ) (kind : StepKind) : Type 0 where
  pub applied : k < length (kinds_applied other.plan other.script c)
  pub alike : IsAnsweredAlike kind (outcome_of work.script c k) (outcome_of other.script c k)
  pub waits : (name : Wait) → Contains (waits_of work.script c k) name → Contains (waits_of other.script c k) name
  pub no_more : (name : Wait) → Contains (waits_of other.script c k) name → Contains (waits_of work.script c k) name
  pub named : names_a_wait (outcome_of other.script c k) ≡ names_a_wait (outcome_of work.script c k)

-- In the second work, the step waits for one that is never done in the first.
pub record WaitsInVain (work other : Work) (n c k : ℕ) : Type 0 where
  pub name : Wait
  pub waits : Contains (waits_of other.script c k) name
  pub never : done_at work (schedule work n) name ≡ None

-- The second work is of the same plan, whose changes have at most two steps. Steps that begin in
-- the first begin alike; other steps are not applied, or wait in vain.
pub record GoesAlike (work other : Work) (n : ℕ) : Type 0 where
  pub plan : other.plan ≡ work.plan
  pub hooks : work.hooks ≡ []
  pub other_hooks : other.hooks ≡ []
  pub some : 1 ≤ n
  pub few : (c : ℕ) → length (kinds_of work.plan c) ≤ 2
  pub begun : (c k : ℕ) (kind : StepKind) → is_begun work (schedule work n) c k ≡ true
      → slice_get (kinds_of work.plan c) k ≡ Some kind → BeginsAlike work other c k kind
  pub left_out : (c k : ℕ) → k < length (kinds_of work.plan c) → is_begun work (schedule work n) c k ≡ false
      → (length (kinds_applied other.plan other.script c) ≤ k) ⊎ WaitsInVain work other n c k
