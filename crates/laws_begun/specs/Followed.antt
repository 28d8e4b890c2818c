-- Events of whole steps, and what is known of each step by its lines.
use Rattle.std.specs.Prelude.{◌≡◌, ◌≢◌, ◌<◌, ℕ, ℤ, pos, ◌+ℤ◌, ◌==◌, ◌&&◌, ◌||◌, List, [], ◌∷◌, ◌++◌, All, filter, length, map, slice_get, Bool, true, false, ⊤, Option, Some, None}
use Rattle.std.specs.List.{Contains, enumerate_from, filter_map, find}
use Rattle.apply_model.specs.declared.plan.step_kind.StepKind.{StepKind}
use Rattle.apply_model.specs.declared.plan.step_kind.StepKind.TheVariants.{Create, Delete}
use Rattle.apply_model.specs.Plan.StepKind.{is_kind}
use Rattle.apply_model.specs.Plan.ResourceChange.{ResourceChange}
use Rattle.apply_model.specs.Plan.SavedPlan.{SavedPlan}
use Rattle.apply_events.specs.declared.event.Event.{Event}
use Rattle.apply_events.specs.declared.what.What.{What}
use Rattle.apply_events.specs.declared.what.What.TheVariants.{Start, Progress, Complete, Errored, ProvisionStart, ProvisionOutput, ProvisionComplete, ProvisionErrored}
use Rattle.apply_events.specs.Step.{kinds_of}
use Rattle.stream_record_steps.specs.Begun.{Begun, begun_at}
use Rattle.stream_record_steps.specs.Steps.{PlannedStep, planned_steps}
use Rattle.stream_record_steps.specs.Tallies.{no_lines}
use Rattle.stream_record_steps.specs.declared.begun_step.BegunStep.{BegunStep}
use Rattle.stream_record_steps.specs.declared.begun_step.EndResult.{EndResult}
use Rattle.stream_record_steps.specs.declared.begun_step.EndResult.TheVariants as end_result
use Rattle.stream_record_steps.specs.declared.step_facts.StepFact.{StepFact}
use Rattle.stream_record_steps.specs.declared.step_facts.Stated.{Stated}
use Rattle.stream_record_steps.specs.declared.step_facts.Stated.TheVariants as stated
use Rattle.apply_model.specs.Script.OutcomeMap.{outcome_of}
use Rattle.apply_text.specs.Message.{name_of, output_of}
use Rattle.laws_begun.specs.Telling.{Telling, id_key}

-- ---- which events

abbrev pub is_of_change : (c : ℕ) → Event → Bool
is_of_change c event = event.change == c

abbrev pub is_of_step : (c k : ℕ) → Event → Bool
is_of_step c k event = event.change == c && event.step == k

abbrev pub events_of_step : (c k : ℕ) → List Event → List Event
events_of_step c k events = filter (is_of_step c k) events

-- The end of a step, and what a step does between its start and its end. Provisioners are among it.
abbrev pub is_end : What → Bool
is_end (Complete seconds) = true
is_end (Errored seconds) = true
is_end _ = false

abbrev pub is_fact : What → Bool
is_fact (Progress seconds) = true
is_fact (ProvisionStart i) = true
is_fact (ProvisionOutput i line) = true
is_fact (ProvisionComplete i) = true
is_fact (ProvisionErrored i) = true
is_fact _ = false

-- ---- whole steps

-- The hook messages of a whole step: its start, what it does, its end.
pub record IsWhole (events : List Event) : Type 0 where
  pub start : Event
  pub facts : List Event
  pub end : Event
  pub are : events ≡ start ∷ (facts ++ end ∷ [])
  pub starts : start.what ≡ Start
  pub are_facts : All (λ event. is_fact event.what ≡ true) facts
  pub ends : is_end end.what ≡ true

-- No message of the step, or those of a whole step.
abbrev pub IsWholeOrNone : List Event → Type 0
IsWholeOrNone [] = ⊤
IsWholeOrNone (event ∷ events) = IsWhole (event ∷ events)

abbrev pub is_completion : What → Bool
is_completion (Complete seconds) = true
is_completion _ = false

-- What a provisioner does.
abbrev pub is_of_provisioner : What → Bool
is_of_provisioner (ProvisionStart i) = true
is_of_provisioner (ProvisionOutput i line) = true
is_of_provisioner (ProvisionComplete i) = true
is_of_provisioner (ProvisionErrored i) = true
is_of_provisioner _ = false

-- A step of this kind may have provisioners.
abbrev pub may_be_provisioned : StepKind → Bool
may_be_provisioned kind = is_kind Create kind || is_kind Delete kind

-- No address stands twice among the changes of a plan that have steps.
abbrev pub HasAddressesApart : SavedPlan → Type 0
HasAddressesApart plan = (c d : ℕ) (one other : ResourceChange) → slice_get plan.changes c ≡ Some one
    → slice_get plan.changes d ≡ Some other → one.steps ≢ [] → other.steps ≢ [] → one.address ≡ other.address → c ≡ d

-- Addresses are apart, and a change has at most two steps, of different kinds.
pub record AreApart (plan : SavedPlan) : Type 0 where
  pub addresses : HasAddressesApart plan
  pub few : (c : ℕ) → length (kinds_of plan c) < 3
  pub kinds : (c : ℕ) (kind : StepKind) → slice_get (kinds_of plan c) 0 ≡ Some kind → slice_get (kinds_of plan c) 1 ≡ Some kind → ⊥

-- The hook messages of whole steps of a plan, in any interleaving: those of a second step come after
-- those of the first, which completed. Only creates and deletes have provisioners.
pub record AreWhole (plan : SavedPlan) (events : List Event) : Type 0 where
  pub apart : AreApart plan
  pub known : All (λ event. event.step < length (kinds_of plan event.change)) events
  pub steps : (c k : ℕ) → IsWholeOrNone (events_of_step c k events)
  pub in_turn : (c : ℕ) → filter (is_of_change c) events ≡ events_of_step c 0 events ++ events_of_step c 1 events
  pub completed : (c : ℕ) → events_of_step c 1 events ≢ []
      → (event : Event) × Contains (events_of_step c 0 events) event × (is_completion event.what ≡ true)
  pub provisioners : All (λ event. is_of_provisioner event.what ≡ true → (kind : StepKind)
      → slice_get (kinds_of plan event.change) event.step ≡ Some kind → may_be_provisioned kind ≡ true) events

-- ---- what is known of a step

abbrev pub fact_of : Telling → (change step : ℕ) → What → Stated
fact_of telling c k (Progress seconds) = stated.Progress seconds
fact_of telling c k (ProvisionStart i) = stated.ProvisionerBegan (name_of (outcome_of telling.script c k) i)
fact_of telling c k (ProvisionOutput i line) = stated.Wrote (output_of (outcome_of telling.script c k) i line)
fact_of telling c k (ProvisionComplete i) = stated.ProvisionerEnded
fact_of telling c k (ProvisionErrored i) = stated.ProvisionerFailed
fact_of telling c k _ = stated.ProvisionerEnded

abbrev pub step_fact : Telling → (start : ℤ) → Event → StepFact
step_fact telling start event =
    record { second = start +ℤ pos event.at; stated = fact_of telling event.change event.step event.what }

abbrev pub result_of : Telling → (change step : ℕ) → What → EndResult
result_of telling c k (Errored seconds) = end_result.Failed
result_of telling c k _ = end_result.Completed (id_key (telling.id c k)) (telling.id c k)

abbrev pub seconds_in : What → ℕ
seconds_in (Complete seconds) = seconds
seconds_in (Errored seconds) = seconds
seconds_in _ = 0

-- The events with the numbers of their lines; the first line has this number.
abbrev pub numbered : (first : ℕ) → List Event → List (ℕ × Event)
numbered first events = enumerate_from first events

abbrev pub numbered_of_step : (c k : ℕ) → List (ℕ × Event) → List (ℕ × Event)
numbered_of_step c k lines = filter (λ line. is_of_step c k line.1) lines

-- What is known of a step by its own lines.
pub record IsKnown (telling : Telling) (start : ℤ) (kind : StepKind) (lines : List (ℕ × Event)) (step : BegunStep) : Type 0 where
  pub began : ℕ × Event
  pub facts : List (ℕ × Event)
  pub ended : ℕ × Event
  pub are : lines ≡ began ∷ (facts ++ ended ∷ [])
  pub kind_is : step.kind ≡ kind
  pub line : step.line ≡ began.0
  pub second : step.second ≡ start +ℤ pos began.1.at
  pub facts_are : step.facts ≡ map (λ line. step_fact telling start line.1) facts
  pub end : step.end ≡ Some (record {
    line = ended.0;
    seconds = seconds_in ended.1.what;
    result = result_of telling ended.1.change ended.1.step ended.1.what;
  })

-- What is known of a step that has these lines: nothing without a line.
abbrev pub IsKnownBy : Telling → (start : ℤ) → StepKind → (lines : List (ℕ × Event)) → Option BegunStep → Type 0
IsKnownBy telling start kind [] known = known ≡ None
IsKnownBy telling start kind (line ∷ lines) None = ⊥
IsKnownBy telling start kind (line ∷ lines) (Some step) = IsKnown telling start kind (line ∷ lines) step

-- ---- all steps

-- The place of a step of the plan, by the numbers of its change and of itself.
abbrev pub is_numbered : (c k : ℕ) → PlannedStep → Bool
is_numbered c k step = step.change_number == c && step.number == k

-- The places of the steps of these events, in their order.
abbrev pub places_of : SavedPlan → List Event → List ℕ
places_of plan events =
    map (λ step. step.place) (filter_map (λ event. find (is_numbered event.change event.step) (planned_steps plan.changes)) events)

abbrev pub is_start : What → Bool
is_start Start = true
is_start _ = false

-- After the lines of these events each step is known by its own lines, and no line is odd. The steps
-- began and ended in the order of their starts and ends.
pub record AreFollowed (telling : Telling) (start : ℤ) (first : ℕ) (events : List Event) (begun : Begun) : Type 0 where
  pub planned : begun.planned ≡ planned_steps telling.plan.changes
  pub each : length begun.by_step ≡ length begun.planned
  pub steps : (step : PlannedStep) → Contains (planned_steps telling.plan.changes) step
      → IsKnownBy telling start step.kind (numbered_of_step step.change_number step.number (numbered first events)) (begun_at begun.by_step step.place)
  pub begins : begun.begins ≡ places_of telling.plan (filter (λ event. is_start event.what) events)
  pub ends : begun.ends ≡ places_of telling.plan (filter (λ event. is_end event.what) events)
  pub no_strays : begun.strays ≡ []
  pub none_odd : begun.odd ≡ no_lines
