-- Worked examples: the events of a few changes in a few lanes.
use Rattle.std.specs.Prelude.{◌≡◌, ℕ, List, [], ◌∷◌, Bool, true, false, Some, None, map, if◌then◌else◌}
use Rattle.apply_model.specs.declared.plan.key.Key.TheVariants as key
use Rattle.apply_model.specs.declared.plan.mode.Mode.TheVariants as mode
use Rattle.apply_model.specs.declared.plan.step_kind.StepKind.{StepKind}
use Rattle.apply_model.specs.declared.plan.step_kind.StepKind.TheVariants.{Create, Delete, Read, Update}
use Rattle.apply_model.specs.declared.script.diag.Diag.{Diag}
use Rattle.apply_model.specs.declared.script.ending.Ending.{Ending}
use Rattle.apply_model.specs.declared.script.ending.Ending.TheVariants.{Done, Failed, Warned}
use Rattle.apply_model.specs.declared.script.outcome.Outcome.{Outcome}
use Rattle.apply_model.specs.declared.script.provisioner.Provisioner.{Provisioner}
use Rattle.apply_model.specs.declared.script.script_step.ScriptStep.{ScriptStep}
use Rattle.apply_model.specs.declared.script.script_step.ScriptStep.TheVariants.{Answered, Skipped}
use Rattle.apply_model.specs.Plan.ResourceChange.{ResourceChange}
use Rattle.apply_hooks.specs.declared.phase.Phase.TheVariants.{Pre, PostDone}
use Rattle.apply_hooks.specs.declared.rule.Rule.{Rule}
use Rattle.apply_hooks.specs.declared.verdict.Verdict.TheVariants.{Halt}
use Rattle.apply_events.specs.Step.{Work}
use Rattle.apply_events.specs.declared.event.Event.{Event}
use Rattle.apply_events.specs.declared.what.What.{What}
use Rattle.apply_events.specs.declared.what.What.TheVariants.{Start, Progress, Complete, Errored, ErrorNote, WarnNote, Halted, ProvisionStart, ProvisionOutput, ProvisionComplete}
use Rattle.apply_events.specs.Waits.Merging.{time_line}
use Rattle.apply_model.specs.declared.script.wait.Wait.{Wait}

-- ---- what is applied

-- a step: how long it takes, its provisioners, how it ends, whether it is skipped, and what it
-- waits for
pub record ExampleStep : Type 0 where
  pub kind : StepKind
  pub seconds : ℕ
  pub provisioners : List Provisioner
  pub ending : Ending
  pub skipped : Bool
  pub waits : List Wait

-- a diagnostic without text
abbrev pub no_text : Diag
no_text = record { summary = []; detail = []; range = None; snippet = None }

-- a step that completes
abbrev pub completing : StepKind → (seconds : ℕ) → List Wait → ExampleStep
completing kind seconds waits =
    record { kind = kind; seconds = seconds; provisioners = []; ending = Done None None; skipped = false; waits = waits }

-- a step that fails
abbrev pub failing : StepKind → (seconds : ℕ) → List Wait → ExampleStep
failing kind seconds waits =
    record { kind = kind; seconds = seconds; provisioners = []; ending = Failed no_text; skipped = false; waits = waits }

-- a read whose failure only warns
abbrev pub warning : (seconds : ℕ) → List Wait → ExampleStep
warning seconds waits =
    record { kind = Read; seconds = seconds; provisioners = []; ending = Warned no_text; skipped = false; waits = waits }

-- a step that the script skips
abbrev pub skipped : StepKind → List Wait → ExampleStep
skipped kind waits =
    record { kind = kind; seconds = 0; provisioners = []; ending = Done None None; skipped = true; waits = waits }

-- a create with provisioners
abbrev pub provisioned : (seconds : ℕ) → List Provisioner → ExampleStep
provisioned seconds provisioners =
    record { kind = Create; seconds = seconds; provisioners = provisioners; ending = Done None None; skipped = false; waits = [] }

-- a provisioner that has an output after each of these seconds
abbrev pub putting_out : (seconds : ℕ) → List ℕ → Provisioner
putting_out seconds times = record {
  name = [];
  seconds = seconds;
  output = map (λ after. record { after = after; text = [] }) times;
  failed = None;
  may_fail = false;
}

-- the name of step k of change c
abbrev pub step : (c k : ℕ) → Wait
step c k = record { change = c; step = k }

-- the change of a plan with these steps
abbrev pub change_of : List ExampleStep → ResourceChange
change_of steps = record {
  address = [];
  module_address = [];
  mode = mode.Managed;
  kind_name = [];
  name = [];
  key = key.None;
  deposed = None;
  prior_id = None;
  steps = map (λ planned. planned.kind) steps;
}

-- the outcome of a step in the script
abbrev pub outcome_of_planned : ExampleStep → Outcome
outcome_of_planned planned = record {
  seconds = planned.seconds;
  provisioners = planned.provisioners;
  result = planned.ending;
  after = planned.waits;
}

-- the step in the script
abbrev pub step_of_planned : ExampleStep → ScriptStep
step_of_planned planned = if planned.skipped then Skipped planned.waits else Answered (outcome_of_planned planned)

-- a plan with these changes, its script, and hooks with these rules
abbrev pub work : List (List Rule) → List (List ExampleStep) → Work
work hooks changes = record {
  plan = record { version = []; changes = map change_of changes };
  script = map (λ steps. Some (map step_of_planned steps)) changes;
  hooks = hooks;
}

-- ---- what happens

-- the time of an event, its step, and what it is; the lane does not matter
pub record StepEvent : Type 0 where
  pub at : ℕ
  pub change : ℕ
  pub step : ℕ
  pub what : What

-- an event without its lane
abbrev pub step_event : Event → StepEvent
step_event event = record { at = event.at; change = event.change; step = event.step; what = event.what }

-- an event of the named step at that time
abbrev pub event_at : (at : ℕ) → Wait → What → StepEvent
event_at at name what = record { at = at; change = name.change; step = name.step; what = what }

-- the events of these changes in n lanes, without hooks
abbrev pub Happens : (n : ℕ) → List (List ExampleStep) → List StepEvent → Type 0
Happens n changes events = map step_event (time_line (work [] changes) n) ≡ events

-- ---- the examples

-- the first steps of the first five changes
abbrev pub a : Wait
a = step 0 0

abbrev pub b : Wait
b = step 1 0

abbrev pub c : Wait
c = step 2 0

abbrev pub d : Wait
d = step 3 0

abbrev pub e : Wait
e = step 4 0

-- b waits for a, and c for nothing
abbrev pub one_waits : List (List ExampleStep)
one_waits = (completing Create 2 [] ∷ []) ∷ (completing Create 1 (a ∷ []) ∷ []) ∷ (completing Create 4 [] ∷ []) ∷ []

-- one step waits for another
abbrev pub OneWaits : Type 0
OneWaits = Happens 2 one_waits
    (event_at 0 a Start ∷ event_at 0 c Start ∷ event_at 2 a (Complete 2) ∷ event_at 2 b Start ∷ event_at 3 b (Complete 1) ∷ event_at 4 c (Complete 4) ∷ [])

-- in one lane, the turn that is ready first goes first
abbrev pub OneWaitsInOneLane : Type 0
OneWaitsInOneLane = Happens 1 one_waits
    (event_at 0 a Start ∷ event_at 2 a (Complete 2) ∷ event_at 2 c Start ∷ event_at 6 c (Complete 4) ∷ event_at 6 b Start ∷ event_at 7 b (Complete 1) ∷ [])

-- steps that take no time: a waits for c, and b waits for a
abbrev pub NoTimeGoesBy : Type 0
NoTimeGoesBy = Happens 2 ((completing Create 0 (c ∷ []) ∷ []) ∷ (completing Create 0 (a ∷ []) ∷ []) ∷ (completing Create 0 [] ∷ []) ∷ [])
    (event_at 0 c Start ∷ event_at 0 c (Complete 0) ∷ event_at 0 a Start ∷ event_at 0 a (Complete 0) ∷ event_at 0 b Start ∷ event_at 0 b (Complete 0) ∷ [])

-- steps that wait come after what they wait for, even if their lane is lower
abbrev pub TwoWaitForOne : Type 0
TwoWaitForOne = Happens 2 ((completing Create 1 [] ∷ []) ∷ (completing Create 3 [] ∷ []) ∷ (completing Create 1 (b ∷ []) ∷ []) ∷ (completing Create 1 (b ∷ []) ∷ []) ∷ [])
    (event_at 0 a Start ∷ event_at 0 b Start ∷ event_at 1 a (Complete 1) ∷ event_at 3 b (Complete 3) ∷ event_at 3 c Start ∷ event_at 3 d Start ∷ event_at 4 c (Complete 1) ∷ event_at 4 d (Complete 1) ∷ [])

-- a step that waits for a failed step is left out, and so is a step that waits for that step
abbrev pub OneFails : Type 0
OneFails = Happens 10
    ((failing Create 2 [] ∷ []) ∷ (completing Create 1 (a ∷ []) ∷ []) ∷ (completing Create 1 (b ∷ d ∷ []) ∷ []) ∷ (completing Create 3 [] ∷ []) ∷ [])
    (event_at 0 a Start ∷ event_at 0 d Start ∷ event_at 2 a (Errored 2) ∷ event_at 2 a ErrorNote ∷ event_at 3 d (Complete 3) ∷ [])

-- a step waits for the later of two steps
abbrev pub OneWaitsForTwo : Type 0
OneWaitsForTwo = Happens 10 ((completing Delete 1 (b ∷ c ∷ []) ∷ []) ∷ (completing Delete 2 [] ∷ []) ∷ (completing Delete 3 [] ∷ []) ∷ [])
    (event_at 0 b Start ∷ event_at 0 c Start ∷ event_at 2 b (Complete 2) ∷ event_at 3 c (Complete 3) ∷ event_at 3 a Start ∷ event_at 4 a (Complete 1) ∷ [])

-- two replacements: what depends on the other is deleted first and created last
abbrev pub TwoReplacements : Type 0
TwoReplacements = Happens 10
    ((completing Delete 1 (b ∷ []) ∷ completing Create 2 [] ∷ []) ∷ (completing Delete 2 [] ∷ completing Create 1 (step 0 1 ∷ []) ∷ []) ∷ [])
    (event_at 0 b Start ∷ event_at 2 b (Complete 2) ∷ event_at 2 a Start ∷ event_at 3 a (Complete 1)
    ∷ event_at 3 (step 0 1) Start ∷ event_at 5 (step 0 1) (Complete 2) ∷ event_at 5 (step 1 1) Start ∷ event_at 6 (step 1 1) (Complete 1) ∷ [])

-- create before delete: the old object is deleted after the step that depends on it is updated
abbrev pub CreateFirst : Type 0
CreateFirst = Happens 10 ((completing Create 1 [] ∷ completing Delete 2 (b ∷ []) ∷ []) ∷ (completing Update 3 (a ∷ []) ∷ []) ∷ [])
    (event_at 0 a Start ∷ event_at 1 a (Complete 1) ∷ event_at 1 b Start ∷ event_at 4 b (Complete 3) ∷ event_at 4 (step 0 1) Start ∷ event_at 6 (step 0 1) (Complete 2) ∷ [])

-- if that update fails, the old object stays
abbrev pub CreateFirstAndFail : Type 0
CreateFirstAndFail = Happens 10 ((completing Create 1 [] ∷ completing Delete 2 (b ∷ []) ∷ []) ∷ (failing Update 3 (a ∷ []) ∷ []) ∷ [])
    (event_at 0 a Start ∷ event_at 1 a (Complete 1) ∷ event_at 1 b Start ∷ event_at 4 b (Errored 3) ∷ event_at 4 b ErrorNote ∷ [])

-- c waits for the first of two steps of a change
abbrev pub first_step_only : List (List ExampleStep)
first_step_only = (completing Delete 1 [] ∷ completing Create 1 [] ∷ []) ∷ (completing Create 0 [] ∷ []) ∷ (completing Create 1 (a ∷ []) ∷ []) ∷ []

-- a change of one turn holds its lane until its last step is over
abbrev pub FirstStepInOneLane : Type 0
FirstStepInOneLane = Happens 1 first_step_only
    (event_at 0 a Start ∷ event_at 1 a (Complete 1) ∷ event_at 1 (step 0 1) Start ∷ event_at 2 (step 0 1) (Complete 1)
    ∷ event_at 2 b Start ∷ event_at 2 b (Complete 0) ∷ event_at 2 c Start ∷ event_at 3 c (Complete 1) ∷ [])

-- a step that waits for the first step of a change begins before the change is over
abbrev pub FirstStepInTwoLanes : Type 0
FirstStepInTwoLanes = Happens 2 first_step_only
    (event_at 0 a Start ∷ event_at 0 b Start ∷ event_at 0 b (Complete 0) ∷ event_at 1 a (Complete 1) ∷ event_at 1 (step 0 1) Start
    ∷ event_at 1 c Start ∷ event_at 2 (step 0 1) (Complete 1) ∷ event_at 2 c (Complete 1) ∷ [])

-- a change of two turns gives its lane away between them
abbrev pub GivesItsLaneAway : Type 0
GivesItsLaneAway = Happens 1 ((completing Delete 1 [] ∷ completing Create 1 (a ∷ []) ∷ []) ∷ (completing Create 2 [] ∷ []) ∷ [])
    (event_at 0 a Start ∷ event_at 1 a (Complete 1) ∷ event_at 1 b Start ∷ event_at 3 b (Complete 2) ∷ event_at 3 (step 0 1) Start ∷ event_at 4 (step 0 1) (Complete 1) ∷ [])

-- a hook that halts before updates
abbrev pub no_updates : List (List Rule)
no_updates = (record { phase = Some Pre; kind = Some Update; address_begins = []; verdict = Halt } ∷ []) ∷ []

-- a step that waits for a halted step is left out
abbrev pub OneIsHalted : Type 0
OneIsHalted =
    map step_event (time_line (work no_updates ((completing Update 0 [] ∷ []) ∷ (completing Create 1 (a ∷ []) ∷ []) ∷ (completing Create 1 [] ∷ []) ∷ [])) 2)
    ≡ event_at 0 a (Halted Pre 0) ∷ event_at 0 c Start ∷ event_at 1 c (Complete 1) ∷ []

-- one change has no steps
abbrev pub NothingToDo : Type 0
NothingToDo = Happens 2 ([] ∷ (completing Delete 1 (c ∷ []) ∷ []) ∷ (completing Update 2 [] ∷ []) ∷ [])
    (event_at 0 c Start ∷ event_at 2 c (Complete 2) ∷ event_at 2 b Start ∷ event_at 3 b (Complete 1) ∷ [])

-- the turn that is ready first goes first, even if another change stands before it in the plan
abbrev pub ReadyFirstGoesFirst : Type 0
ReadyFirstGoesFirst = Happens 1
    ((completing Create 1 [] ∷ []) ∷ (completing Create 1 (d ∷ []) ∷ []) ∷ (completing Create 1 (a ∷ []) ∷ []) ∷ (completing Create 1 [] ∷ []) ∷ (completing Create 5 [] ∷ []) ∷ [])
    (event_at 0 a Start ∷ event_at 1 a (Complete 1) ∷ event_at 1 d Start ∷ event_at 2 d (Complete 1) ∷ event_at 2 e Start ∷ event_at 7 e (Complete 5)
    ∷ event_at 7 c Start ∷ event_at 8 c (Complete 1) ∷ event_at 8 b Start ∷ event_at 9 b (Complete 1) ∷ [])

-- ---- steps that are skipped

-- a change whose first step is skipped has no event, and steps that wait for one of its steps are
-- left out
abbrev pub FirstIsSkipped : Type 0
FirstIsSkipped = Happens 2
    ((skipped Delete [] ∷ completing Create 1 [] ∷ []) ∷ (completing Create 2 [] ∷ []) ∷ (completing Create 1 (a ∷ []) ∷ []) ∷ (completing Create 1 (step 0 1 ∷ []) ∷ []) ∷ [])
    (event_at 0 b Start ∷ event_at 2 b (Complete 2) ∷ [])

-- a change ends before its second step if that step is skipped
abbrev pub SecondIsSkipped : Type 0
SecondIsSkipped = Happens 1
    ((completing Create 1 [] ∷ skipped Delete (b ∷ []) ∷ []) ∷ (completing Update 3 (a ∷ []) ∷ []) ∷ (completing Create 1 (step 0 1 ∷ []) ∷ []) ∷ [])
    (event_at 0 a Start ∷ event_at 1 a (Complete 1) ∷ event_at 1 b Start ∷ event_at 4 b (Complete 3) ∷ [])

-- hooks are not called for a step that is skipped
abbrev pub SkippedIsNotHalted : Type 0
SkippedIsNotHalted = map step_event (time_line (work no_updates ((skipped Update [] ∷ []) ∷ (completing Create 1 [] ∷ []) ∷ [])) 2)
    ≡ event_at 0 b Start ∷ event_at 1 b (Complete 1) ∷ []

-- ---- reads that only warn

-- a read that only warns has a warning in place of its end, and a step that waits for the read
-- begins
abbrev pub OneOnlyWarns : Type 0
OneOnlyWarns = Happens 2 ((completing Create 2 [] ∷ []) ∷ (warning 11 [] ∷ []) ∷ (completing Create 1 (b ∷ []) ∷ []) ∷ [])
    (event_at 0 a Start ∷ event_at 0 b Start ∷ event_at 2 a (Complete 2) ∷ event_at 10 b (Progress 10) ∷ event_at 11 b WarnNote
    ∷ event_at 11 c Start ∷ event_at 12 c (Complete 1) ∷ [])

-- a change goes on after a read that only warns
abbrev pub OneGoesOnThoughItWarns : Type 0
OneGoesOnThoughItWarns = Happens 1 ((warning 1 [] ∷ completing Create 2 [] ∷ []) ∷ [])
    (event_at 0 a Start ∷ event_at 1 a WarnNote ∷ event_at 1 (step 0 1) Start ∷ event_at 3 (step 0 1) (Complete 2) ∷ [])

-- a hook that halts after reads that are done
abbrev pub no_more_reads : List (List Rule)
no_more_reads = (record { phase = Some PostDone; kind = Some Read; address_begins = []; verdict = Halt } ∷ []) ∷ []

-- a hook is called after a read that only warns; if the hook halts, a step that waits is left out
abbrev pub OneWarnsAndIsHalted : Type 0
OneWarnsAndIsHalted = map step_event (time_line (work no_more_reads ((warning 1 [] ∷ []) ∷ (completing Create 1 (a ∷ []) ∷ []) ∷ [])) 1)
    ≡ event_at 0 a Start ∷ event_at 1 a WarnNote ∷ event_at 1 a (Halted PostDone 0) ∷ []

-- ---- outputs of provisioners

-- each output comes at its own second, after the progress of the same second
abbrev pub OutputInItsTime : Type 0
OutputInItsTime = Happens 1 ((provisioned 3 (putting_out 12 (0 ∷ 7 ∷ 12 ∷ 12 ∷ []) ∷ []) ∷ []) ∷ [])
    (event_at 0 a Start ∷ event_at 3 a (ProvisionStart 0) ∷ event_at 3 a (ProvisionOutput 0 0) ∷ event_at 10 a (Progress 10) ∷ event_at 10 a (ProvisionOutput 0 1)
    ∷ event_at 15 a (ProvisionOutput 0 2) ∷ event_at 15 a (ProvisionOutput 0 3) ∷ event_at 15 a (ProvisionComplete 0) ∷ event_at 15 a (Complete 15) ∷ [])
