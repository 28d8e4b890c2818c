-- The planning as a work of an apply in lanes. Each told object is a change with one step, a read.
use Rattle.std.specs.Prelude.{ℕ, ◌+◌, ◌&&◌, Bool, true, false, not, List, [], ◌∷◌, Option, Some, None, map, sum_by, if◌then◌else◌}
use Rattle.std.specs.List.{list_any}
use Rattle.std.specs.Str.{bytes_eq}
use Rattle.apply_model.specs.declared.details.note.Note.{Note}
use Rattle.apply_model.specs.declared.details.note.Severity.{Severity}
use Rattle.apply_model.specs.declared.details.note.Severity.TheVariants.{Error, Warning}
use Rattle.apply_model.specs.declared.plan.step_kind.StepKind.TheVariants.{Read}
use Rattle.apply_model.specs.declared.script.diag.Diag.{Diag}
use Rattle.apply_model.specs.declared.script.ending.Ending.{Ending}
use Rattle.apply_model.specs.declared.script.ending.Ending.TheVariants.{Done, Failed, Warned}
use Rattle.apply_model.specs.declared.script.outcome.Outcome.{Outcome}
use Rattle.apply_model.specs.declared.script.script_step.ScriptStep.{ScriptStep}
use Rattle.apply_model.specs.declared.script.script_step.ScriptStep.TheVariants.{Answered}
use Rattle.apply_model.specs.declared.script.wait.Wait.{Wait}
use Rattle.apply_model.specs.Plan.ResourceChange.{ResourceChange}
use Rattle.apply_events.specs.Step.{Work}
use Rattle.apply_planning.specs.declared.told.Told.{Told}

-- ---- how an object ends

-- The severity is that of an error.
abbrev pub is_severe : Severity → Bool
is_severe Error = true
is_severe Warning = false

-- The object fails with an error, and is never done.
abbrev pub is_error : Option Note → Bool
is_error None = false
is_error (Some note) = is_severe note.severity

-- A step that fails with an error, or only warns.
abbrev pub ending_by : Severity → Diag → Ending
ending_by Error diag = Failed diag
ending_by Warning diag = Warned diag

-- How the step of an object ends.
abbrev pub ending_of : Option Note → Ending
ending_of None = Done None None
ending_of (Some note) = ending_by note.severity note.diag

-- ---- what an object waits for

-- The object waits for the other one: it depends on its name, and has another name itself.
abbrev pub is_needed : (one other : Told) → Bool
is_needed one other = list_any (λ name. bytes_eq name other.name) one.depends_on.items && not (bytes_eq one.name other.name)

-- The steps of these objects that an object waits for, where the first of them has the number k.
abbrev pub waits_from : (k : ℕ) → List Told → Told → List Wait
waits_from k [] one = []
waits_from k (other ∷ others) one =
    if is_needed one other then record { change = k; step = 0 } ∷ waits_from (k + 1) others one else waits_from (k + 1) others one

-- ---- the work

-- The object as a change with one step.
abbrev pub change_of : Told → ResourceChange
change_of one = record {
  address = one.object.address;
  module_address = one.object.module_address;
  mode = one.object.mode;
  kind_name = one.object.kind_name;
  name = one.object.name;
  key = one.object.key;
  deposed = one.object.deposed;
  prior_id = one.object.prior_id;
  steps = Read ∷ [];
}

-- The outcome of the step of an object, among these told objects.
abbrev pub outcome_of_told : List Told → Told → Outcome
outcome_of_told told one = record { seconds = one.seconds; provisioners = []; result = ending_of one.failure; after = waits_from 0 told one }

-- The step of an object as a script states it.
abbrev pub stated_of : List Told → Told → Option (List ScriptStep)
stated_of told one = Some (Answered (outcome_of_told told one) ∷ [])

-- The work of these told objects.
abbrev pub planning_work : List Told → Work
planning_work told = record {
  plan = record { version = []; changes = map change_of told };
  script = map (stated_of told) told;
  hooks = [];
}

-- ---- limits

-- How long all these objects take together, in seconds.
abbrev pub seconds_in_all : List Told → ℕ
seconds_in_all told = sum_by (λ one. one.seconds) told

-- The most seconds that told objects may take together: 10,000 days.
abbrev pub max_seconds_in_all : ℕ
max_seconds_in_all = 864000000
