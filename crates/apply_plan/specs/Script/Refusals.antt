-- Faults of the steps of an entry with valid members, and of what the steps wait for
-- (the script's own format).
use Rattle.std.specs.Prelude.{ℕ, ◌+◌, ◌==◌, List, length, map, sum_by, Bool, false, not, ◌&&◌, ◌||◌, is_none, is_some, nat_le, nat_lt, if◌then◌else◌, Option, Some, None}
use Rattle.std.specs.List.{enumerate_from, list_any, zip}
use Rattle.std.specs.Option.{option_map_or, option_or}
use Rattle.apply_model.specs.declared.plan.step_kind.StepKind.{StepKind}
use Rattle.apply_model.specs.declared.plan.step_kind.StepKind.TheVariants.{Create, Delete, Read}
use Rattle.apply_model.specs.declared.script.outcome.Outcome.{Outcome}
use Rattle.apply_plan.specs.declared.script.script_error.ScriptError.{ScriptError}
use Rattle.apply_plan.specs.declared.script.script_error.ScriptError.TheVariants.{TooManySteps, SecondsRange, TooManyProvisioners, TooMuchOutput, NotACreate, WarnsNotARead, TooManyWaits, UnknownWait, NoSuchStep}
use Rattle.apply_model.specs.Plan.ResourceChange.{ResourceChange}
use Rattle.apply_model.specs.Plan.StepKind.{is_kind}
use Rattle.apply_model.specs.Script.Limits.{max_waits}
use Rattle.apply_model.specs.Script.Outcome.{has_too_many_provisioners, has_too_much_output, is_too_long, is_warned}
use Rattle.apply_plan.specs.Script.Entry.{EntryStep, WaitName}
use Rattle.apply_plan.specs.Script.WaitedStep.{change_waited}

-- whether the outcome of a step passes a test; a skipped step passes none
abbrev pub passes : (Outcome → Bool) → Option Outcome → Bool
passes test outcome = option_map_or test outcome false

-- whether a step can run provisioners: a create, or a delete that is the first step of a change
-- whose object is not deposed
abbrev pub takes_provisioners : (deposed : Bool) → ℕ × StepKind → Bool
takes_provisioners deposed step = is_kind Create step.1 || (is_kind Delete step.1 && (step.0 == 0 && not deposed))

abbrev pub has_provisioners : Outcome → Bool
has_provisioners outcome = nat_lt 0 (length outcome.provisioners)

-- whether a step has provisioners that it cannot run
abbrev pub misplaces_provisioners : (deposed : Bool) → (ℕ × StepKind) × Option Outcome → Bool
misplaces_provisioners deposed step = passes has_provisioners step.1 && not (takes_provisioners deposed step.0)

-- whether the provider of a step fails with only a warning
abbrev pub only_warns : Outcome → Bool
only_warns outcome = is_warned outcome.result

-- whether a step other than a read fails with only a warning
abbrev pub warns_not_a_read : (ℕ × StepKind) × Option Outcome → Bool
warns_not_a_read step = passes only_warns step.1 && not (is_kind Read step.0.1)

-- the first fault of the steps of entry n, by the kinds of the steps of its change
unfoldable pub fault_of_steps : (n : ℕ) → (deposed : Bool) → List StepKind → List (Option Outcome) → Option ScriptError
fault_of_steps n deposed kinds steps =
    if nat_lt (length kinds) (length steps) then Some (TooManySteps n)
    else if list_any (passes is_too_long) steps then Some (SecondsRange n)
    else if list_any (passes has_too_many_provisioners) steps then Some (TooManyProvisioners n)
    else if list_any (passes has_too_much_output) steps then Some (TooMuchOutput n)
    else if list_any (misplaces_provisioners deposed) (zip (enumerate_from 0 kinds) steps) then Some (NotACreate n)
    else if list_any warns_not_a_read (zip (enumerate_from 0 kinds) steps) then Some (WarnsNotARead n)
    else None

-- how many items the `after` lists of the steps have
abbrev pub count_of_waits : List EntryStep → ℕ
count_of_waits steps = sum_by (λ step. length step.after) steps

-- whether an item of these `after` lists passes a test
abbrev pub is_any_wait : (WaitName → Bool) → List EntryStep → Bool
is_any_wait test steps = list_any (λ step. list_any test step.after) steps

-- whether no change of the plan has the name
abbrev pub is_unknown : List ResourceChange → WaitName → Bool
is_unknown changes name = is_none (change_waited changes name)

-- whether a change has the name, but no step with the number
abbrev pub lacks_step : List ResourceChange → WaitName → Bool
lacks_step changes name =
    option_map_or
    (λ located. option_map_or (λ number. nat_le (length located.1.steps) number) name.step false)
    (change_waited changes name) false

-- the first fault of the names in the `after` lists of entry n
abbrev pub fault_of_names : (n : ℕ) → List ResourceChange → List EntryStep → Option ScriptError
fault_of_names n changes steps =
    if is_any_wait (is_unknown changes) steps then Some (UnknownWait n)
    else if is_any_wait (lacks_step changes) steps then Some (NoSuchStep n)
    else None

-- the first fault of the `after` lists of entry n; the entries before it have `earlier` items
unfoldable pub fault_of_waits : (n : ℕ) → List ResourceChange → (earlier : ℕ) → List EntryStep → Option ScriptError
fault_of_waits n changes earlier steps =
    if nat_lt max_waits (earlier + count_of_waits steps) then Some (TooManyWaits n) else fault_of_names n changes steps

-- the first fault of the steps of entry n, for this change
abbrev pub fault_of_entry : (n : ℕ) → List ResourceChange → (earlier : ℕ) → ResourceChange → List EntryStep → Option ScriptError
fault_of_entry n changes earlier change steps =
    option_or (fault_of_steps n (is_some change.deposed) change.steps (map (λ step. step.outcome) steps))
    (fault_of_waits n changes earlier steps)
