-- The steps that `after` items name (the script's own format).
use Rattle.std.specs.Prelude.{ℕ, List, length, find, nat_lt, if◌then◌else◌, Option, Some, None, option_and_then}
use Rattle.std.specs.List.{enumerate_from, filter_map}
use Rattle.apply_model.specs.declared.script.outcome.Outcome.{Outcome}
use Rattle.apply_model.specs.declared.script.script_step.ScriptStep.{ScriptStep}
use Rattle.apply_model.specs.declared.script.script_step.ScriptStep.TheVariants.{Answered, Skipped}
use Rattle.apply_model.specs.declared.script.wait.Wait.{Wait}
use Rattle.apply_model.specs.Plan.ResourceChange.{ResourceChange}
use Rattle.apply_resolve.specs.WaitedStep as of_step
use Rattle.apply_resolve.specs.ObjectName.{name_one_object}
use Rattle.apply_plan.specs.Script.Entry.{EntryStep, WaitName}

-- the change with the name, and its number
abbrev pub change_waited : List ResourceChange → WaitName → Option (ℕ × ResourceChange)
change_waited changes name =
    find (λ p. name_one_object p.1.address p.1.deposed name.address name.deposed) (enumerate_from 0 changes)

-- the number of the step in a change of `count` steps: as stated, or the last one
abbrev pub number_waited : (count : ℕ) → WaitName → ℕ
number_waited count name = of_step.waited_number count name.step

-- the named step of a change; none if the change has no such step
abbrev pub step_of_change : WaitName → ℕ × ResourceChange → Option Wait
step_of_change name located =
    if nat_lt (number_waited (length located.1.steps) name) (length located.1.steps)
    then Some (record { change = located.0; step = number_waited (length located.1.steps) name })
    else None

-- the named step; a change without steps has none
abbrev pub step_waited : List ResourceChange → WaitName → Option Wait
step_waited changes name = option_and_then (step_of_change name) (change_waited changes name)

-- a step with the steps that it waits for, whether it is skipped or not
abbrev pub with_waits : Option Outcome → List Wait → ScriptStep
with_waits None after = Skipped after
with_waits (Some outcome) after = Answered (record outcome { after = after })

-- a step of an entry, with the steps that it waits for
abbrev pub resolved_step : List ResourceChange → EntryStep → ScriptStep
resolved_step changes step = with_waits step.outcome (filter_map (step_waited changes) step.after)
