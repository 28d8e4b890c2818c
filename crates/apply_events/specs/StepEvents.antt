-- The events of one step (Machine-Readable UI, "Operation Messages"; the hooks before and after
-- each action).
use Rattle.std.specs.Prelude.{ℕ, ◌+◌, List, [], ◌∷◌, ◌++◌, map, Bool, not, ◌&&◌, ◌||◌, is_some, is_none, if◌then◌else◌, option_map, option_to_list}
use Rattle.apply_model.specs.Script.Outcome.{seconds_of_all}
use Rattle.apply_hooks.specs.declared.phase.Phase.{Phase}
use Rattle.apply_hooks.specs.declared.phase.Phase.TheVariants.{Pre, PostDone, PostFailed}
use Rattle.apply_events.specs.declared.event.Event.{Event}
use Rattle.apply_events.specs.declared.what.What.{What}
use Rattle.apply_events.specs.declared.what.What.TheVariants.{Start, Complete, Errored, ErrorNote, WarnNote, Halted}
use Rattle.apply_events.specs.Provisions.{along}
use Rattle.apply_events.specs.Step.{Step}

-- How long a step takes if no hook halts it before its start, in seconds: its provider and the
-- provisioners that run.
abbrev pub seconds_of : Step → ℕ
seconds_of step = step.seconds_before + seconds_of_all step.ran + step.seconds_after

-- An event of a step at that second.
abbrev pub event : (worker : ℕ) → Step → (at : ℕ) → What → Event
event worker step at what = record { worker = worker; change = step.change; step = step.number; what = what; at = at }

-- The halt of a step in a phase, if a hook halts.
abbrev pub halts : (worker : ℕ) → Step → Phase → (at : ℕ) → List Event
halts worker step phase at =
    option_to_list (option_map (λ hook. event worker step at (Halted phase hook)) (step.halts phase))

-- The phase in which hooks are asked after a step that fails, or does not.
abbrev pub phase_after : (fails : Bool) → Phase
phase_after fails = if fails then PostFailed else PostDone

-- The event with which a step ends.
abbrev pub end_of : (fails : Bool) → (seconds : ℕ) → What
end_of fails seconds = if fails then Errored seconds else Complete seconds

-- The error or the warning after the end of a step.
abbrev pub notes : (fails warns : Bool) → List What
notes fails warns = if fails then ErrorNote ∷ [] else if warns then WarnNote ∷ [] else []

-- The step has an end event. Only a step that warns in place of its end, and has not failed, has
-- none.
abbrev pub emits_end : (fails only_warns : Bool) → Bool
emits_end fails only_warns = fails || not only_warns

-- The events at the end of a step, without a halt. A step without an end event has only its
-- warning.
abbrev pub endings : Step → List What
endings step =
    if emits_end step.fails step.only_warns
    then end_of step.fails (seconds_of step) ∷ notes step.fails step.warns
    else WarnNote ∷ []

-- The events between the start and the end of a step, and after how many seconds each comes. The
-- provisioners begin after the provider's seconds before them. Progress comes before, within and
-- after them.
abbrev pub between : Step → List (ℕ × What)
between step = along (seconds_of step) 0 0 step.seconds_before step.ran

-- The events of a step that starts at `at`.
abbrev pub start_events : (worker : ℕ) → Step → (at : ℕ) → List Event
start_events worker step at =
    event worker step at Start ∷ []
    ++ map (λ p. event worker step (at + p.0) p.1) (between step)
    ++ map (λ what. event worker step (at + seconds_of step) what) (endings step)
    ++ halts worker step (phase_after step.fails) (at + seconds_of step)

-- The events of a step that begins at `at`. If a hook halts it before its start, the halt is its
-- only event.
abbrev pub step_events : (worker : ℕ) → Step → (at : ℕ) → List Event
step_events worker step at = if is_some (step.halts Pre) then halts worker step Pre at else start_events worker step at

-- How long the step takes, in seconds.
abbrev pub step_time : Step → ℕ
step_time step = if is_some (step.halts Pre) then 0 else seconds_of step

-- The step does not fail, and no hook halts.
abbrev pub goes_on : Step → Bool
goes_on step = is_none (step.halts Pre) && not step.fails && is_none (step.halts PostDone)
