-- Turns: steps of a change that a lane runs as a whole, by the first step and their number.
use Rattle.apply_events.specs.declared.lanes.turn.Turn.{Turn}
use Rattle.std.specs.Prelude.{ℕ, ◌==◌, ◌&&◌, List, [], ◌∷◌, drop, length, take, if◌then◌else◌}
use Rattle.std.specs.List.{flat_map, range_with_len}
use Rattle.apply_events.specs.ChangeEvents.{begun}
use Rattle.apply_events.specs.Step.{Step, Work, kinds_applied, steps_of}
use Rattle.apply_model.specs.declared.script.wait.Wait.{Wait}
use Rattle.apply_model.specs.Script.OutcomeMap.{outcome_of}
use Rattle.apply_model.specs.Script.Waits.{names_a_wait, waits_of}

-- Step k of change c, alone.
abbrev pub single : (c k : ℕ) → Turn
single c k = record { change = c; first = k; count = 1 }

-- All applied steps of change c.
abbrev pub whole : Work → (c : ℕ) → Turn
whole work c = record { change = c; first = 0; count = length (kinds_applied work.plan work.script c) }

-- The turns of a change: one, or two for a change of two steps whose second step names a step to
-- wait for.
abbrev pub turns_of : Work → (c : ℕ) → List Turn
turns_of work c =
    if length (kinds_applied work.plan work.script c) == 2 && names_a_wait (outcome_of work.script c 1)
    then single c 0 ∷ single c 1 ∷ []
    else whole work c ∷ []

-- All turns, in the order of the plan.
abbrev pub turns : Work → List Turn
turns work = flat_map (turns_of work) (range_with_len 0 (length work.plan.changes))

-- The steps that a turn waits for: those of its first step, if it has one.
abbrev pub waits_of_turn : Work → Turn → List Wait
waits_of_turn work turn = if turn.count == 0 then [] else waits_of work.script turn.change turn.first

-- The steps of a turn that begin: all up to and with the first that does not go on.
abbrev pub begun_steps : Work → Turn → List Step
begun_steps work turn = begun (take turn.count (drop turn.first (steps_of work turn.change)))
