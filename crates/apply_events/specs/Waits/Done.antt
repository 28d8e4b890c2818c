-- When steps are done and turns are ready, in view of the turns that were started.
use Rattle.apply_events.specs.declared.lanes.turn.StartedTurn.{StartedTurn}
use Rattle.std.specs.Prelude.{ℕ, ◌==◌, List, [], ◌∷◌, Option, Some, None, option_map, if◌then◌else◌}
use Rattle.apply_events.specs.Step.{Step, Work}
use Rattle.apply_events.specs.StepEvents.{goes_on, step_time}
use Rattle.apply_events.specs.declared.lanes.lane_time.LaneTime.{LaneTime}
use Rattle.apply_events.specs.Waits.LaneTime.{first_lane_time, later_by, later_of, next_round}
use Rattle.apply_model.specs.declared.script.wait.Wait.{Wait}
use Rattle.apply_events.specs.declared.lanes.turn.Turn.{Turn}
use Rattle.apply_events.specs.Waits.Turn.{begun_steps, waits_of_turn}

-- ---- done

-- When the last of these steps ends. Each step begins where the step before it ends.
abbrev pub end_after : LaneTime → List Step → LaneTime
end_after at [] = at
end_after at (step ∷ steps) = end_after (later_by (step_time step) at) steps

-- When a started turn ends.
abbrev pub end_of_turn : Work → StartedTurn → LaneTime
end_of_turn work started = end_after started.begin (begun_steps work started.turn)

-- When step k is done, where these steps begin one after another. It is never done if it is not
-- among them, or does not go on.
abbrev pub done_among : (k : ℕ) → LaneTime → List Step → Option LaneTime
done_among k at [] = None
done_among k at (step ∷ steps) =
    if step.number == k
    then (if goes_on step then Some (later_by (step_time step) at) else None)
    else done_among k (later_by (step_time step) at) steps

-- When a step is done in a started turn. It is never done in a turn of another change.
abbrev pub done_in : Work → StartedTurn → Wait → Option LaneTime
done_in work started name =
    if started.turn.change == name.change
    then done_among name.step started.begin (begun_steps work started.turn)
    else None

-- The first of two values that exists.
abbrev pub first_some : {X : Type 0} → Option X → Option X → Option X
first_some None other = other
first_some (Some x) other = Some x

-- When a step is done, in view of these started turns.
abbrev pub done_at : Work → List StartedTurn → Wait → Option LaneTime
done_at work [] name = None
done_at work (started ∷ others) name = first_some (done_in work started name) (done_at work others name)

-- ---- ready

-- The later of two times. It is never if one of the times is never.
abbrev pub later_if_both : Option LaneTime → Option LaneTime → Option LaneTime
later_if_both None b = None
later_if_both (Some a) None = None
later_if_both (Some a) (Some b) = Some (later_of a b)

-- When some steps are all done: the latest of the rounds after those in which they are done.
abbrev pub done_by : Work → List StartedTurn → List Wait → Option LaneTime
done_by work started [] = Some first_lane_time
done_by work started (name ∷ names) = later_if_both (option_map next_round (done_at work started name)) (done_by work started names)

-- When a turn is ready.
abbrev pub ready_at : Work → List StartedTurn → Turn → Option LaneTime
ready_at work started turn = done_by work started (waits_of_turn work turn)
