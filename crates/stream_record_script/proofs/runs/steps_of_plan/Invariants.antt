use Rattle.std.proofs.Common.{◌≡◌, ◌++◌, drop}
use Rattle.stream_record_script.specs.Runs.{steps_from, steps_of_plan}
use Rattle.stream_record_script.proofs.runs.steps_of_plan.Given as goal

abbrev pub invariant-loop-place : goal.invariant-loop-place
invariant-loop-place l =
    l.steps.items ++ steps_from l.begun l.recorded l.place (drop l.place l.planned) ≡ steps_of_plan l.begun l.recorded
