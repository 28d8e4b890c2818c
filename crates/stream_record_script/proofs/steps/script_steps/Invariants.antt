use Rattle.std.proofs.Common.{◌≡◌, ◌++◌, drop, map}
use Rattle.stream_record_script.specs.Steps.{script_steps}
use Rattle.stream_record_script.proofs.steps.script_steps.Given as goal

abbrev pub invariant-loop-place : goal.invariant-loop-place
invariant-loop-place l =
    l.steps.items ++ script_steps l.planned (map (λ numbers. numbers.items) l.waits) l.place l.left.items (drop l.place l.states)
    ≡ script_steps l.planned (map (λ numbers. numbers.items) l.waits) 0 l.initial.left.items l.states
