use Rattle.std.proofs.Common.{map, take}
use Rattle.std.specs.List.{flat_map}
use Rattle.term_words.specs.MessageTexts.{AppendsText}
use Rattle.stream_record_warnings.specs.StepWarnings.{warnings_at}
use Rattle.stream_record_warnings.proofs.steps.push_step_warnings.Given as goal

abbrev pub invariant-loop-place : goal.invariant-loop-place
invariant-loop-place l =
    AppendsText l.initial.text l.text (flat_map (warnings_at l.begun l.recorded (map (λ places. places.items) l.early)) (take l.place-index l.place-items))
