use Rattle.std.proofs.Common.{take}
use Rattle.std.specs.List.{flat_map}
use Rattle.term_words.specs.MessageTexts.{AppendsText}
use Rattle.stream_watch.specs.Progress.{other_step_words}
use Rattle.stream_watch.specs.Steps.{step_view}
use Rattle.stream_watch.proofs.progress.push_others.Given as goal

abbrev pub invariant-loop-step : goal.invariant-loop-step
invariant-loop-step l =
    AppendsText l.fn.text l.text (flat_map (λ step. other_step_words l.now (step_view step)) (take l.step-index l.steps))
