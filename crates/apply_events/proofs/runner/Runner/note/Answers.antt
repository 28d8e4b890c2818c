use Rattle.std.proofs.Common.{◌≡◌, ℕ, ◌+◌, Bool, List, ◌∷◌, ◌++◌}
use Rattle.apply_events.specs.declared.event.Event.{Event}
use Rattle.apply_events.specs.declared.stage.Stage.{Stage}
use Rattle.apply_events.specs.declared.stage.Stage.TheVariants.{Noting}
use Rattle.apply_events.specs.declared.what.What.{What}
use Rattle.apply_events.specs.Notes.{note_of}
use Rattle.apply_events.specs.Runner.{left_of, to_come}
use Rattle.apply_events.specs.RunnerStep.{rest_of, step_at_hand}
use Rattle.apply_events.specs.Stages.{later_events, from_stage, halt_after}
use Rattle.apply_events.specs.Step.{Step}
use Rattle.apply_events.specs.StepEvents.{event, seconds_of}
use Rattle.apply_events.proofs.Stages.{noting_notes}
use Rattle.apply_events.proofs.runner.Runner.note.Goals as goal

-- the error or the warning is emitted after the step's seconds
note_emitted : (w : ℕ) (s : Step) (rest left : List Step) (at seconds : ℕ) (fails : Bool) (what : What) (emitted : Event) (after : List Event) (stage : Stage) → left ≡ s ∷ rest → stage ≡ Noting
    → emitted ≡ event w s (at + seconds) what → what ≡ note_of fails → fails ≡ s.fails → seconds ≡ seconds_of s
    → after ≡ halt_after w s at ++ later_events w s rest at → from_stage w left at stage ≡ emitted ∷ after
note_emitted w s rest left at seconds fails what emitted after stage first noting is note same time others =
    rw (is, note, same, time, others) (noting_notes w s rest left at stage first noting)

pub returns-clause-next : goal.returns-clause-next
returns-clause-next g c =
    let r = c.args.self.now in
    note_emitted r.worker (step_at_hand r c.args.kind) (rest_of r) (left_of r) r.at c.facts-facts.result.seconds c.facts-facts.result.fails c.note.result c.event-event.result (to_come c.finish.new.self) r.stage
    c.requires.step c.requires.stage c.event-event.ensures c.note.ensures c.facts-facts.ensures.fails c.facts-facts.ensures.seconds c.finish.ensures.next
