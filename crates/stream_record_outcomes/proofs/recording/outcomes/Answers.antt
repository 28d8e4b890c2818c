use Rattle.std.proofs.Common.{List, Option, subst, sym}
use Rattle.stream_record_outcomes.specs.Recording.{AreAllowed}
use Rattle.stream_record_outcomes.specs.declared.recorded_step.RecordedStep.{RecordedStep}
use Rattle.stream_record_outcomes.proofs.Allowed.{all_allowed}
use Rattle.stream_record_outcomes.proofs.recording.outcomes.Goals as goal

pub returns-clause-allowed : goal.returns-clause-allowed
returns-clause-allowed c =
    subst (λ (recorded : List (Option RecordedStep)). AreAllowed c.args.begun.now.planned recorded) (sym c.in_ok-recorded.ensures)
    (all_allowed c.args.circumstances.now.cut_off_at c.args.begun.now _ c.in_ok-assignment.assignment 0 c.args.begun.now.planned)
