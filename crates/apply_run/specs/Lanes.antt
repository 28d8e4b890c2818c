-- How a plan is applied in lanes: the stream's own time decides what runs at once, and there is no
-- thread.
use Rattle.std.specs.Prelude.{ℕ}
use Rattle.apply_events.specs.Step.{Work}
use Rattle.apply_text.specs.declared.operation.Operation.{Operation}
use Rattle.apply_run.specs.Run.{HasFailedBy, HasStreamedBy, SinkState}
use Rattle.apply_run.specs.Schedule.{InLanes}
use Rattle.apply_writer.specs.declared.report.Report.{Report}
use Rattle.apply_writer.specs.declared.why.Why.{Why}
use Rattle.apply_writer.specs.Stream.Form.{plain_form}

abbrev pub HasStreamedInLanes : Work → (lanes start : ℕ) → Operation → Report → (before after : SinkState) → Type 0
HasStreamedInLanes work lanes start operation report before after =
    HasStreamedBy (InLanes lanes) (plain_form work.plan work.script start operation) work report before after

abbrev pub HasFailedInLanes : Why → Work → (lanes start : ℕ) → Operation → Report → (before after : SinkState) → Type 0
HasFailedInLanes why work lanes start operation report before after =
    HasFailedBy why (InLanes lanes) (plain_form work.plan work.script start operation) work report before after
