use Rattle.stream_record.proofs.Begun.{Begun}
use Rattle.stream_record.proofs.EntryTexts.{left, whole}
use Rattle.stream_record.proofs.scripting.script_text.Given as goal

abbrev pub invariant-loop-number : goal.invariant-loop-number
invariant-loop-number l =
    Begun (left l.plan.changes l.script l.outputs l.notes l.later l.number) (whole l.plan.changes l.script l.outputs l.notes) l.text
