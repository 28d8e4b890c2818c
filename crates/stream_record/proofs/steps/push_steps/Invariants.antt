use Rattle.std.proofs.Common.{drop, map}
use Rattle.std.specs.Prelude.{codes}
use Rattle.stream_record.specs.Parts.{list_text}
use Rattle.stream_record.specs.ScriptText.{step_text, steps_text}
use Rattle.stream_record.proofs.Remains.{Remains}
use Rattle.stream_record.proofs.steps.push_steps.Given as goal

abbrev pub invariant-loop-number : goal.invariant-loop-number
invariant-loop-number l =
    Remains (list_text (codes ",\"steps\":[") (codes "]") l.later (map (step_text l.plan.changes) (drop l.number l.steps)))
    (steps_text l.plan.changes l.steps) l.initial.text l.text
