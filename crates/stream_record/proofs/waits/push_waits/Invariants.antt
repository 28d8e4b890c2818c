use Rattle.std.proofs.Common.{drop}
use Rattle.std.specs.Prelude.{codes, filter_map}
use Rattle.stream_record.specs.Parts.{list_text}
use Rattle.stream_record.specs.ScriptText.{wait_text, waits_text}
use Rattle.stream_record.proofs.Remains.{Remains}
use Rattle.stream_record.proofs.waits.push_waits.Given as goal

abbrev pub invariant-loop-number : goal.invariant-loop-number
invariant-loop-number l =
    Remains (list_text (codes ",\"after\":[") (codes "]") l.later (filter_map (wait_text l.plan.changes) (drop l.number l.waits)))
    (waits_text l.plan.changes l.waits) l.initial.text l.text
