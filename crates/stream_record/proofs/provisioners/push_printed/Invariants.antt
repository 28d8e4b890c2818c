use Rattle.std.proofs.Common.{drop, map}
use Rattle.std.specs.Prelude.{codes}
use Rattle.stream_record.specs.Parts.{list_text}
use Rattle.stream_record.specs.ScriptText.{printed_text, timed_text}
use Rattle.stream_record.proofs.Remains.{Remains}
use Rattle.stream_record.proofs.provisioners.push_printed.Given as goal

abbrev pub invariant-loop-number : goal.invariant-loop-number
invariant-loop-number l =
    Remains (list_text (codes ",\"output\":[") (codes "]") l.later (map (timed_text l.seconds) (drop l.number l.texts)))
    (printed_text l.seconds l.texts) l.initial.text l.text
