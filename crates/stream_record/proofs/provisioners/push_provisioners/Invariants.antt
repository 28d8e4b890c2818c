use Rattle.std.proofs.Common.{drop, map}
use Rattle.std.specs.Prelude.{codes}
use Rattle.stream_record.specs.Parts.{list_text}
use Rattle.stream_record.specs.ScriptText.{provisioner_text, provisioners_text}
use Rattle.stream_record.proofs.Remains.{Remains}
use Rattle.stream_record.proofs.provisioners.push_provisioners.Given as goal

abbrev pub invariant-loop-number : goal.invariant-loop-number
invariant-loop-number l =
    Remains (list_text (codes ",\"provisioners\":[") (codes "]") l.later (map provisioner_text (drop l.number l.provisioners)))
    (provisioners_text l.provisioners) l.initial.text l.text
