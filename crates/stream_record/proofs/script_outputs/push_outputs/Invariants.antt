use Rattle.std.proofs.Common.{drop, map}
use Rattle.std.specs.Prelude.{codes}
use Rattle.stream_record.specs.Parts.{list_text}
use Rattle.stream_record.specs.ScriptText.{output_text, outputs_text}
use Rattle.stream_record.proofs.Remains.{Remains}
use Rattle.stream_record.proofs.script_outputs.push_outputs.Given as goal

abbrev pub invariant-loop-output : goal.invariant-loop-output
invariant-loop-output l =
    Remains (list_text (codes ",\"outputs\":{") (codes "}") l.later (map output_text (drop l.output-index l.outputs)))
    (outputs_text l.outputs) l.initial.text l.text
