use Rattle.std.proofs.Common.{map, take}
use Rattle.std.specs.List.{flat_map}
use Rattle.term_words.specs.MessageTexts.{AppendsText}
use Rattle.stream_record_script.specs.Outputs.{output_warning}
use Rattle.stream_record_script.proofs.outputs.push_output_warnings.Given as goal

abbrev pub invariant-loop-output : goal.invariant-loop-output
invariant-loop-output l =
    AppendsText l.initial.text l.text (flat_map output_warning (take l.output-index (map (λ output. output.now) l.unknown)))
