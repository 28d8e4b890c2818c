use Rattle.std.proofs.Common.{◌≡◌, ◌++◌, drop}
use Rattle.apply_text_planning.specs.Sending.{output_tokens}
use Rattle.apply_text_planning.proofs.outputs.put_outputs.Given as goal

abbrev pub invariant-loop-output : goal.invariant-loop-output
invariant-loop-output l = record {
  written : l.out.tokens ++ output_tokens (drop l.output-index l.outputs) ≡ l.initial.out.tokens ++ output_tokens l.outputs;
  before : l.out.before ≡ l.initial.out.before;
}
