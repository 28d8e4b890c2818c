use Rattle.std.proofs.Common.{◌≡◌, ◌++◌, codes, drop, length, take}
use Rattle.apply_text_terraform.specs.Escapes.{escaped}
use Rattle.apply_text_terraform.specs.Outputs.{outputs_from}
use Rattle.apply_text_terraform.proofs.outputs.push_more.Given as goal

abbrev pub invariant-loop-output : goal.invariant-loop-output
invariant-loop-output l = record {
  written : l.lines.items ++ escaped (outputs_from (codes ",") (drop l.output-index l.outputs)) ≡ l.initial.lines.items ++ escaped (outputs_from (codes ",") l.outputs);
  preserved : take (length l.initial.lines.items) l.lines.items ≡ l.initial.lines.items;
}
