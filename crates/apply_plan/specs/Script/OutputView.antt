-- Contracts see borrowed outputs of a provisioner as the outputs they state, for private types.
use Rattle.std.specs.Prelude.{List, map}
use Rattle.apply_plan.specs.declared.script.raw_output.RawOutput.{RawOutput}
use Rattle.apply_plan.specs.Script.Entry.{OutputItem}

abbrev pub output_view : RawOutput → OutputItem
output_view output = record { after = output.after; text = output.text.now }

abbrev pub outputs_view : List RawOutput → List OutputItem
outputs_view outputs = map output_view outputs
