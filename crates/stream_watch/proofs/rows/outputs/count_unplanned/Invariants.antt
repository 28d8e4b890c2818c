use Rattle.std.proofs.Common.{◌≡◌, take}
use Rattle.std.specs.Prelude.{count_by}
use Rattle.stream_watch.specs.OutputRows.{is_unplanned}
use Rattle.stream_watch.specs.Outputs.{output_view}
use Rattle.stream_watch.proofs.rows.outputs.count_unplanned.Given as goal

abbrev pub invariant-loop-output : goal.invariant-loop-output
invariant-loop-output l = l.count ≡ count_by (λ output. is_unplanned (output_view output)) (take l.output-index l.outputs)
