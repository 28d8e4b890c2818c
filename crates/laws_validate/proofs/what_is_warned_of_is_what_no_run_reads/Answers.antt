use Rattle.laws_validate.proofs.EachCounts.{diagnostic_counts, entry_counts, failure_counts, output_counts, provisioner_counts, step_counts, wait_counts}
use Rattle.laws_validate.proofs.VerbatimNames.{of_note, of_output}
use Rattle.laws_validate.proofs.NoneLeft.{none_left}
use Rattle.laws_validate.proofs.ReadAlone.{read_alone}
use Rattle.laws_validate.proofs.what_is_warned_of_is_what_no_run_reads.Goals as goal

pub returns : goal.returns
returns c = record {
  same = read_alone;
  none = none_left;
  outputs = of_output;
  diagnostics = of_note;
  each = (entry_counts, step_counts, diagnostic_counts, failure_counts, provisioner_counts, output_counts, wait_counts);
}
