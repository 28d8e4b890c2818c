use Rattle.laws_validate.proofs.Warned.{warned, warned_of}
use Rattle.laws_validate.proofs.warnings_report_what_no_run_reads.Goals as goal

pub returns : goal.returns
returns c = record { exactly = warned; each = warned_of }
