use Rattle.laws_validate.proofs.WarnedInForm.{warned_in_form, warned_of_in_form}
use Rattle.laws_validate.proofs.warnings_report_what_no_run_in_a_form_reads.Goals as goal

pub returns : goal.returns
returns c = record { exactly = warned_in_form; each = warned_of_in_form }
