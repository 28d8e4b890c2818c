use Rattle.laws_record.proofs.Extras.{extras_back}
use Rattle.laws_record.proofs.scripts.a_run_in_form_reads_back_outputs_and_diagnostics.Goals as goal

pub returns : goal.returns
returns c = λ changes plan script outputs notes text is exported noted known e. extras_back changes script outputs notes is exported noted plan text known e
