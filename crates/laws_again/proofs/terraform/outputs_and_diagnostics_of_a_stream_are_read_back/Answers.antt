use Rattle.laws_recorded.proofs.PlanObjects.{changes_writable, named_once}
use Rattle.laws_again.proofs.RecordedExtras.{extras_read_back}
use Rattle.laws_again.proofs.terraform.outputs_and_diagnostics_of_a_stream_are_read_back.Goals as goal

pub returns : goal.returns
returns c plan graph choice stream text warnings is =
    extras_read_back plan graph choice stream text warnings is
    (changes_writable plan is.saved is.read) (named_once is.saved.changes (c.each_object_is_named_once.ensures plan is.saved is.read))
    c.a_run_in_form_reads_back_outputs_and_diagnostics.ensures
