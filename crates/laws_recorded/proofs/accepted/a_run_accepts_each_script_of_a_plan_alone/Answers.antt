use Rattle.laws_recorded.proofs.PlanAlone.{is_accepted, is_read_back}
use Rattle.laws_recorded.proofs.PlanObjects.{changes_writable, named_once}
use Rattle.laws_recorded.proofs.accepted.a_run_accepts_each_script_of_a_plan_alone.Goals as goal

pub returns : goal.returns
returns c =
    let once = c.each_object_is_named_once.ensures in
    let reads_steps = c.a_run_reads_back_what_record_writes.ensures.read in record {
      accepted = λ plan graph text is.
          is_accepted plan graph text is
          (changes_writable plan is.saved is.read) (named_once is.saved.changes (once plan is.saved is.read))
          reads_steps c.a_run_in_form_reads_back_outputs_and_diagnostics.ensures;
      same = λ plan graph text is.
          is_read_back plan graph text is
          (changes_writable plan is.saved is.read) (named_once is.saved.changes (once plan is.saved is.read))
          reads_steps;
    }
