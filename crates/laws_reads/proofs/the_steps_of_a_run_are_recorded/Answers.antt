use Rattle.laws_reads.proofs.RecordedRuns.{run_is_recorded}
use Rattle.laws_reads.proofs.the_steps_of_a_run_are_recorded.Goals as goal

pub returns : goal.returns
returns c plan telling start line events notes outputs summary is_default_form read is =
    run_is_recorded plan telling start line events notes outputs summary is_default_form read is
