use Rattle.laws_validate.proofs.StuckReported.{each_stuck}
use Rattle.laws_validate.proofs.against_runs.each_entry_that_never_begins_is_reported.Goals as goal

pub returns : goal.returns
returns c = each_stuck
