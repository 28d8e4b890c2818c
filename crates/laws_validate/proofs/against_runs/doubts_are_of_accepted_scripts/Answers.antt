use Rattle.laws_validate.proofs.FormRuns.{all_where_accepted, none_where_refused}
use Rattle.laws_validate.proofs.against_runs.doubts_are_of_accepted_scripts.Goals as goal

pub returns : goal.returns
returns c = record { refused = none_where_refused; accepted = all_where_accepted }
