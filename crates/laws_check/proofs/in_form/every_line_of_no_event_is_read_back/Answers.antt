use Rattle.laws_check.proofs.FormEnds.{diagnostic_line_read_back, summary_line_read_back, version_line_read_back}
use Rattle.laws_check.proofs.FormPlanned.{planned_line_read_back}
use Rattle.laws_check.proofs.in_form.every_line_of_no_event_is_read_back.Goals as goal

pub returns-clause-version : goal.returns-clause-version
returns-clause-version c = version_line_read_back

pub returns-clause-planned : goal.returns-clause-planned
returns-clause-planned c = planned_line_read_back

pub returns-clause-note : goal.returns-clause-note
returns-clause-note c = diagnostic_line_read_back

pub returns-clause-summary : goal.returns-clause-summary
returns-clause-summary c = summary_line_read_back
