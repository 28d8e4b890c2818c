use Rattle.std.proofs.Common.{◌+◌}
use Rattle.laws_lines.proofs.Ends.{form_summary, form_version, plain_summary, plain_version}
use Rattle.laws_lines.proofs.FormStream as form
use Rattle.laws_lines.proofs.OutputLines.{outputs_says}
use Rattle.laws_lines.proofs.PlainStream as plain
use Rattle.laws_lines.proofs.PlannedLines.{planned_says}
use Rattle.laws_lines.proofs.lines.each_other_line_states_what_it_tells.Goals as goal

pub returns-clause-version : goal.returns-clause-version
returns-clause-version c plan start text few = plain.in_second _ start _ few (plain_version plan start text)

pub returns-clause-summary : goal.returns-clause-summary
returns-clause-summary c start clock operation counts small few = plain.in_second _ (start + clock) _ few (plain_summary start clock operation counts small)

pub returns-clause-version_in_form : goal.returns-clause-version_in_form
returns-clause-version_in_form c plan start text few = form.in_second _ start _ few (form_version plan start text)

pub returns-clause-summary_in_form : goal.returns-clause-summary_in_form
returns-clause-summary_in_form c start clock operation counts imported small less few = form.in_second _ (start + clock) _ few (form_summary start clock operation counts imported small less)

pub returns-clause-planned : goal.returns-clause-planned
returns-clause-planned c change word details start has texts is few = form.in_second _ start _ few (planned_says change word details start has texts is)

pub returns-clause-outputs : goal.returns-clause-outputs
returns-clause-outputs c start clock outputs has few = form.in_second _ (start + clock) _ few (outputs_says start clock outputs has)
