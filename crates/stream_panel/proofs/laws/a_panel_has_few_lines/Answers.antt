use Rattle.stream_panel.proofs.Panels.{few_lines, some_lines}
use Rattle.stream_panel.proofs.laws.a_panel_has_few_lines.Goals as goal

pub returns-clause-some : goal.returns-clause-some
returns-clause-some c view state = some_lines view state

pub returns-clause-few : goal.returns-clause-few
returns-clause-few c view state = few_lines view state
