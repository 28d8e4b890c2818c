use Rattle.stream_panel.proofs.Widths.{known_widths, lines_fit}
use Rattle.stream_panel.proofs.laws.no_line_is_too_wide.Goals as goal

pub returns-clause-fits : goal.returns-clause-fits
returns-clause-fits c view state wide = lines_fit view state wide

pub returns-clause-known : goal.returns-clause-known
returns-clause-known c view state wide = known_widths view state wide
