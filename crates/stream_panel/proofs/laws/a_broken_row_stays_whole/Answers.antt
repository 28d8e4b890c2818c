use Rattle.stream_panel.proofs.Frames.{broken_count, broken_whole, broken_within, line_cells}
use Rattle.stream_panel.proofs.laws.a_broken_row_stays_whole.Goals as goal

pub returns-clause-whole : goal.returns-clause-whole
returns-clause-whole c columns cells some = broken_whole columns cells some

pub returns-clause-within : goal.returns-clause-within
returns-clause-within c columns cells = broken_within columns cells

pub returns-clause-count : goal.returns-clause-count
returns-clause-count c columns cells = broken_count columns cells

pub returns-clause-line : goal.returns-clause-line
returns-clause-line c line = line_cells line
