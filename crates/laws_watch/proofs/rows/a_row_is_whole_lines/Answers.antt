use Rattle.laws_watch.proofs.WholeLines.{further_ends, row_ends}
use Rattle.laws_watch.proofs.rows.a_row_is_whole_lines.Goals as goal

pub returns-clause-timed : goal.returns-clause-timed
returns-clause-timed c = row_ends

pub returns-clause-further : goal.returns-clause-further
returns-clause-further c looks mark text = further_ends looks.width looks.has_colour mark text
