use Rattle.laws_watch.proofs.Printing.{further-bars, line-timed}
use Rattle.laws_watch.proofs.Shut.{no_command-shut, shut-further, shut-line}
use Rattle.laws_watch.proofs.printed.no_text_steers.Goals as goal

pub returns-clause-line : goal.returns-clause-line
returns-clause-line c width elapsed mark text = line-timed width elapsed mark text

pub returns-clause-further : goal.returns-clause-further
returns-clause-further c width mark text = further-bars width mark text

pub returns-clause-coloured_line : goal.returns-clause-coloured_line
returns-clause-coloured_line c width has_colour elapsed mark text = no_command-shut _ (shut-line width has_colour elapsed mark text)

pub returns-clause-coloured_further : goal.returns-clause-coloured_further
returns-clause-coloured_further c width has_colour mark text = no_command-shut _ (shut-further width has_colour mark text)
