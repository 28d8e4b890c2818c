use Rattle.laws_watch.proofs.Printing.{further-fits, line-fits_in}
use Rattle.laws_watch.proofs.Streams.{stream-fits}
use Rattle.laws_watch.proofs.printed.no_line_is_wider.Goals as goal

pub returns-clause-line : goal.returns-clause-line
returns-clause-line c width elapsed mark text wide = line-fits_in width elapsed mark text wide

pub returns-clause-further : goal.returns-clause-further
returns-clause-further c width mark text wide = further-fits width mark text wide

pub returns-clause-stream : goal.returns-clause-stream
returns-clause-stream c width looks find lines verdict wide is = stream-fits width looks find lines verdict wide is
