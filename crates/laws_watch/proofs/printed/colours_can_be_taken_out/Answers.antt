use Rattle.laws_watch.proofs.Colours.{become-further, become-line, become-whole}
use Rattle.laws_watch.proofs.Streams.{stream-uncoloured}
use Rattle.laws_watch.proofs.printed.colours_can_be_taken_out.Goals as goal

pub returns-clause-line : goal.returns-clause-line
returns-clause-line c width elapsed mark text = become-whole _ _ (become-line width elapsed mark text)

pub returns-clause-further : goal.returns-clause-further
returns-clause-further c width mark text = become-whole _ _ (become-further width mark text)

pub returns-clause-stream : goal.returns-clause-stream
returns-clause-stream c looks find lines verdict = stream-uncoloured looks find lines verdict
