use Rattle.laws_watch.proofs.Alike.{line-alike, lines-alike, outputs-alike, stream-alike}
use Rattle.laws_watch.proofs.hidden.sensitive_values_are_hidden.Goals as goal

pub returns-clause-outputs : goal.returns-clause-outputs
returns-clause-outputs c looks state outputs others alike = outputs-alike looks state outputs others alike

pub returns-clause-line : goal.returns-clause-line
returns-clause-line c looks state find line other alike = line-alike looks state find line other alike

pub returns-clause-lines : goal.returns-clause-lines
returns-clause-lines c looks state find lines others alike = lines-alike looks state find lines others alike

pub returns-clause-stream : goal.returns-clause-stream
returns-clause-stream c looks find lines others verdict alike = stream-alike looks find lines others verdict alike
