use Rattle.term_text.proofs.Escapes.{are_escaped}
use Rattle.term_text.proofs.laws.what_is_escaped_is_no_markup.Goals as goal

pub returns : goal.returns
returns c = are_escaped
