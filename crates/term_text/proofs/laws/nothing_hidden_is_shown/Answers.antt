use Rattle.term_text.proofs.Plain.{shown_text-plain, cut_text-plain}
use Rattle.term_text.proofs.laws.nothing_hidden_is_shown.Goals as goal

pub returns : goal.returns
returns c = record { whole = shown_text-plain; cut = cut_text-plain }
