use Rattle.term_text.proofs.Plain.{readable_text-same, shown_text-same, shown_text-twice}
use Rattle.term_text.proofs.laws.text_stands_as_it_is.Goals as goal

pub returns : goal.returns
returns c = record { readable = readable_text-same; shown = shown_text-same; twice = shown_text-twice }
