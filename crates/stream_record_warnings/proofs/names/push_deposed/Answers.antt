use Rattle.std.proofs.Common.{List, Option, ap, sym, ℕ}
use Rattle.std.specs.Borrow.{Bor}
use Rattle.std.specs.Option.{option_copied}
use Rattle.std.specs.Prelude.{codes}
use Rattle.term_text.specs.Shown.{shown_text}
use Rattle.stream_record_warnings.specs.Names.{deposed_words}
use Rattle.term_words.proofs.Appended.{text_as, text_then}
use Rattle.stream_record_warnings.proofs.TextLemmas.{then_as}
use Rattle.stream_record_warnings.proofs.names.push_deposed.Goals as goal

pub returns-in-Some : goal.returns-in-Some
returns-in-Some c =
    let begin = c.args.text.now in
    let key = text_as c.text.new.self c.escaped.new.self _ _ (ap shown_text c.as_bytes.ensures.value) c.escaped.ensures in
    text_as begin c.text-in-Some.new.self _ _ (ap (λ (key : Option (Bor (List ℕ))). deposed_words (option_copied key)) (sym c.in-Some.is))
    (text_then begin c.text.new.self c.text-in-Some.new.self (codes " (deposed ") _ c.text.ensures
    (text_then c.text.new.self c.escaped.new.self c.text-in-Some.new.self _ (codes ")") key c.text-in-Some.ensures))
