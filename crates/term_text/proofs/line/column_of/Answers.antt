use Rattle.std.proofs.Common.{◌∙◌, ◌%◌, ap, sym}
use Rattle.std.proofs.lemmas.Iterator.{YieldsList-from_chars}
use Rattle.std.proofs.lemmas.Iterator.Consumers.{YieldsList-end}
use Rattle.std.proofs.lemmas.List.{map-id}
use Rattle.term_text.specs.Columns.{columns_of}
use Rattle.term_text.proofs.line.column_of.Goals as goal

pub returns-clause-value : goal.returns-clause-value
returns-clause-value c =
    let seen = c.loop-character.yielded in
    let all = YieldsList-end (YieldsList-from_chars c.args.text.now c.utf8.text (cc)) seen _ c.loop-character.yielded_by _ _ c.in-None.is c.next.ensures.steps in
    c.loop-character.invariant ∙ ap (λ characters. columns_of characters % 8) (sym (map-id seen) ∙ all.0)
