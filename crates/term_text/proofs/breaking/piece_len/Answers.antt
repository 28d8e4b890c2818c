use Rattle.std.proofs.Common.{ap, sym, ◌∙◌}
use Rattle.term_text.specs.Breaking.{break_place}
use Rattle.term_text.proofs.Breaks.{piece_len-cut}
use Rattle.term_text.proofs.breaking.piece_len.Goals as goal

pub returns-clause-value : goal.returns-clause-value
returns-clause-value c =
    let e = c.front_len-count.ensures in
    let text = c.args.characters.now in
    c.break_place.ensures.value ∙ ap (λ k. break_place k text) c.max.ensures
    ∙ sym (piece_len-cut c.args.columns c.front_len-count.result text e.within e.fits e.full c.if-count-characters.false)
