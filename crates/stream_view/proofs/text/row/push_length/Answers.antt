use Rattle.std.proofs.Common.{◌∙◌, sym}
use Rattle.stream_view.proofs.Rows.{plain_pushed, red_pushed}
use Rattle.stream_view.proofs.text.row.push_length.Goals as goal

pub returns-then-has_failed-clause-pieces : goal.returns-then-has_failed-clause-pieces
returns-then-has_failed-clause-pieces c = λ whole.
    let begun = c.begin.new.self in
    let marked = c.push_marked.new.line in
    let is3 = c.end.ensures.pieces whole in
    let is2 = c.push_marked.ensures.pieces is3.0 in
    let is1 = c.begin.ensures.pieces is2.0 in (
      is1.0,
      red_pushed c.args.line.now.width begun.width c.args.picture.now.time_range c.args.step.now c.args.line.now.pieces.items begun.pieces.items
          marked.pieces.items c.end.new.self.pieces.items (sym c.has_failed.ensures ∙ c.if-has_failed.true) c.begin.ensures.width is1.1 is2.1 is3.1,
    )

pub returns-else-has_failed-clause-pieces : goal.returns-else-has_failed-clause-pieces
returns-else-has_failed-clause-pieces c = λ whole.
    let marked = c.push_marked-else-has_failed.ensures.pieces whole in (
      marked.0,
      plain_pushed c.args.line.now.width c.args.picture.now.time_range c.args.step.now c.args.line.now.pieces.items
          c.push_marked-else-has_failed.new.line.pieces.items (sym c.has_failed.ensures ∙ c.if-has_failed.false) marked.1,
    )
