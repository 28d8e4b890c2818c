use Rattle.stream_view.proofs.Rows.{marked_pushed}
use Rattle.stream_view.proofs.text.row.push_marked.Goals as goal

pub returns-in-Ok-clause-pieces : goal.returns-in-Ok-clause-pieces
returns-in-Ok-clause-pieces c = λ whole.
    let is2 = c.push_right.ensures.pieces whole in
    let is1 = c.push.ensures.pieces is2.0 in (
      is1.0,
      marked_pushed c.args.line.now.width c.push.new.self.width c.args.picture.now.time_range c.args.step.now c.args.line.now.pieces.items
          c.push.new.self.pieces.items c.push_right.new.self.pieces.items c.mark_of.result c.in-Ok.text c.mark_of.ensures
          (c.in-Ok.ensures _ c.length_of.ensures) c.push.ensures.width is1.1 is2.1,
    )
