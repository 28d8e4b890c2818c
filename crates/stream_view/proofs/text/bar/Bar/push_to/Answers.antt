use Rattle.std.proofs.Common.{◌∙◌, arith}
use Rattle.stream_view.specs.Rows.{bar_character}
use Rattle.stream_view.proofs.Rows.{bar_more}
use Rattle.stream_view.proofs.text.bar.Bar.push_to.Goals as goal

pub loop-cell-preserved : goal.loop-cell-preserved
loop-cell-preserved c =
    let self = c.args.self in
    let line = c.loop-cell.line in
    let had = c.loop-cell.invariant in (
      omega arith,
      omega arith,
      c.push.ensures.width ∙ had.2,
      (λ whole.
          let pushed = c.push.ensures.pieces whole in
          let before = had.3 pushed.0 in (
            before.0,
            bar_more (bar_character self.has_failed self.has_ended self.halves.first self.halves.end) c.args.line.now.width line.width c.args.first
                c.loop-cell.cell c.character.result c.args.line.now.pieces.items line.pieces.items c.push.new.self.pieces.items had.0 had.2 before.1
                c.character.ensures pushed.1,
          )),
    )
