use Rattle.std.proofs.Common.{arith}
use Rattle.stream_view.proofs.Rows.{left_pushed}
use Rattle.stream_view.proofs.text.line.Line.push_left.Goals as goal

pub returns-clause-pieces : goal.returns-clause-pieces
returns-clause-pieces c =
    λ whole.
    let mid = c.push_all.new.self in
    let more = c.push_blanks.ensures.pieces whole in
    let had = c.push_all.ensures.pieces more.0 in (
      had.0,
      left_pushed c.args.self.now.width mid.width c.args.columns c.columns.result c.saturating_sub.result c.args.self.now.pieces.items mid.pieces.items
          c.push_blanks.new.self.pieces.items c.args.text.now c.characters.result.now c.characters.ensures c.push_all.ensures.width had.1
          c.columns.ensures c.saturating_sub.ensures (omega arith) more.1,
    )
