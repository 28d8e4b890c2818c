use Rattle.std.proofs.Common.{arith}
use Rattle.stream_view.proofs.Rows.{right_pushed}
use Rattle.stream_view.proofs.text.line.Line.push_right.Goals as goal

pub returns-clause-pieces : goal.returns-clause-pieces
returns-clause-pieces c =
    λ whole.
    let mid = c.push_blanks.new.self in
    let more = c.push_all.ensures.pieces whole in
    let had = c.push_blanks.ensures.pieces more.0 in (
      had.0,
      right_pushed c.args.self.now.width mid.width c.args.columns c.columns.result c.saturating_sub.result c.args.self.now.pieces.items mid.pieces.items
          c.push_all.new.self.pieces.items c.args.text.now c.characters.result.now c.characters.ensures c.push_blanks.ensures.width c.columns.ensures
          c.saturating_sub.ensures (omega arith) had.1 more.1,
    )
