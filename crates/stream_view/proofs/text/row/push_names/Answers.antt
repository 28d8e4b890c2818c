use Rattle.stream_view.specs.Charts.{layout_in}
use Rattle.stream_view.proofs.Rows.{names_pushed}
use Rattle.stream_view.proofs.text.row.push_names.Goals as goal

pub returns-clause-pieces : goal.returns-clause-pieces
returns-clause-pieces c = λ whole.
    let begun = c.begin.new.self in
    let pushed = c.push_text.new.line in
    let ended = c.end.new.self in
    let blank = c.push.new.self in
    let is5 = c.push_text-2.ensures.pieces whole in
    let is4 = c.push.ensures.pieces is5.0 in
    let is3 = c.end.ensures.pieces is4.0 in
    let is2 = c.push_text.ensures.pieces is3.0 in
    let is1 = c.begin.ensures.pieces is2.0 in (
      is1.0,
      names_pushed c.args.line.now.width begun.width pushed.width ended.width blank.width (layout_in c.args.chart.now) c.args.step.now
          c.rendition_of.result c.args.line.now.pieces.items begun.pieces.items pushed.pieces.items ended.pieces.items blank.pieces.items
          c.push_text-2.new.line.pieces.items c.action.result.now c.address.result.now c.rendition_of.ensures c.action.ensures c.address.ensures
          c.begin.ensures.width c.push_text.ensures.width c.end.ensures.width c.push.ensures.width is1.1 is2.1 is3.1 is4.1 is5.1,
    )
