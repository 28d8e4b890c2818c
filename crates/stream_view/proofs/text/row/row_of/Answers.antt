use Rattle.stream_view.specs.Charts.{layout_in}
use Rattle.stream_view.proofs.Rows.{row_pushed}
use Rattle.stream_view.proofs.text.row.row_of.Goals as goal

pub returns-clause-row : goal.returns-clause-row
returns-clause-row c = λ whole.
    let empty = c.new-line.result in
    let names = c.push_names.new.line in
    let first = c.push.new.self in
    let timed = c.push_length.new.line in
    let second = c.push-2.new.self in
    let is5 = c.push_bar.ensures.pieces whole in
    let is4 = c.push-2.ensures.pieces is5.0 in
    let is3 = c.push_length.ensures.pieces is4.0 in
    let is2 = c.push.ensures.pieces is3.0 in
    let is1 = c.push_names.ensures.pieces is2.0 in
    row_pushed c.args.width empty.width names.width first.width timed.width second.width (layout_in c.args.chart.now) c.args.picture.now.time_range
    c.args.ticks.now c.args.step.now empty.pieces.items names.pieces.items first.pieces.items timed.pieces.items second.pieces.items
    c.push_bar.new.line.pieces.items c.new-line.ensures.width c.push_names.ensures.width c.push.ensures.width c.push_length.ensures.width
    c.push-2.ensures.width c.new-line.ensures.empty is1.1 is2.1 is3.1 is4.1 is5.1
