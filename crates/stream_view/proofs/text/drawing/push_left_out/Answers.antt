use Rattle.std.proofs.Common.{◌≡◌, ◌≤◌, ◌+◌, arith}
use Rattle.stream_view.proofs.Heads.{left_out_line, left_out_none}
use Rattle.stream_view.proofs.text.drawing.push_left_out.Goals as goal

pub returns-then-picture-eq0-clause-listed : goal.returns-then-picture-eq0-clause-listed
returns-then-picture-eq0-clause-listed c = λ none whole.
    let rows = c.args.picture.now.rows in
    let zero : rows.left_out ≡ 0 = omega arith in
    left_out_none c.args.line_buffer.now.style.width (c.args.chart.now.action + 1) rows c.args.line_buffer.now zero none

pub returns-clause-listed : goal.returns-clause-listed
returns-clause-listed c = λ none.
    let rows = c.args.picture.now.rows in
    let some : 1 ≤ rows.left_out = omega arith in
    left_out_line c.args.line_buffer.now.style.width (c.args.chart.now.action + 1) c.indent.result rows c.args.line_buffer.now c.push_message.new.self some
    c.indent.ensures none (c.push_message.ensures.line _ c.left_out-text.ensures)
