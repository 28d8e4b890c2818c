use Rattle.std.proofs.Common.{◌≡◌, ◌+◌, ◌-◌, refl, arith}
use Rattle.std.specs.Prelude.{max, min}
use Rattle.stream_view.specs.Columns.{column_text, widest}
use Rattle.stream_view.specs.declared.column.Column.TheVariants as column
use Rattle.stream_view.proofs.Rows.{label_is, layout_is}
use Rattle.stream_view.proofs.text.chart.Chart.of.Goals as goal

pub returns : goal.returns
returns c =
    let picture = c.args.picture.now in
    let actions = widest (column_text column.Action) picture.timeline.now.steps picture.rows.places.items in
    let addresses = widest (column_text column.Address) picture.timeline.now.steps picture.rows.places.items in
    let action : c.min-action.result ≡ min actions 8 = omega (arith, c.min-action.ensures, c.in_ok-widest.ensures) in
    let label = label_is c.args.width c.min-action.result addresses c.in_ok-widest-2.field-0 c.max-address.result c.saturating_sub-room.result
    c.min-label.result c.in_ok-widest-2.ensures c.max-address.ensures c.saturating_sub-room.ensures (omega arith) c.min-label.ensures in
    let cells : c.max-cells.result ≡ max (min (c.args.width - (c.min-action.result + 12) - c.min-label.result) 400) 1 =
    omega (arith, c.max-cells.ensures, c.min.ensures, c.saturating_sub.ensures, c.saturating_sub-room.ensures) in
    layout_is c.args.width actions addresses c.min-action.result c.min-label.result c.max-cells.result picture refl refl action label cells
