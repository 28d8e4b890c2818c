use Rattle.std.proofs.Common.{◌≡◌, ◌∙◌, ◌+◌, ◌*◌, ℕ, ap, arith}
use Rattle.std.specs.Prelude.{max, min}
use Rattle.stream_view.specs.Columns.{column_text, widest}
use Rattle.stream_view.specs.Markup.{Axis, axis_of}
use Rattle.stream_view.specs.declared.column.Column.TheVariants as column
use Rattle.stream_view.proofs.svg.scale.Scale.of.Goals as goal

abbrev axis : (columns : ℕ) → Axis
axis columns = record { left = 280 + (columns + 2) * 72; right = 11280 }

pub returns : goal.returns
unfolding axis_of
returns c =
    let picture = c.args.picture.now in
    let labels = widest (column_text column.Label) picture.timeline.now.steps picture.rows.places.items in
    let columns : c.min-columns.result ≡ min (max labels 8) 64 = omega (arith, c.in_ok-widest.ensures, c.max.ensures, c.min-columns.ensures) in
    let left : 160 + (c.min-columns.result + 2) * 72 + 120 ≡ 280 + (c.min-columns.result + 2) * 72 = omega arith in
    ap (λ (l : ℕ). record { left = l; right = 11280 }) left ∙ ap axis columns
