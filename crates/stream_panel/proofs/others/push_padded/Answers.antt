use Rattle.std.proofs.Common.{◌≡◌, ◌∙◌, ◌-◌, None, ap, arith}
use Rattle.term_text.specs.Columns.{columns_of}
use Rattle.term_text.specs.Fitted.{shown_characters}
use Rattle.term_text.specs.Fitting.{fitted}
use Rattle.stream_panel.specs.Stretches.{copies, plain, rendered, within}
use Rattle.stream_panel.specs.Rows.{padded}
use Rattle.stream_panel.proofs.Parts.{copies_as, part_as, part_then}
use Rattle.stream_panel.proofs.others.push_padded.Goals as goal

pub returns-in-Ok : goal.returns-in-Ok
unfolding padded
returns-in-Ok c words had =
    let t0 = c.args.out.now in
    let t1 = c.push_stretch.new.out in
    let t2 = c.push_copies.new.out in
    let colour = c.args.has_colour in
    let columns = c.args.columns in
    let text = fitted columns (shown_characters words) in
    let is : c.in-Ok.text ≡ text = c.in-Ok.ensures words had in
    let left : c.saturating_sub.result ≡ columns - columns_of text =
    omega (arith, c.saturating_sub.ensures, c.columns.ensures, ap columns_of is, c.ranges.columns) in
    part_then t0 t1 t2 colour (within None columns words) (copies None 32 (columns - columns_of text))
    (part_as t0 t1 colour _ (plain text) (ap (rendered None) (c.characters.ensures ∙ is)) c.push_stretch.ensures)
    (copies_as t1 t2 colour None 32 c.saturating_sub.result (columns - columns_of text) left c.push_copies.ensures)
