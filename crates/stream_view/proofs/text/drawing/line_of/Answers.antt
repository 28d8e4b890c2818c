use Rattle.std.proofs.Common.{◌≡◌, ◌∙◌, None, Some, ap, length, refl, sym}
use Rattle.std.specs.List.{slice_get}
use Rattle.std.proofs.lemmas.Option.{slice_get_past, slice_get_read}
use Rattle.stream_view.specs.Charts.{layout_in}
use Rattle.stream_view.proofs.Rows.{row_missing, row_placed}
use Rattle.stream_view.proofs.text.drawing.line_of.Goals as goal

pub returns-in-Some-clause-row : goal.returns-in-Some-clause-row
returns-in-Some-clause-row c =
    let look = c.in-Some.ensures.lookup in
    let listed : slice_get c.args.picture.now.timeline.now.steps c.args.place ≡ Some c.in-Some.step.now =
    ap (λ steps. slice_get steps c.args.place) (sym c.steps.ensures)
    ∙ slice_get_read c.steps.result.now (length c.steps.result.now) c.args.place c.in-Some.step.now refl look.3.0 look.1 in
    λ whole.
    row_placed c.args.width c.args.place (layout_in c.args.chart.now) c.args.picture.now c.args.ticks.now c.in-Some.step.now
    c.row_of.result.pieces.items c.requires listed (c.row_of.ensures.row whole)

pub returns-in-None-clause-row : goal.returns-in-None-clause-row
returns-in-None-clause-row c =
    let look = c.in-None.ensures.lookup in
    let none : slice_get c.args.picture.now.timeline.now.steps c.args.place ≡ None =
    ap (λ steps. slice_get steps c.args.place) (sym c.steps.ensures) ∙ slice_get_past c.steps.result.now c.args.place look.3 in
    λ whole. row_missing c.args.width c.args.place c.args.picture.now c.args.ticks.now c.new.result.pieces.items none c.new.ensures.empty
