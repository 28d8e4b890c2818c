use Rattle.std.proofs.Common.{◌≡◌, ◌∙◌, None, Some, ap, length, refl, sym}
use Rattle.std.specs.List.{slice_get}
use Rattle.std.proofs.lemmas.Option.{slice_get_past, slice_get_read}
use Rattle.stream_view.specs.Axes.{axis_in}
use Rattle.stream_view.proofs.Growing.{on_ok}
use Rattle.stream_view.proofs.Parts.{empty_group, group_written}
use Rattle.stream_view.proofs.svg.rows.draw_row.Goals as goal

pub returns-in-Some : goal.returns-in-Some
returns-in-Some g c =
    let look = c.in-Some.ensures.lookup in
    let listed : slice_get c.args.picture.now.timeline.now.steps c.args.place ≡ Some c.in-Some.step.now =
    ap (λ steps. slice_get steps c.args.place) (sym c.steps.ensures)
    ∙ slice_get_read c.steps.result.now (length c.steps.result.now) c.args.place c.in-Some.step.now refl look.3.0 look.1 in
    on_ok c.draw_step.result (λ of_step. group_written (axis_in c.args.scale) c.args.picture.now c.args.place c.in-Some.step.now _ _ listed of_step)
    c.draw_step.ensures

pub returns-in-None : goal.returns-in-None
returns-in-None g c =
    let look = c.in-None.ensures.lookup in
    let none : slice_get c.args.picture.now.timeline.now.steps c.args.place ≡ None =
    ap (λ steps. slice_get steps c.args.place) (sym c.steps.ensures) ∙ slice_get_past c.steps.result.now c.args.place look.3 in
    on_ok c.write_text.result (λ sent. empty_group (axis_in c.args.scale) c.args.picture.now c.args.place _ _ none sent) c.write_text.ensures
