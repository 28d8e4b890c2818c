use Rattle.std.proofs.Common.{◌≡◌, ◌∙◌, ℕ, SFits, ap, rules, w64}
use Rattle.std.proofs.lemmas.Int.{to_z-of_z}
use Rattle.stream_watch.specs.Lengths.{lengths_of}
use Rattle.stream_watch.specs.State.{state_of}
use Rattle.stream_watch.specs.Steps.{step_view}
use Rattle.stream_panel.specs.Sizes.{age}
use Rattle.stream_panel.specs.Rows.{row_line, row_of}
use Rattle.stream_panel.proofs.Parts.{line_then, part_as, same_age}
use Rattle.stream_panel.proofs.row.push_row.Goals as goal

pub returns : goal.returns
unfolding row_line
returns c =
    let t0 = c.args.out.now in
    let view = c.args.view in
    let state = state_of c.args.watcher.now in
    let step = step_view c.args.step.now in
    let begin = c.args.step.now.begin in
    let begin_fits : SFits w64 begin = search rules in
    let now_fits : SFits w64 c.clock.result.now = search rules in
    let old : c.age-age.result ≡ age view.since begin state.clock.now =
    c.age-age.ensures ∙ same_age view.since _ _ begin state.clock.now (to_z-of_z w64 begin begin_fits)
    (to_z-of_z w64 c.clock.result.now now_fits ∙ ap (λ clock. clock.now) c.clock.ensures) in
    line_then t0 c.push_row_of.new.out c.end_line.new.self view.has_colour (row_line view state step)
    (part_as t0 c.push_row_of.new.out view.has_colour _ (row_line view state step)
    (ap (λ (n : ℕ). row_of view (lengths_of c.lengths.result.now) n step) old
    ∙ ap (λ lengths. row_of view lengths (age view.since begin state.clock.now) step) c.lengths.ensures)
    c.push_row_of.ensures)
    c.end_line.ensures
