use Rattle.std.proofs.Common.{◌≡◌, ◌∙◌, ◌++◌, ◌-◌, Some, ℕ, SFits, ap, rules, w64}
use Rattle.std.proofs.lemmas.Int.{to_z-of_z}
use Rattle.term_text.specs.Fitted.{shown_characters}
use Rattle.term_text.specs.declared.rendition.Rendition.TheVariants as rendition
use Rattle.stream_watch.specs.State.{state_of}
use Rattle.stream_watch.specs.Steps.{changes_in}
use Rattle.stream_watch.specs.declared.counts.Counts.{Counts}
use Rattle.stream_panel.specs.Sizes.{age, line_columns}
use Rattle.stream_panel.specs.Status.{status_line, status_part, status_words}
use Rattle.stream_panel.specs.Stretches.{front}
use Rattle.stream_panel.proofs.Parts.{line_then, part_as, part_then, same_age}
use Rattle.stream_panel.proofs.status.push_status_line.Goals as goal

pub returns : goal.returns
unfolding status_line
returns c =
    let t0 = c.args.out.now in
    let t1 = c.push_front.new.out in
    let t2 = c.push_shown_status.new.out in
    let view = c.args.view in
    let state = state_of c.args.watcher.now in
    let words = status_words view.is_waiting state in
    let first_fits : SFits w64 c.clock-clock.result.first = search rules in
    let now_fits : SFits w64 c.clock-clock.result.now = search rules in
    let old : c.age.result ≡ age view.since state.clock.first state.clock.now =
    c.age.ensures ∙ same_age view.since _ _ state.clock.first state.clock.now
    (to_z-of_z w64 c.clock-clock.result.first first_fits ∙ ap (λ clock. clock.first) c.clock-clock.ensures)
    (to_z-of_z w64 c.clock-clock.result.now now_fits ∙ ap (λ clock. clock.now) c.clock-clock.ensures) in
    let time = front (Some rendition.Dim) (age view.since state.clock.first state.clock.now) in
    let timed = part_as t0 t1 view.has_colour _ time (ap (front (Some rendition.Dim)) old) c.push_front.ensures in
    let had = c.push_status.ensures c.new-status.ensures in
    let room = line_columns view - 8 in
    let wide = c.saturating_sub.ensures ∙ ap (λ (n : ℕ). n - 8) c.line_columns.ensures in
    let part = status_part state.counts (changes_in state.steps) room (shown_characters words) in
    let said = part_as t1 t2 view.has_colour _ part
    (ap (λ (n : ℕ). status_part c.counts.result c.open_changes.result n (shown_characters words)) wide
    ∙ ap (λ (n : ℕ). status_part c.counts.result n room (shown_characters words)) c.open_changes.ensures
    ∙ ap (λ (counts : Counts). status_part counts (changes_in state.steps) room (shown_characters words)) c.counts.ensures)
    (c.push_shown_status.ensures words had) in
    line_then t0 t2 c.end_line.new.self view.has_colour (time ++ part) (part_then t0 t1 t2 view.has_colour time part timed said) c.end_line.ensures
