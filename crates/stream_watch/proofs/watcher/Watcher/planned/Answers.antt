use Rattle.std.proofs.Common.{Option, option_map, subst, unwrap_or}
use Rattle.term_words.proofs.Appended.{text_all}
use Rattle.stream_watch.specs.AfterRefreshes.{told_after_refreshes}
use Rattle.stream_watch.specs.Changes.{NamedChange, change_view, counting, planned_words}
use Rattle.stream_watch.specs.Marks.{planned_mark}
use Rattle.stream_watch.specs.State.{Tells, looks_of, nothing, state_of}
use Rattle.stream_watch.specs.declared.counts.Counts.{Counts}
use Rattle.stream_watch.specs.declared.mark.Mark.{Mark}
use Rattle.stream_watch.proofs.watcher.Watcher.planned.Goals as goal

-- The line is that of the change which the message names, in the state that counts it.
pub returns-clause-told : goal.returns-clause-told
returns-clause-told c =
    let before = c.args.self.now in
    let after = c.line_after_refreshes.new.self in
    let looks = looks_of before in
    let change = change_view c.in-Some.change in
    let words = planned_words change in
    let line = c.line_after_refreshes.ensures words (text_all c.new-text.result c.push_planned.new.text words c.new-text.ensures c.push_planned.ensures) in
    let WithCounts : Counts → Type 0 =
    λ counts. Tells (record before { counts = counts }) after (told_after_refreshes looks c.planned.result words (record (state_of before) { counts = counts })) in
    let counted = subst WithCounts c.with_planned-self.ensures line in
    let WithMark : Mark → Type 0 = λ mark. Tells before after (told_after_refreshes looks mark words (counting change.action (state_of before))) in
    let marked = subst WithMark c.planned.ensures (record { looks = counted.looks; find = counted.find; state = counted.state; bytes = counted.bytes }) in
    let OfNamed : Option NamedChange → Type 0 = λ named. Tells before after (unwrap_or (option_map
    (λ change. told_after_refreshes looks (planned_mark change.action) (planned_words change) (counting change.action (state_of before)))
    named) (nothing (state_of before))) in
    subst OfNamed c.in-Some.ensures marked
