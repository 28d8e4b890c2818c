use Rattle.std.proofs.Common.{ap, of_z, sym, to_z, w64, ◌∙◌}
use Rattle.std.proofs.lemmas.Int.{to_z-of_z}
use Rattle.serde_json.specs.View.{view}
use Rattle.stream_watch.specs.State.{Tells, looks_of, nothing, state_of}
use Rattle.stream_watch.specs.Telling.{other_told, row_or_text_told, row_told}
use Rattle.stream_watch.proofs.RowTellings.{on_ok, told_none, told_some}
use Rattle.stream_watch.proofs.Tellings.{tells_as, told_behind}
use Rattle.stream_watch.proofs.watcher.Watcher.row_or_text.Goals as goal

pub returns-then-is_told : goal.returns-then-is_told
returns-then-is_told c =
    let w0 = c.args.self.now in
    let w1 = c.row.new.self in
    let tree = view c.args.tree.now in
    let line = c.args.line.now in
    let row = row_told (looks_of w0) (state_of w0) w0.find line tree (to_z w64 (of_z w64 c.args.moment)) in
    let moment_is = to_z-of_z w64 c.args.moment c.ranges.moment in
    tells_as w0 w1 _ _
    (told_some row (nothing (state_of w0)) (other_told (looks_of w0) line tree (state_of w0)) (sym c.in_ok-is_told.ensures.is ∙ c.if-is_told.true)
    ∙ ap (row_or_text_told (looks_of w0) (state_of w0) w0.find line tree) moment_is)
    c.in_ok-is_told.ensures.told

pub returns-else-is_told : goal.returns-else-is_told
returns-else-is_told c =
    let w0 = c.args.self.now in
    let w1 = c.row.new.self in
    let w2 = c.other.new.self in
    let tree = view c.args.tree.now in
    let line = c.args.line.now in
    let looks = looks_of w0 in
    let state = state_of w0 in
    let moment_is = to_z-of_z w64 c.args.moment c.ranges.moment in
    let row = row_told looks state w0.find line tree (to_z w64 (of_z w64 c.args.moment)) in
    let none = sym c.in_ok-is_told.ensures.is ∙ c.if-is_told.false in
    let first = tells_as w0 w1 _ _ (told_none row (nothing state) none) c.in_ok-is_told.ensures.told in
    on_ok c.other.result (Tells w1 w2 (other_told (looks_of w1) line tree (state_of w1)))
    (Tells w0 w2 (row_or_text_told looks state w0.find line tree c.args.moment))
    c.other.ensures
    (λ second. tells_as w0 w2 _ _
    (sym (told_none row (other_told looks line tree state) none) ∙ ap (row_or_text_told looks state w0.find line tree) moment_is)
    (told_behind w0 w1 w2 (nothing state) (λ looks state. other_told looks line tree state) first second))
