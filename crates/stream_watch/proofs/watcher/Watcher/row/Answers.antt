use Rattle.std.proofs.Common.{ℤ, ap, w64, ◌∙◌}
use Rattle.std.specs.Prelude.{option_and_then}
use Rattle.std.proofs.lemmas.Int.{to_z-of_z}
use Rattle.serde_json.specs.View.{view}
use Rattle.stream_message.specs.Kinds.{kind_named}
use Rattle.stream_watch.specs.State.{looks_of, state_of}
use Rattle.stream_watch.specs.Telling.{kind_told}
use Rattle.stream_watch.proofs.RowTellings.{row_is, row_told_as}
use Rattle.stream_watch.proofs.watcher.Watcher.row.Goals as goal

pub returns-in-Some : goal.returns-in-Some
returns-in-Some c =
    let before = c.args.self.now in
    let looks = looks_of before in
    let state = state_of before in
    let tree = view c.args.tree.now in
    let line = c.args.line.now in
    let moment = c.args.moment in
    let name = c.in-Some.name.now in
    let same = ap (λ (m : ℤ). kind_told looks state before.find line name tree m c.named.result) (to_z-of_z w64 moment c.ranges.moment)
    ∙ ap (kind_told looks state before.find line name tree moment) c.named.ensures
    ∙ ap (option_and_then (λ name. kind_told looks state before.find line name tree moment (kind_named name))) c.in-Some.ensures in
    record {
      is = row_is c.row_of.result _ _ same c.row_of.ensures.is;
      told = row_told_as c.row_of.result before c.row_of.new.self _ _ same c.row_of.ensures.told;
    }
