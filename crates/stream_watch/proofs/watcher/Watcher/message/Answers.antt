use Rattle.std.proofs.Common.{◌≡◌, ℤ, Bool, Option, ap, subst, ◌∙◌}
use Rattle.std.specs.Prelude.{is_some}
use Rattle.serde_json.specs.View.{view}
use Rattle.stream_watch.specs.State.{Tells, looks_of, state_of}
use Rattle.stream_watch.specs.Telling.{at_moment, moment_of, told_at, under_way_told_if}
use Rattle.stream_watch.proofs.Tellings.{tells_as, told_behind}
use Rattle.stream_watch.proofs.watcher.Watcher.message.Goals as goal

pub returns : goal.returns
returns c =
    let w0 = c.args.self.now in
    let w1 = c.message_at.new.self in
    let w2 = c.under_way_if.new.self in
    let tree = view c.args.tree.now in
    let At : Option ℤ → Type 0 = λ moment. Tells w0 w1 (told_at (looks_of w0) (at_moment moment (state_of w0)) w0.find c.args.line.now tree moment) in
    let first = subst At c.moment_of-moment.ensures c.in_ok-message_at.ensures in
    let has_moment = c.is_some.ensures ∙ ap is_some c.moment_of-moment.ensures in
    let second = tells_as w1 w2 _ _ (ap (λ (has_moment : Bool). under_way_told_if has_moment (looks_of w1) (state_of w1)) has_moment) c.under_way_if.ensures in
    told_behind w0 w1 w2 (told_at (looks_of w0) (at_moment (moment_of tree) (state_of w0)) w0.find c.args.line.now tree (moment_of tree))
    (under_way_told_if (is_some (moment_of tree))) first second
