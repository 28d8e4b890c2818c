use Rattle.std.proofs.Common.{◌≡◌, Bool, ap, ◌∙◌}
use Rattle.std.specs.Prelude.{is_some}
use Rattle.stream_watch.specs.State.{looks_of, state_of}
use Rattle.stream_watch.specs.Telling.{under_way_told_if}
use Rattle.stream_watch.specs.declared.clock.Clock.{Clock}
use Rattle.stream_watch.proofs.Tellings.{tells_as}
use Rattle.stream_watch.proofs.watcher.Watcher.progress.Goals as goal

-- the time goes on, and then what is under way is told
pub returns : goal.returns
returns c =
    let w0 = c.args.self.now in
    let w1 = c.under_way_if.new.self in
    let looks = looks_of w0 in
    let state = state_of w0 in
    let moment = c.args.moment in
    let clock = c.after-self.result in
    let same = ap (λ (has : Bool). under_way_told_if has looks (record state { clock = clock })) c.is_some.ensures
    ∙ ap (λ (clock : Clock). under_way_told_if (is_some moment) looks (record state { clock = clock })) c.after-self.ensures in
    let told = tells_as (record w0 { clock = clock }) w1 _ _ same c.under_way_if.ensures in
    record { looks = told.looks; find = told.find; state = told.state; bytes = told.bytes }
