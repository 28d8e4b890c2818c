use Rattle.std.proofs.Common.{◌≡◌, ℤ, SFits, ap, of_z, rules, to_z, w64, ◌∙◌}
use Rattle.std.specs.Prelude.{unwrap_or}
use Rattle.std.proofs.lemmas.Int.{to_z-of_z}
use Rattle.serde_json.specs.View.{view}
use Rattle.stream_watch.specs.State.{Tells, Told, looks_of, state_of}
use Rattle.stream_watch.specs.Telling.{at_moment, row_or_text_told, told_at}
use Rattle.stream_watch.specs.declared.clock.Clock.{Clock}
use Rattle.stream_watch.proofs.RowTellings.{on_ok}
use Rattle.stream_watch.proofs.Tellings.{tells_as}
use Rattle.stream_watch.proofs.watcher.Watcher.message_at.Goals as goal

pub returns : goal.returns
returns c =
    let w0 = c.args.self.now in
    let w1 = c.row_or_text.new.self in
    let looks = looks_of w0 in
    let state = state_of w0 in
    let tree = view c.args.tree.now in
    let line = c.args.line.now in
    let clock = c.after-self.result in
    let moment = c.args.moment in
    let fits : SFits w64 clock.now = search rules in
    let begin_fits : SFits w64 c.unwrap_or.result = search rules in
    let begin = to_z w64 (of_z w64 c.unwrap_or.result) in
    let begin_is : begin ≡ unwrap_or moment clock.now =
    to_z-of_z w64 c.unwrap_or.result begin_fits ∙ c.unwrap_or.ensures ∙ ap (unwrap_or moment) (to_z-of_z w64 clock.now fits) in
    let told : Clock → ℤ → Told = λ clock begin. row_or_text_told looks (record state { clock = clock }) w0.find line tree begin in
    let same = ap (told clock) begin_is ∙ ap (λ (clock : Clock). told clock (unwrap_or moment clock.now)) c.after-self.ensures in
    on_ok c.row_or_text.result (Tells (record w0 { clock = clock }) w1 (told clock begin))
    (Tells w0 w1 (told_at looks (at_moment moment state) w0.find line tree moment))
    c.row_or_text.ensures
    (λ tells. let at = tells_as (record w0 { clock = clock }) w1 _ _ same tells in record { looks = at.looks; find = at.find; state = at.state; bytes = at.bytes })
