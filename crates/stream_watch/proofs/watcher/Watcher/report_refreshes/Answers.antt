use Rattle.std.proofs.Common.{◌≡◌, ◌==◌, ◌<◌, Bool, false, ap, arith, cond, subst}
use Rattle.std.proofs.lemmas.Bool.Decides.{nat_tests}
use Rattle.term_words.proofs.Appended.{text_all}
use Rattle.stream_watch.specs.RefreshRow.{refreshed_words, reported_told}
use Rattle.stream_watch.specs.Refreshes.{none_after}
use Rattle.stream_watch.specs.State.{State, Tells, Told, line_at, looks_of, nothing, state_of}
use Rattle.stream_watch.specs.declared.looks.Looks.{Looks}
use Rattle.stream_watch.specs.declared.mark.Mark.TheVariants as mark
use Rattle.stream_watch.specs.declared.refreshes.Refreshes.{Refreshes}
use Rattle.stream_watch.proofs.watcher.Watcher.report_refreshes.Goals as goal

-- what is told of refreshes, in a state with these
line_with : Looks → State → Refreshes → Told
line_with looks state refreshes = record {
  bytes = line_at looks state mark.Done (refreshed_words state.refreshes);
  state = record state { refreshes = refreshes };
}

reported_some : (looks : Looks) (state : State) → 0 < state.refreshes.unreported
    → line_with looks state (none_after state.refreshes.ended) ≡ reported_told looks state
unfolding line_with line_at
reported_some looks state some =
    let are_some : false ≡ (state.refreshes.unreported == 0) = grind (arith, nat_tests) in
    ap (λ (none : Bool). cond none (nothing state) (line_with looks state (none_after state.refreshes.ended))) are_some

pub returns-then-refreshes-gt0 : goal.returns-then-refreshes-gt0
unfolding line_with line_at
returns-then-refreshes-gt0 c =
    let before = c.args.self.now in
    let after = c.line.new.self in
    let looks = looks_of before in
    let state = state_of before in
    let words = refreshed_words before.refreshes in
    let line = c.line.ensures words (text_all c.new-text.result c.push_refreshes.new.text words c.new-text.ensures c.push_refreshes.ensures) in
    let With : Refreshes → Type 0 = λ refreshes. Tells (record before { refreshes = refreshes }) after (line_with looks state refreshes) in
    let told = subst With c.reported-self.ensures line in
    let Is : Told → Type 0 = λ told. Tells before after told in
    subst Is (reported_some looks state c.if-refreshes-gt0.true)
    (record { looks = told.looks; find = told.find; state = told.state; bytes = told.bytes })
