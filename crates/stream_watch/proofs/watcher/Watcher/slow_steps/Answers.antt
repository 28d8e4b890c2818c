use Rattle.std.proofs.Common.{ℕ, ap, subst, ◌∙◌}
use Rattle.stream_watch.specs.Progress.{marks_at, under_way_words}
use Rattle.stream_watch.specs.State.{Tells, line_told, looks_of, state_of}
use Rattle.stream_watch.specs.declared.mark.Mark.TheVariants as mark
use Rattle.stream_watch.proofs.watcher.Watcher.slow_steps.Goals as goal

pub returns : goal.returns
returns c =
    let before = c.args.self.now in
    let after = c.line.new.self in
    let words = under_way_words (state_of before) in
    let line = c.line.ensures words (c.push_under_way.ensures c.new-text.ensures) in
    let With : ℕ → Type 0 =
    λ marks. Tells (record before { marks = marks }) after (line_told (looks_of before) (record (state_of before) { marks = marks }) mark.UnderWay words) in
    let told = subst With (c.marks_at-self.ensures ∙ ap marks_at c.elapsed.ensures) line in
    record { looks = told.looks; find = told.find; state = told.state; bytes = told.bytes }
