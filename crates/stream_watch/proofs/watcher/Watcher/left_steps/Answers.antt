use Rattle.std.proofs.Common.{ap}
use Rattle.term_words.proofs.Appended.{text_all, text_as}
use Rattle.stream_watch.specs.Ending.{planned_steps_words}
use Rattle.stream_watch.specs.State.{state_of}
use Rattle.stream_watch.specs.Steps.{changes_in}
use Rattle.stream_watch.proofs.watcher.Watcher.left_steps.Goals as goal

pub returns : goal.returns
returns c =
    let state = state_of c.args.self.now in
    let words = planned_steps_words state.counts (changes_in state.steps) in
    c.line.ensures words
    (text_all c.new-text.result c.push_planned_steps.new.text words c.new-text.ensures
    (text_as c.new-text.result c.push_planned_steps.new.text _ words (ap (planned_steps_words state.counts) c.changes.ensures) c.push_planned_steps.ensures))
