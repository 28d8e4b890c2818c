use Rattle.std.proofs.Common.{◌≡◌, ◌∙◌, ℕ, ℤ, Option, ap, refl, w64}
use Rattle.std.proofs.lemmas.Int.{to_z-of_z}
use Rattle.term_words.proofs.Appended.{text_all}
use Rattle.term_words.specs.MessageTexts.{HasText}
use Rattle.stream_watch.specs.Counts.{with_failed}
use Rattle.stream_watch.specs.State.{State, nothing, state_of}
use Rattle.stream_watch.specs.StepRows.{failed_words, named_view, step_length, without_step}
use Rattle.stream_watch.specs.declared.counts.Counts.{Counts}
use Rattle.stream_watch.specs.declared.mark.Mark.TheVariants as mark
use Rattle.stream_watch.proofs.Tellings.{line_then}
use Rattle.stream_watch.proofs.watcher.Watcher.step_failed.Goals as goal

-- the step is taken away, its end is counted, and its line follows
pub returns : goal.returns
returns c =
    let before = c.args.self.now in
    let without = c.step_length-length.new.self in
    let ended = c.step_length-length.ensures.told in
    let state = state_of before in
    let step = named_view c.args.message in
    let length = step_length state.steps step c.args.moment in
    let words = failed_words step length in
    let passed = to_z-of_z w64 c.args.moment c.ranges.moment in
    let same : failed_words step c.step_length-length.result ≡ words =
    ap (λ (l : Option ℕ). failed_words step l) c.step_length-length.ensures.length
    ∙ ap (λ (moment : ℤ). failed_words step (step_length state.steps step moment)) passed in
    let has : HasText c.push_failed.new.text words = λ whole. text_all c.new-text.result c.push_failed.new.text _ c.new-text.ensures c.push_failed.ensures whole ∙ same in
    line_then before without (record without { counts = c.with_failed-self.result }) c.line.new.self
    (nothing (without_step step state)) (λ (st : State). record st { counts = with_failed step.action st.counts }) mark.Failed words
    ended refl refl refl (ap (λ (counts : Counts). record (state_of without) { counts = counts }) c.with_failed-self.ensures) (c.line.ensures words has)
