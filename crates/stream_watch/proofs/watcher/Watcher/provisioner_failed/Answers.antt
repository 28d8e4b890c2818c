use Rattle.std.proofs.Common.{◌≡◌, ◌∙◌, ℕ, ℤ, List, None, Option, ap, refl, w64}
use Rattle.std.proofs.lemmas.Int.{to_z-of_z}
use Rattle.term_words.proofs.Appended.{text_all}
use Rattle.term_words.specs.MessageTexts.{HasText}
use Rattle.stream_watch.specs.ProvisionerRows.{broken_words, running_length, with_running}
use Rattle.stream_watch.specs.State.{state_of}
use Rattle.stream_watch.specs.Steps.{Step}
use Rattle.stream_watch.specs.Words.{length_since}
use Rattle.stream_watch.specs.declared.mark.Mark.TheVariants as mark
use Rattle.stream_watch.proofs.ChangedStates.{line_in}
use Rattle.stream_watch.proofs.watcher.Watcher.provisioner_failed.Goals as goal

pub returns : goal.returns
returns c =
    let before = c.args.self.now in
    let name = c.args.name.now in
    let address = c.args.address.now in
    let moment = c.args.moment in
    let state = state_of before in
    let length : c.length_since-length.result ≡ running_length state.steps address moment =
    c.length_since-length.ensures
    ∙ ap (λ (m : ℤ). length_since c.stop.result m) (to_z-of_z w64 moment c.ranges.moment)
    ∙ ap (λ (begin : Option ℤ). length_since begin moment) c.stop.ensures.begin in
    let words = broken_words name address (running_length state.steps address moment) in
    let has : HasText c.push_failed.new.text words = λ whole. text_all c.new-text.result c.push_failed.new.text _ c.new-text.ensures c.push_failed.ensures whole
    ∙ ap (λ (l : Option ℕ). broken_words name address l) length in
    line_in before (record before { steps = c.stop.new.self }) c.line.new.self (with_running address None state) mark.Failed words refl refl refl
    (ap (λ (steps : List Step). record state { steps = steps }) c.stop.ensures.steps) (c.line.ensures words has)
