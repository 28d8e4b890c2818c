use Rattle.std.proofs.Common.{◌∙◌, ℤ, List, ap, refl, Some, w64}
use Rattle.std.proofs.lemmas.Int.{to_z-of_z}
use Rattle.term_words.proofs.Appended.{text_all}
use Rattle.stream_watch.specs.ProvisionerRows.{provisioner_at_words, with_running}
use Rattle.stream_watch.specs.State.{state_of}
use Rattle.stream_watch.specs.Steps.{Step, new_running}
use Rattle.stream_watch.specs.declared.mark.Mark.TheVariants as mark
use Rattle.stream_watch.proofs.ChangedStates.{line_in}
use Rattle.stream_watch.proofs.watcher.Watcher.provisioner_began.Goals as goal

pub returns : goal.returns
returns c =
    let before = c.args.self.now in
    let name = c.args.name.now in
    let address = c.args.address.now in
    let words = provisioner_at_words name address in
    let has = text_all c.new-text.result c.push_provisioner.new.text words c.new-text.ensures c.push_provisioner.ensures in
    let passed = to_z-of_z w64 c.args.moment c.ranges.moment in
    line_in before (record before { steps = c.run.new.self }) c.line.new.self
    (with_running address (Some (new_running name c.args.moment)) (state_of before)) mark.Begin words refl refl refl
    (ap (λ (steps : List Step). record (state_of before) { steps = steps }) c.in_ok-run.ensures
    ∙ ap (λ (moment : ℤ). with_running address (Some (new_running name moment)) (state_of before)) passed) (c.line.ensures words has)
