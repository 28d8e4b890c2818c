use Rattle.std.proofs.Common.{◌∙◌, ap, List, ℕ}
use Rattle.apply_model.specs.Plan.ResourceChange.{ResourceChange}
use Rattle.apply_model.specs.declared.plan.step_kind.StepKind.{StepKind}
use Rattle.stream_record_warnings.specs.Names.{deposed_words, kind_at}
use Rattle.term_words.proofs.Appended.{text_as}
use Rattle.stream_record_warnings.proofs.TextLemmas.{then_as}
use Rattle.stream_record_warnings.proofs.names.push_step.Goals as goal

pub returns : goal.returns
returns c =
    let step = c.args.step.now in
    let address = c.address.ensures ∙ ap (λ (change : ResourceChange). change.address) c.change.ensures in
    let deposed = c.deposed.ensures ∙ ap (λ (change : ResourceChange). change.deposed) c.change-2.ensures in
    then_as c.args.text.now c.push_kind_at.new.text c.push_deposed.new.text _ _ _ (ap deposed_words deposed)
    (text_as c.args.text.now c.push_kind_at.new.text _ _
    (ap (λ (kind : StepKind). kind_at kind c.address.result.now) c.kind.ensures ∙ ap (λ (a : List ℕ). kind_at step.kind a) address)
    c.push_kind_at.ensures) c.push_deposed.ensures
