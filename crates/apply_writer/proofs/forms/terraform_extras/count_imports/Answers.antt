use Rattle.std.proofs.Common.{◌≡◌, ◌+◌, Bool, get_or, sym, ap, ◌∙◌}
use Rattle.std.specs.Option.{is_some}
use Rattle.std.proofs.lemmas.List.Sums.{count_by_more_no, count_by_more_yes}
use Rattle.apply_model.specs.declared.details.change_details.ChangeDetails.{ChangeDetails}
use Rattle.apply_writer.proofs.forms.terraform_extras.count_imports.Goals as goal
use Rattle.apply_writer.proofs.forms.terraform_extras.count_imports.Goals.{then-is_some, else-is_some}

pub loop-change-preserved : goal.loop-change-preserved
loop-change-preserved c =
    let imports : ChangeDetails → Bool = λ change. is_some change.importing in
    let details = c.args.details.now in
    let i = c.loop-change.change-index in
    let change = c.change-item.result in
    let test : imports (get_or details i change) ≡ c.is_some.result = sym (c.is_some.ensures ∙ ap imports c.change-item.is) in
    elim c.if-is_some.branch [
      | then-is_some w ↦ w.count-is ∙ ap (λ n. n + 1) c.loop-change.invariant ∙ sym (count_by_more_yes imports details i change c.loop-change-test.true (test ∙ w.if-is_some.true))
      | else-is_some w ↦ w.count-is ∙ c.loop-change.invariant ∙ sym (count_by_more_no imports details i change c.loop-change-test.true (test ∙ w.if-is_some.false))
    ]
