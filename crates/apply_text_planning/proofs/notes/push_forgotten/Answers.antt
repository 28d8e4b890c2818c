use Rattle.std.proofs.Common.{◌++◌, string_bytes, ap, ◌∙◌, subst, ◌≤◌}
use Rattle.std.specs.Prelude.{Option}
use Rattle.apply_model.specs.declared.details.change_details.ChangeDetails.{ChangeDetails}
use Rattle.apply_text_planning.specs.Notes.{forgotten_at, forgotten_lines}
use Rattle.apply_text_planning.proofs.Forgotten.{all_named, details_at, more_named}
use Rattle.apply_text_planning.proofs.notes.push_forgotten.Goals as goal

pub loop-number-preserved : goal.loop-number-preserved
loop-number-preserved c =
    let line = λ (details : Option ChangeDetails). string_bytes c.loop-number.lines ++ forgotten_lines (forgotten_at c.change.result.now details) in
    more_named _ _ _ c.args.plan.now.changes c.args.details.now c.loop-number.number c.change.result.now c.change.ensures
    (c.in_ok-push_if_forgotten.ensures ∙ ap line (details_at _ _ _ c.get.ensures.lookup.1 c.get.ensures.lookup.3)) c.loop-number.invariant

pub returns : goal.returns
returns c =
    let end = subst (λ n. n ≤ c.loop-number.number) c.len-number-end.ensures.len c.loop-number-test.false in
    all_named _ _ c.args.plan.now.changes c.args.details.now c.loop-number.number end c.loop-number.invariant
