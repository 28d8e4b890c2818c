use Rattle.std.proofs.Common.{◌≡◌, [], ◌++◌, codes, decimal, cond, sym, ap, ◌∙◌, append_assoc}
use Rattle.std.proofs.lemmas.Bool.{ne_eqb}
use Rattle.std.proofs.lemmas.Result.{on_ok_weaker}
use Rattle.apply_text.proofs.Texts.{cleared}
use Rattle.apply_text_planning.specs.declared.plan_totals.PlanTotals.{PlanTotals}
use Rattle.apply_text_planning.specs.Message.{plan_summary_message, to_import_text}
use Rattle.apply_text_planning.proofs.messages.write_totals.Goals as goal

none_imported : (totals : PlanTotals) → totals.imported ≡ 0
    → codes "Plan: " ++ (decimal totals.added ++ (codes " to add, " ++ (decimal totals.changed ++ (codes " to change, " ++ (decimal totals.removed ++ codes " to destroy."))))) ≡ (plan_summary_message totals).text
none_imported totals none =
    ap (λ imports. codes "Plan: " ++ (imports ++ (decimal totals.added ++ (codes " to add, " ++ (decimal totals.changed ++ (codes " to change, " ++ (decimal totals.removed ++ codes " to destroy."))))))) (sym (ap to_import_text none))

some_imported : (totals : PlanTotals) → (totals.imported ≡ 0 → ⊥)
    → codes "Plan: " ++ (decimal totals.imported ++ (codes " to import, " ++ (decimal totals.added ++ (codes " to add, " ++ (decimal totals.changed ++ (codes " to change, " ++ (decimal totals.removed ++ codes " to destroy."))))))) ≡ (plan_summary_message totals).text
some_imported totals some =
    let rest = decimal totals.added ++ (codes " to add, " ++ (decimal totals.changed ++ (codes " to change, " ++ (decimal totals.removed ++ codes " to destroy.")))) in
    ap (λ t. codes "Plan: " ++ t) (sym (append_assoc (decimal totals.imported) (codes " to import, ") rest))
    ∙ ap (λ imports. codes "Plan: " ++ (imports ++ rest)) (sym (ap (λ b. cond b [] (decimal totals.imported ++ codes " to import, ")) (ne_eqb totals.imported 0 some)))

pub returns-then-imported-eq0 : goal.returns-then-imported-eq0
returns-then-imported-eq0 c = on_ok_weaker c.write.result (λ e. cleared _ _ _ c.clear.ensures.bytes e ∙ none_imported c.args.totals c.if-imported-eq0.true) c.write.ensures.bytes

pub returns : goal.returns
returns c = on_ok_weaker c.write-2.result (λ e. cleared _ _ _ c.clear.ensures.bytes e ∙ some_imported c.args.totals c.if-imported-eq0.false) c.write-2.ensures.bytes
