use Rattle.std.proofs.Common.{◌≡◌, ◌==◌, ℕ, zero, suc, List, length, Option, true, not, nat_lt, arith, refl, sym, ap, ◌∙◌}
use Rattle.std.proofs.lemmas.Bool.{lt-ltb, ne_eqb}
use Rattle.std.specs.Option.{option_map_or}
use Rattle.apply_model.specs.declared.plan.step_kind.StepKind.{StepKind}
use Rattle.apply_model.specs.Plan.ResourceChange.{ResourceChange}
use Rattle.input_validate.proofs.against_plan.waiting.is_waited_for.Goals as goal

some_there : (n : ℕ) → not (n == 0) ≡ nat_lt 0 n
some_there zero = refl
some_there (suc n) = ap not (ne_eqb (suc n) 0 (λ e. omega arith)) ∙ sym (lt-ltb 0 (suc n) (omega arith))

pub returns-in-Some : goal.returns-in-Some
returns-in-Some c =
    ap not c.is_empty.ensures
    ∙ some_there (length c.steps.result.now)
    ∙ ap (λ (kinds : List StepKind). nat_lt 0 (length kinds)) c.steps.ensures.steps
    ∙ ap (λ (change : Option ResourceChange). option_map_or (λ planned. nat_lt 0 (length planned.steps)) change true) c.in-Some.ensures
