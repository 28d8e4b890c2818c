-- How many steps a plan has.
use Rattle.std.proofs.Common.{◌≡◌, ◌∙◌, ◌+◌, ◌≤◌, ℕ, [], ◌∷◌, List, Some, add-zero, add_assoc, ap, drop, length, length-append, refl, sym}
use Rattle.std.specs.Prelude.{slice_get, suc}
use Rattle.std.proofs.lemmas.List.{drop_all}
use Rattle.apply_model.specs.declared.plan.step_kind.StepKind.{StepKind}
use Rattle.apply_model.specs.Plan.ResourceChange.{ResourceChange}
use Rattle.stream_record.proofs.Items.{drop_item}
use Rattle.stream_record_steps.specs.Steps.{planned_from, steps_from}

as_many_kinds : (change : ResourceChange) (change_number number place : ℕ) (kinds : List StepKind)
    → length (steps_from change change_number number place kinds) ≡ length kinds
as_many_kinds change change_number number place [] = refl
as_many_kinds change change_number number place (kind ∷ kinds) = ap (λ (n : ℕ). suc n) (as_many_kinds change change_number (number + 1) (place + 1) kinds)

-- the steps of a change more
pub counted_more : (changes : List ResourceChange) (number count : ℕ) (change : ResourceChange) → Some change ≡ slice_get changes number
    → count + length (planned_from number count (drop number changes))
    ≡ (count + length change.steps) + length (planned_from (number + 1) (count + length change.steps) (drop (number + 1) changes))
counted_more changes number count change is =
    let rest = planned_from (number + 1) (count + length change.steps) (drop (number + 1) changes) in
    ap (λ cs. count + length (planned_from number count cs)) (drop_item changes number change is)
    ∙ ap (λ n. count + n) (length-append (steps_from change number 0 count change.steps) rest)
    ∙ ap (λ n. count + (n + length rest)) (as_many_kinds change number 0 count change.steps)
    ∙ sym (add_assoc count (length change.steps) (length rest))

-- the steps of all changes
pub all_counted : (changes : List ResourceChange) (number count : ℕ) → length changes ≤ number → count + length (planned_from number count (drop number changes)) ≡ count
all_counted changes number count ended =
    ap (λ cs. count + length (planned_from number count cs)) (drop_all number changes ended) ∙ add-zero count
