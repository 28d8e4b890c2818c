-- The steps of a plan, one change after another.
use Rattle.std.proofs.Common.{◌≡◌, ◌∙◌, ◌+◌, ◌<◌, ℕ, [], ◌∷◌, ◌++◌, List, Some, ap, append_assoc, arith, drop, length, length-append, refl, sym}
use Rattle.std.specs.Prelude.{slice_get}
use Rattle.std.proofs.lemmas.List.{drop_more}
use Rattle.std.proofs.lemmas.Option.{get_or_from_slice_get, slice_get_within}
use Rattle.apply_model.specs.declared.plan.step_kind.StepKind.{StepKind}
use Rattle.apply_model.specs.Plan.ResourceChange.{ResourceChange}
use Rattle.stream_record_steps.specs.Steps.{PlannedStep, planned_from, planned_steps, steps_from}

drop_change : (changes : List ResourceChange) (i : ℕ) (change : ResourceChange) → Some change ≡ slice_get changes i
    → drop i changes ≡ change ∷ drop (i + 1) changes
drop_change changes i change is =
    drop_more changes i change (slice_get_within changes i change (sym is))
    ∙ ap (λ (c : ResourceChange). c ∷ drop (i + 1) changes) (get_or_from_slice_get changes i change change (sym is))

length-steps_from : (change : ResourceChange) (change_number number place : ℕ) (kinds : List StepKind)
    → length (steps_from change change_number number place kinds) ≡ length kinds
length-steps_from change change_number number place [] = refl
length-steps_from change change_number number place (kind ∷ kinds) =
    omega (arith, length-steps_from change change_number (number + 1) (place + 1) kinds)

-- the steps of one change more
pub change_pushed : (changes : List ResourceChange) (i : ℕ) (before after whole : List PlannedStep) (change : ResourceChange)
    → Some change ≡ slice_get changes i → after ≡ before ++ steps_from change i 0 (length before) change.steps
    → before ++ planned_from i (length before) (drop i changes) ≡ whole
    → after ++ planned_from (i + 1) (length after) (drop (i + 1) changes) ≡ whole
change_pushed changes i before after whole change is pushed so_far =
    let steps = steps_from change i 0 (length before) change.steps in
    let many : length after ≡ length before + length change.steps =
    ap length pushed ∙ length-append before steps ∙ ap (λ (n : ℕ). length before + n) (length-steps_from change i 0 (length before) change.steps) in
    let later = planned_from (i + 1) (length before + length change.steps) (drop (i + 1) changes) in
    ap (λ (place : ℕ). after ++ planned_from (i + 1) place (drop (i + 1) changes)) many
    ∙ ap (λ (list : List PlannedStep). list ++ later) pushed
    ∙ append_assoc before steps later
    ∙ ap (λ (cs : List ResourceChange). before ++ planned_from i (length before) cs) (sym (drop_change changes i change is))
    ∙ so_far
