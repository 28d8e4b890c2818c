-- The steps of a plan, and their outcomes, one after another.
use Rattle.std.proofs.Common.{◌≡◌, ◌∙◌, ℕ, ◌+◌, ◌<◌, ◌≤◌, [], ◌∷◌, ◌++◌, List, Option, Some, None, ap, append_assoc, arith, drop, length, refl, sym}
use Rattle.std.specs.Prelude.{zero, suc, slice_get, sum_by}
use Rattle.std.proofs.lemmas.List.{drop_more}
use Rattle.std.proofs.lemmas.List.Sums.{sum_by-cons}
use Rattle.apply_model.specs.declared.plan.step_kind.StepKind.{StepKind}
use Rattle.apply_model.specs.declared.plan.step_kind.StepKind.TheVariants.{Create}
use Rattle.apply_model.specs.declared.script.wait.Wait.{Wait}
use Rattle.apply_model.specs.Plan.ResourceChange.{ResourceChange}
use Rattle.apply_model.specs.Script.Limits.{max_waits}
use Rattle.stream_record.specs.EvenScript.{even_changes, even_step, even_steps, planned_from, steps_at, steps_from, waits_at}
use Rattle.stream_record.proofs.Items.{drop_item}

-- one more item of a list that is made from the items of another
pub pushed_more : {A : Type 0} (before after : List A) (item : A) (left rest whole : List A)
    → left ≡ item ∷ rest → after ≡ before ++ item ∷ [] → before ++ left ≡ whole → after ++ rest ≡ whole
pushed_more before after item left rest whole is pushed so_far =
    ap (λ items. items ++ rest) pushed ∙ append_assoc before (item ∷ []) rest ∙ ap (λ items. before ++ items) (sym is) ∙ so_far

pub steps_more : (change : ℕ) (kinds : List StepKind) (step : ℕ) → step < length kinds
    → steps_from change step (drop step kinds) ≡ record { change = change; step = step } ∷ steps_from change (step + 1) (drop (step + 1) kinds)
steps_more change kinds step below = ap (steps_from change step) (drop_more kinds step Create below)

pub planned_more : (changes : List ResourceChange) (number : ℕ) (change : ResourceChange) (before after whole : List Wait)
    → Some change ≡ slice_get changes number → after ≡ before ++ steps_from number 0 change.steps
    → before ++ planned_from number (drop number changes) ≡ whole
    → after ++ planned_from (number + 1) (drop (number + 1) changes) ≡ whole
planned_more changes number change before after whole is pushed so_far =
    let rest = planned_from (number + 1) (drop (number + 1) changes) in
    ap (λ steps. steps ++ rest) pushed ∙ append_assoc before (steps_from number 0 change.steps) rest
    ∙ ap (λ cs. before ++ planned_from number cs) (sym (drop_item changes number change is)) ∙ so_far

pub even_steps_more : (planned : List Wait) (waits : List (List ℕ)) (first : ℕ) (kinds : List StepKind) (step : ℕ) → step < length kinds
    → even_steps planned waits (first + step) (drop step kinds)
    ≡ even_step (steps_at planned (waits_at waits (first + step))) ∷ even_steps planned waits (first + (step + 1)) (drop (step + 1) kinds)
even_steps_more planned waits first kinds step below =
    let next : first + step + 1 ≡ first + (step + 1) = omega arith in
    ap (even_steps planned waits (first + step)) (drop_more kinds step Create below)
    ∙ ap (λ n. even_step (steps_at planned (waits_at waits (first + step))) ∷ even_steps planned waits n (drop (step + 1) kinds)) next

pub even_changes_more : (planned : List Wait) (waits : List (List ℕ)) (first : ℕ) (changes : List ResourceChange) (number : ℕ) (change : ResourceChange)
    → Some change ≡ slice_get changes number
    → even_changes planned waits first (drop number changes)
    ≡ Some (even_steps planned waits first change.steps) ∷ even_changes planned waits (first + length change.steps) (drop (number + 1) changes)
even_changes_more planned waits first changes number change is =
    ap (even_changes planned waits first) (drop_item changes number change is)

-- ---- the limits of a script

module _ (planned : List Wait) where
  few_by : (n : ℕ) (ns : List ℕ) (step : Option Wait) → slice_get planned n ≡ step → length (steps_at planned ns) ≤ length ns
      → length (steps_at planned (n ∷ ns)) ≤ length (n ∷ ns)
  few_by n ns None is few = rw is (omega (arith, few))
  few_by n ns (Some wait) is few = rw is (omega (arith, few))

  few_found : (numbers : List ℕ) → length (steps_at planned numbers) ≤ length numbers
  few_found [] = omega arith
  few_found (n ∷ ns) = few_by n ns (slice_get planned n) refl (few_found ns)

  few_at : (waits : List (List ℕ)) (n : ℕ) → length (waits_at waits n) ≤ sum_by length waits
  few_at [] n = omega arith
  few_at (ns ∷ waits) zero =
      let few : length ns ≤ sum_by length (ns ∷ waits) = omega (arith, sum_by-cons length ns waits) in few
  few_at (ns ∷ waits) (suc n) =
      let few : length (waits_at waits n) ≤ sum_by length (ns ∷ waits) = omega (arith, sum_by-cons length ns waits, few_at waits n) in few

  module _ (waits : List (List ℕ)) (few : sum_by length waits ≤ max_waits) where
    pub few_after : (n : ℕ) → length (steps_at planned (waits_at waits n)) ≤ max_waits
    few_after n = omega (arith, few, few_at waits n, few_found (waits_at waits n))
