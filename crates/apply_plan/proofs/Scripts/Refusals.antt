-- The tests of the steps of an entry.
use Rattle.std.proofs.Common.{◌≡◌, ℕ, ◌+◌, ◌<◌, ◌≤◌, Bool, true, false, cond, List, [], ◌∷◌, length, map, take, get_or, Option, Some, None, refl, sym, ap, ◌∙◌, arith}
use Rattle.std.specs.Prelude.{◌||◌, nat_lt}
use Rattle.std.specs.List.{enumerate_from, list_any, zip}
use Rattle.std.proofs.lemmas.Bool.{le-ltb}
use Rattle.std.proofs.lemmas.List.{get_or-map, length-map, take_all}
use Rattle.std.proofs.lemmas.List.FromFn.{get_or-enumerate_from, length-enumerate_from}
use Rattle.std.proofs.lemmas.List.Folds.{list_any_at, list_any_more}
use Rattle.std.proofs.lemmas.Slice.Zip.{get_or-zip, length-zip}
use Rattle.apply_model.specs.declared.plan.step_kind.StepKind.{StepKind}
use Rattle.apply_model.specs.declared.script.outcome.Outcome.{Outcome}
use Rattle.apply_plan.specs.declared.script.script_error.ScriptError.TheVariants.{SecondsRange, TooManyProvisioners, TooMuchOutput, NotACreate, WarnsNotARead}
use Rattle.apply_plan.specs.declared.script.raw_step.RawStep.{RawStep}
use Rattle.apply_model.specs.Script.Outcome.{has_too_many_provisioners, has_too_much_output, is_too_long}
use Rattle.apply_plan.specs.Script.Refusals.{fault_of_steps, misplaces_provisioners, passes, warns_not_a_read}
use Rattle.apply_plan.specs.Script.RawView.{step_view}

pub list_any-map : {T A : Type 0} (test : A → Bool) (see : T → A) (xs : List T) → list_any test (map see xs) ≡ list_any (λ x. test (see x)) xs
list_any-map test see [] = refl
list_any-map test see (x ∷ xs) = ap (λ b. test (see x) || b) (list_any-map test see xs)

-- the fault, by the results of the tests
pub fault_is : (n : ℕ) (deposed : Bool) (kinds : List StepKind) (steps : List RawStep) (long many loud misplaced warned : Bool) → length steps ≤ length kinds
    → long ≡ list_any (λ step. passes is_too_long (step_view step)) steps → many ≡ list_any (λ step. passes has_too_many_provisioners (step_view step)) steps
    → loud ≡ list_any (λ step. passes has_too_much_output (step_view step)) steps → misplaced ≡ list_any (misplaces_provisioners deposed) (zip (enumerate_from 0 kinds) (map step_view steps))
    → warned ≡ list_any warns_not_a_read (zip (enumerate_from 0 kinds) (map step_view steps))
    → fault_of_steps n deposed kinds (map step_view steps) ≡ cond long (Some (SecondsRange n)) (cond many (Some (TooManyProvisioners n)) (cond loud (Some (TooMuchOutput n)) (cond misplaced (Some (NotACreate n)) (cond warned (Some (WarnsNotARead n)) None))))
unfolding fault_of_steps
fault_is n deposed kinds steps long many loud misplaced warned few long_is many_is loud_is misplaced_is warned_is =
    let no_longer : nat_lt (length kinds) (length (map step_view steps)) ≡ false = rw (length-map steps step_view) (le-ltb _ _ few) in
    rw (no_longer, list_any-map (passes is_too_long) step_view steps, list_any-map (passes has_too_many_provisioners) step_view steps, list_any-map (passes has_too_much_output) step_view steps, ← long_is, ← many_is, ← loud_is, ← misplaced_is, ← warned_is) refl

-- ---- tests of each step with its number and its kind

-- the steps with their numbers and kinds
abbrev pub numbered : List StepKind → List RawStep → List ((ℕ × StepKind) × Option Outcome)
numbered kinds steps = zip (enumerate_from 0 kinds) (map step_view steps)

length-numbered : (kinds : List StepKind) (steps : List RawStep) → length steps ≤ length kinds → length (numbered kinds steps) ≡ length steps
length-numbered kinds steps few = omega (arith, length-zip (enumerate_from 0 kinds) (map step_view steps), length-enumerate_from 0 kinds, length-map steps step_view)

pair_at : (kinds : List StepKind) (steps : List RawStep) (i : ℕ) (d : StepKind) (step : RawStep) → length steps ≤ length kinds → i < length steps → step ≡ get_or steps i step
    → get_or (numbered kinds steps) i ((i, d), step_view step) ≡ ((i, get_or kinds i d), step_view step)
pair_at kinds steps i d step few below is =
    let in_kinds : i < length kinds = omega arith in
    let in_numbers : i < length (enumerate_from 0 kinds) = omega (arith, length-enumerate_from 0 kinds) in
    let in_steps : i < length (map step_view steps) = rw (length-map steps step_view) below in
    let place : 0 + i ≡ i = omega arith in
    get_or-zip (enumerate_from 0 kinds) (map step_view steps) i ((i, d), step_view step) in_numbers in_steps
    ∙ rw (get_or-enumerate_from 0 kinds i (i, d) in_kinds, get_or-map step_view steps i step (step_view step) below, ← is, place) refl

module _ (test : (ℕ × StepKind) × Option Outcome → Bool) (kinds : List StepKind) (steps : List RawStep) (i : ℕ) where
  pub one_passes : (d : StepKind) (step : RawStep) → length steps ≤ length kinds → i < length steps → step ≡ get_or steps i step
      → true ≡ test ((i, get_or kinds i d), step_view step) → true ≡ list_any test (numbered kinds steps)
  one_passes d step few below is passed =
      let within : i < length (numbered kinds steps) = omega (arith, length-numbered kinds steps few) in
      sym (list_any_at test (numbered kinds steps) i ((i, d), step_view step) within (ap test (pair_at kinds steps i d step few below is) ∙ sym passed))

  pub still_none_passes : (d : StepKind) (step : RawStep) → length steps ≤ length kinds → i < length steps → step ≡ get_or steps i step
      → false ≡ test ((i, get_or kinds i d), step_view step) → list_any test (take i (numbered kinds steps)) ≡ false → list_any test (take (i + 1) (numbered kinds steps)) ≡ false
  still_none_passes d step few below is failed so_far =
      let within : i < length (numbered kinds steps) = omega (arith, length-numbered kinds steps few) in
      let here : test (get_or (numbered kinds steps) i ((i, d), step_view step)) ≡ false = ap test (pair_at kinds steps i d step few below is) ∙ sym failed in
      list_any_more test (numbered kinds steps) i ((i, d), step_view step) within ∙ rw (so_far, here) refl

  pub none_of_all_passes : length steps ≤ length kinds → length steps ≤ i → list_any test (take i (numbered kinds steps)) ≡ false → false ≡ list_any test (numbered kinds steps)
  none_of_all_passes few past so_far =
      let all : length (numbered kinds steps) ≤ i = omega (arith, length-numbered kinds steps few) in
      sym so_far ∙ ap (λ xs. list_any test xs) (take_all i (numbered kinds steps) all)
