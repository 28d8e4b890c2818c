-- A step is not applied if and only if it is skipped or a step before it in its change is.
use Rattle.std.proofs.Common.{◌≡◌, ℕ, zero, suc, ◌+◌, ◌<◌, ◌≤◌, Bool, true, false, List, [], ◌∷◌, Option, Some, None, cond, length, take, refl, sym, ap, ◌∙◌, subst, ⊎_elim, arith, ltb, lt-ltb}
use Rattle.std.specs.Prelude.{option_and_then, slice_get, unwrap_or}
use Rattle.std.specs.List.{position_from}
use Rattle.std.specs.Option.{option_map_or}
use Rattle.std.proofs.lemmas.Bool.{cases_Bool, cases_lt, true≢false}
use Rattle.std.proofs.lemmas.List.{length-take}
use Rattle.apply_model.specs.declared.script.script_step.ScriptStep.{ScriptStep}
use Rattle.apply_model.specs.declared.script.script_step.ScriptStep.TheVariants.{Answered, Skipped}
use Rattle.apply_model.specs.Script.Outcome.{default_outcome}
use Rattle.apply_model.specs.Script.OutcomeMap.{OutcomeMap, first_skipped, stated_step, stated_steps}
use Rattle.apply_model.specs.Script.Step.{after_of, answer_to, if_byte, is_skipped}
use Rattle.apply_model.specs.Script.Waits.{waits_of, stated_waits}
use Rattle.apply_events.specs.Fits.{HasStep, IsApplied}
use Rattle.apply_events.specs.Step.{Work, kinds_of}
use Rattle.laws_run.specs.WaitingSteps.{skips}

-- ---- the first that passes a test

-- an element that passes the test is no sooner than the first that does
first_by : {X : Type 0} (test : X → Bool) (n : ℕ) (xs : List X) (k : ℕ) → option_map_or test (slice_get xs k) false ≡ true
    → (j : ℕ) × (j ≤ k) × (position_from test n xs ≡ Some (n + j))
first_by test n [] zero is = absurd (true≢false (sym is))
first_by test n [] (suc k) is = absurd (true≢false (sym is))
first_by test n (x ∷ xs) zero is =
    let place : n ≡ n + 0 = omega arith in
    (0, omega arith, ap (λ t. cond t (Some n) (position_from test (n + 1) xs)) is ∙ ap (λ m. let located : Option ℕ = Some m in located) place)
first_by test n (x ∷ xs) (suc k) is = ⊎_elim
    (λ (here : test x ≡ true).
    let place : n ≡ n + 0 = omega arith in
    (0, omega arith, ap (λ t. cond t (Some n) (position_from test (n + 1) xs)) here ∙ ap (λ m. let located : Option ℕ = Some m in located) place))
    (λ (here : test x ≡ false).
    let rest = first_by test (n + 1) xs k is in
    let low = rest.1 in
    let place : n + 1 + rest.0 ≡ n + suc (rest.0) = omega arith in
    (suc (rest.0), omega arith, ap (λ t. cond t (Some n) (position_from test (n + 1) xs)) here ∙ rest.2 ∙ ap (λ m. let located : Option ℕ = Some m in located) place))
    (cases_Bool (test x))

-- and the first passes
passes : {X : Type 0} (test : X → Bool) (n : ℕ) (xs : List X) (m : ℕ) → position_from test n xs ≡ Some m
    → (j : ℕ) × (m ≡ n + j) × (option_map_or test (slice_get xs j) false ≡ true)
passes test n [] m is = absurd cc
passes test n (x ∷ xs) m is = ⊎_elim
    (λ (here : test x ≡ true).
    let same : Some n ≡ Some m = ap (λ t. cond t (Some n) (position_from test (n + 1) xs)) (sym here) ∙ is in
    let number : n ≡ m = cc in
    (0, omega arith, here))
    (λ (here : test x ≡ false).
    let rest = passes test (n + 1) xs m (ap (λ t. cond t (Some n) (position_from test (n + 1) xs)) (sym here) ∙ is) in
    let number = rest.1 in
    (suc (rest.0), omega arith, rest.2))
    (cases_Bool (test x))

-- ---- of a change

byte_is : (located : Option ℕ) (j : ℕ) → located ≡ Some j → j < 256 → if_byte located ≡ Some j
byte_is located j is low = ap if_byte is ∙ ap (λ t. cond t (let one : Option ℕ = Some j in one) None) (lt-ltb j 256 low)

byte_of : (located : Option ℕ) (j : ℕ) → if_byte located ≡ Some j → located ≡ Some j
byte_of None j is = absurd cc
byte_of (Some m) j is = ⊎_elim
    (λ (low : ltb m 256 ≡ true). ap (λ t. cond t (let one : Option ℕ = Some m in one) None) (sym low) ∙ is)
    (λ (high : ltb m 256 ≡ false). let none : None ≡ Some j = ap (λ t. cond t (let one : Option ℕ = Some m in one) None) (sym high) ∙ is in absurd cc)
    (cases_Bool (ltb m 256))

abbrev first_in : Option (List ScriptStep) → Option ℕ
first_in stated = option_and_then (λ (steps : List ScriptStep). if_byte (position_from is_skipped 0 steps)) stated

abbrev step_in : Option (List ScriptStep) → ℕ → Option ScriptStep
step_in stated k = option_and_then (λ (steps : List ScriptStep). slice_get steps k) stated

first_no_later : (stated : Option (List ScriptStep)) (k : ℕ) → k < 256 → option_map_or is_skipped (step_in stated k) false ≡ true → (j : ℕ) × (j ≤ k) × (first_in stated ≡ Some j)
first_no_later None k low is = absurd (true≢false (sym is))
first_no_later (Some steps) k low is =
    let located = first_by is_skipped 0 steps k is in
    let no_later = located.1 in
    let place : 0 + located.0 ≡ located.0 = omega arith in
    (located.0, no_later, byte_is (position_from is_skipped 0 steps) located.0 (located.2 ∙ ap (λ m. let one : Option ℕ = Some m in one) place) (omega arith))

first_is : (stated : Option (List ScriptStep)) (j : ℕ) → first_in stated ≡ Some j → option_map_or is_skipped (step_in stated j) false ≡ true
first_is None j is = absurd cc
first_is (Some steps) j is =
    let located = passes is_skipped 0 steps j (byte_of (position_from is_skipped 0 steps) j is) in
    let number = located.1 in
    let place : located.0 ≡ j = omega arith in
    subst (λ m. option_map_or is_skipped (slice_get steps m) false ≡ true) place located.2

-- a step that is skipped is not applied
pub not_applied : (w : Work) (c k : ℕ) → k < 2 → skips w.script (record { change = c; step = k }) ≡ true → IsApplied w.plan w.script c k → ⊥
not_applied w c k low is applied =
    let located = first_no_later (stated_steps w.script c) k (omega arith) is in
    let no_later = located.1 in
    let kinds = kinds_of w.plan c in
    let size = ap (λ first. length (option_map_or (λ m. take m kinds) first kinds)) located.2 in
    let less = length-take located.0 kinds in omega arith

-- a step that is not applied is skipped, or a step before it is
pub one_skipped : (w : Work) (c k : ℕ) → HasStep w.plan c k → length (kinds_of w.plan c) ≤ 2 → (IsApplied w.plan w.script c k → ⊥)
    → (j : ℕ) × (j ≤ k) × (skips w.script (record { change = c; step = j }) ≡ true)
one_skipped w c k has few never = by_first (first_skipped w.script c) refl
  where
    by_first : (first : Option ℕ) → first_skipped w.script c ≡ first → (j : ℕ) × (j ≤ k) × (skips w.script (record { change = c; step = j }) ≡ true)
    by_first None is =
        let kinds = kinds_of w.plan c in
        let size = ap (λ first. length (option_map_or (λ m. take m kinds) first kinds)) is in
        absurd (never (omega arith))
    by_first (Some j) is =
        let kinds = kinds_of w.plan c in
        let size = ap (λ first. length (option_map_or (λ m. take m kinds) first kinds)) is in
        let less = length-take j kinds in ⊎_elim
        (λ (high : k < j). absurd (never (omega arith)))
        (λ (low : j ≤ k). (j, low, first_is (stated_steps w.script c) j is))
        (cases_lt k j)

-- ---- what a step waits for that is not skipped

named_same : (stated : Option ScriptStep) → option_map_or is_skipped stated false ≡ false → option_map_or after_of stated [] ≡ (unwrap_or (option_and_then answer_to stated) default_outcome).after
named_same None is = refl
named_same (Some (Answered outcome)) is = refl
named_same (Some (Skipped after)) is = absurd (true≢false is)

pub waits_same : (script : OutcomeMap) (c k : ℕ) → skips script (record { change = c; step = k }) ≡ false → stated_waits script c k ≡ waits_of script c k
waits_same script c zero is = named_same (stated_step script c zero) is
waits_same script c (suc k) is = ap (λ names. record { change = c; step = k } ∷ names) (named_same (stated_step script c (suc k)) is)
