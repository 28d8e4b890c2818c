-- The steps that begin in the turns of a change of at most two steps.
use Rattle.std.proofs.Common.{◌≡◌, ℕ, zero, suc, ◌<◌, ◌≤◌, Bool, true, false, ◌&&◌, List, [], ◌∷◌, Option, Some, None, cond, length, map, take, drop, refl, sym, ap, ◌∙◌, ⊎_elim, ◌⊎◌, inl, inr, arith, eqb, ltb, lt-ltb, eq-eqb}
use Rattle.std.specs.Prelude.{slice_get}
use Rattle.std.specs.List.{enumerate_from}
use Rattle.std.specs.Option.{option_map_or}
use Rattle.std.proofs.lemmas.Bool.{and_parts, cases_Bool, cases_lt, true≢false}
use Rattle.apply_model.specs.declared.plan.step_kind.StepKind.{StepKind}
use Rattle.apply_model.specs.declared.script.outcome.Outcome.{Outcome}
use Rattle.apply_model.specs.declared.script.wait.Wait.{Wait}
use Rattle.apply_model.specs.Plan.SavedPlan.{SavedPlan}
use Rattle.apply_model.specs.Script.OutcomeMap.{OutcomeMap, first_skipped, outcome_of}
use Rattle.apply_model.specs.Script.Waits.{names_a_wait}
use Rattle.apply_events.specs.ChangeEvents.{begun}
use Rattle.apply_events.specs.Step.{Step, Work, kinds_applied, kinds_of, step_of}
use Rattle.apply_events.specs.StepEvents.{goes_on}
use Rattle.apply_events.specs.declared.lanes.turn.Turn.{Turn}
use Rattle.apply_events.specs.Waits.Turn.{begun_steps, single}
use Rattle.apply_events.proofs.AppliedSteps.{few_applied}
use Rattle.apply_events.proofs.Waits.Once.{IsTurnOf, is_split}
use Rattle.laws_lanes.proofs.Chosen.{either_way, from_test}

-- ---- the kinds of steps

kind_before : (k j : ℕ) (kinds : List StepKind) (kind : StepKind) → slice_get (take j kinds) k ≡ Some kind → slice_get kinds k ≡ Some kind
kind_before k zero kinds kind is = absurd (none_there k is)
  where
    none_there : (k : ℕ) → slice_get [] k ≡ Some kind → ⊥
    none_there zero is = cc
    none_there (suc k) is = cc
kind_before k (suc j) [] kind is = is
kind_before zero (suc j) (x ∷ kinds) kind is = is
kind_before (suc k) (suc j) (x ∷ kinds) kind is = kind_before k j kinds kind is

-- the kinds that are applied are the first of those of the plan
pub kind_planned : (plan : SavedPlan) (script : OutcomeMap) (c k : ℕ) (kind : StepKind) → slice_get (kinds_applied plan script c) k ≡ Some kind → slice_get (kinds_of plan c) k ≡ Some kind
kind_planned plan script c k kind is = by_answer (first_skipped script c) is
  where
    by_answer : (answer : Option ℕ) → slice_get (option_map_or (λ skipped. take skipped (kinds_of plan c)) answer (kinds_of plan c)) k ≡ Some kind → slice_get (kinds_of plan c) k ≡ Some kind
    by_answer None its = its
    by_answer (Some j) its = kind_before k j (kinds_of plan c) kind its

pub kind_at : (kinds : List StepKind) (k : ℕ) → k < length kinds → (kind : StepKind) × (slice_get kinds k ≡ Some kind)
kind_at [] k lt = absurd (omega arith)
kind_at (kind ∷ kinds) zero lt = (kind, refl)
kind_at (kind ∷ kinds) (suc k) lt = kind_at kinds k (omega arith)

pub one_kind : (kinds : List StepKind) (a : StepKind) → length kinds ≤ 1 → slice_get kinds 0 ≡ Some a → kinds ≡ a ∷ []
one_kind [] a few is = absurd cc
one_kind (x ∷ []) a few is = let same : x ≡ a = cc in ap (λ k. k ∷ []) same
one_kind (x ∷ y ∷ kinds) a few is = absurd (omega arith)

pub two_kinds : (kinds : List StepKind) (a b : StepKind) → length kinds ≤ 2 → slice_get kinds 0 ≡ Some a → slice_get kinds 1 ≡ Some b → kinds ≡ a ∷ b ∷ []
two_kinds [] a b few first second = absurd cc
two_kinds (x ∷ []) a b few first second = absurd cc
two_kinds (x ∷ y ∷ []) a b few first second = let same : x ≡ a = cc in let same' : y ≡ b = cc in cc
two_kinds (x ∷ y ∷ z ∷ kinds) a b few first second = absurd (omega arith)

-- ---- changes of two turns

pub when_split : (w : Work) (c : ℕ) → is_split w c ≡ true → (length (kinds_applied w.plan w.script c) ≡ 2) × (names_a_wait (outcome_of w.script c 1) ≡ true)
when_split w c is =
    let both = and_parts (eqb (length (kinds_applied w.plan w.script c)) 2) (names_a_wait (outcome_of w.script c 1)) is in
    (from_test (length (kinds_applied w.plan w.script c)) 2 both.0, both.1)

pub split_if : (w : Work) (c : ℕ) → length (kinds_applied w.plan w.script c) ≡ 2 → is_split w c ≡ names_a_wait (outcome_of w.script c 1)
split_if w c two = ap (λ t. t && names_a_wait (outcome_of w.script c 1)) (eq-eqb (length (kinds_applied w.plan w.script c)) 2 two)

pub names_none : (outcome : Outcome) → names_a_wait outcome ≡ false → outcome.after ≡ []
names_none outcome none = by_names outcome.after none
  where
    by_names : (names : List Wait) → ltb 0 (length names) ≡ false → names ≡ []
    by_names [] is = refl
    by_names (name ∷ names) is = absurd (true≢false (sym (lt-ltb 0 (length (name ∷ names)) (omega arith)) ∙ is))

-- ---- the turn with the first step

abbrev pub first_turn : Work → ℕ → Turn
first_turn w c = record { change = c; first = 0; count = cond (is_split w c) 1 (length (kinds_applied w.plan w.script c)) }

pub is_first_turn : (w : Work) (c : ℕ) (turn : Turn) → IsTurnOf w c turn → turn.first ≡ 0 → turn ≡ first_turn w c
is_first_turn w c turn (inl one) first =
    one.1 ∙ ap (λ t. let x : Turn = record { change = c; first = 0; count = cond t 1 (length (kinds_applied w.plan w.script c)) } in x) (sym one.0)
is_first_turn w c turn (inr (split, inl is)) first =
    is ∙ ap (λ t. let x : Turn = record { change = c; first = 0; count = cond t 1 (length (kinds_applied w.plan w.script c)) } in x) (sym split)
is_first_turn w c turn (inr (split, inr is)) first = let second = ap (λ (t : Turn). t.first) is in absurd (omega arith)

-- Of the turn with the first step that step begins alone, or both steps begin. It is alone where
-- the second step has a turn of its own, is not applied, or follows a step that does not go on.
pub data FirstSteps (w : Work) (c : ℕ) (a : StepKind) : Type 0 where
  alone : begun_steps w (first_turn w c) ≡ step_of w c 0 a ∷ []
      → (is_split w c ≡ true) ⊎ (length (kinds_applied w.plan w.script c) ≤ 1) ⊎ (goes_on (step_of w c 0 a) ≡ false) → FirstSteps w c a
  both : (b : StepKind) → begun_steps w (first_turn w c) ≡ step_of w c 0 a ∷ step_of w c 1 b ∷ []
      → is_split w c ≡ false → slice_get (kinds_applied w.plan w.script c) 1 ≡ Some b → goes_on (step_of w c 0 a) ≡ true → FirstSteps w c a

-- the steps that begin of a turn with these kinds
abbrev begun_of : Work → (c first count : ℕ) → List StepKind → List Step
begun_of w c first count kinds = begun (take count (drop first (map (λ p. step_of w c p.0 p.1) (enumerate_from 0 kinds))))

module _ (w : Work) (c : ℕ) (few : length (kinds_of w.plan c) ≤ 2) where
  first_alone : (a : StepKind) (rest : List StepKind) → begun_of w c 0 1 (a ∷ rest) ≡ step_of w c 0 a ∷ []
  first_alone a rest = ap (λ l. step_of w c 0 a ∷ l) (either_way (goes_on (step_of w c 0 a)) [])

  second_alone : (a b : StepKind) → begun_of w c 1 1 (a ∷ b ∷ []) ≡ step_of w c 1 b ∷ []
  second_alone a b = ap (λ l. step_of w c 1 b ∷ l) (either_way (goes_on (step_of w c 1 b)) [])

  both_steps : (a b : StepKind) → begun_of w c 0 2 (a ∷ b ∷ []) ≡ step_of w c 0 a ∷ cond (goes_on (step_of w c 0 a)) (step_of w c 1 b ∷ []) []
  both_steps a b = ap (λ l. step_of w c 0 a ∷ cond (goes_on (step_of w c 0 a)) (step_of w c 1 b ∷ l) []) (either_way (goes_on (step_of w c 1 b)) [])

  pub first_steps : (a : StepKind) → slice_get (kinds_applied w.plan w.script c) 0 ≡ Some a → FirstSteps w c a
  first_steps a is = ⊎_elim
      (λ (split : is_split w c ≡ true).
      let two = (when_split w c split).0 in
      let second = kind_at kinds 1 (omega arith) in
      alone (at_split split ∙ ap (begun_of w c 0 1) (two_kinds kinds a second.0 (omega arith) is second.1) ∙ first_alone a (second.0 ∷ [])) (inl split))
      (λ (unsplit : is_split w c ≡ false). ⊎_elim
      (λ (more : 1 < length kinds). by_going unsplit more (goes_on (step_of w c 0 a)) refl)
      (λ (one : length kinds ≤ 1).
      alone (at_whole unsplit ∙ ap (λ ks. begun_of w c 0 (length ks) ks) (one_kind kinds a one is) ∙ first_alone a []) (inr (inl one)))
      (cases_lt 1 (length kinds)))
      (cases_Bool (is_split w c))
    where
      kinds : List StepKind
      kinds = kinds_applied w.plan w.script c

      at_split : is_split w c ≡ true → begun_steps w (first_turn w c) ≡ begun_of w c 0 1 (kinds_applied w.plan w.script c)
      at_split split = ap (λ t. begun_of w c 0 (cond t 1 (length (kinds_applied w.plan w.script c))) (kinds_applied w.plan w.script c)) split

      at_whole : is_split w c ≡ false → begun_steps w (first_turn w c) ≡ begun_of w c 0 (length (kinds_applied w.plan w.script c)) (kinds_applied w.plan w.script c)
      at_whole unsplit = ap (λ t. begun_of w c 0 (cond t 1 (length (kinds_applied w.plan w.script c))) (kinds_applied w.plan w.script c)) unsplit

      by_going : is_split w c ≡ false → 1 < length (kinds_applied w.plan w.script c) → (t : Bool) → goes_on (step_of w c 0 a) ≡ t → FirstSteps w c a
      by_going unsplit more t goes =
          let second = kind_at (kinds_applied w.plan w.script c) 1 more in
          let most = few_applied w.plan w.script c in
          let are = two_kinds (kinds_applied w.plan w.script c) a second.0 (omega arith) is second.1 in
          let steps = at_whole unsplit ∙ ap (λ ks. begun_of w c 0 (length ks) ks) are ∙ both_steps a second.0
          ∙ ap (λ u. step_of w c 0 a ∷ cond u (step_of w c 1 second.0 ∷ []) []) goes in
          by_test t goes second.0 second.1 steps
        where
          by_test : (t : Bool) → goes_on (step_of w c 0 a) ≡ t → (b : StepKind) → slice_get (kinds_applied w.plan w.script c) 1 ≡ Some b
              → begun_steps w (first_turn w c) ≡ step_of w c 0 a ∷ cond t (step_of w c 1 b ∷ []) [] → FirstSteps w c a
          by_test true goes b second steps = both b steps unsplit second goes
          by_test false goes b second steps = alone steps (inr (inr goes))

  pub second_steps : (b : StepKind) → is_split w c ≡ true → slice_get (kinds_applied w.plan w.script c) 1 ≡ Some b → begun_steps w (single c 1) ≡ step_of w c 1 b ∷ []
  second_steps b split is =
      let two = (when_split w c split).0 in
      let first = kind_at (kinds_applied w.plan w.script c) 0 (omega arith) in
      ap (begun_of w c 1 1) (two_kinds (kinds_applied w.plan w.script c) first.0 b (omega arith) first.1 is) ∙ second_alone first.0 b
