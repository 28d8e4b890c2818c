-- The steps of a change that begin: none, one, or two of which the first goes on.
use Rattle.std.proofs.Common.{◌≡◌, ◌∙◌, ◌≤◌, ℕ, List, [], ◌∷◌, Bool, true, false, cond, length, refl, ap, arith}
use Rattle.std.specs.List.{enumerate_from}
use Rattle.std.proofs.lemmas.List.{length-map}
use Rattle.std.proofs.lemmas.List.FromFn.{length-enumerate_from}
use Rattle.apply_events.specs.ChangeEvents.{begun}
use Rattle.apply_events.specs.Step.{Step, Work, kinds_applied, kinds_of, step_of, steps_of}
use Rattle.apply_events.specs.StepEvents.{goes_on}
use Rattle.apply_events.proofs.AppliedSteps.{few_applied}
use Rattle.laws_queue.specs.Dealing.{steps_begun}

few_begun : (steps : List Step) → length (begun steps) ≤ length steps
few_begun [] = omega arith
few_begun (step ∷ steps) =
    let rest = few_begun steps in
    elim (goes_on step) as (λ t. length (step ∷ cond t (begun steps) []) ≤ length (step ∷ steps)) [ true ↦ omega arith | false ↦ omega arith ]

pub begun_planned : (work : Work) (c : ℕ) → length (steps_begun work c) ≤ length (kinds_of work.plan c)
begun_planned work c =
    let kinds = kinds_applied work.plan work.script c in
    let few = few_begun (steps_of work c) in
    let same : length (steps_of work c) ≡ length kinds = length-map (enumerate_from 0 kinds) (λ p. step_of work c p.0 p.1) ∙ length-enumerate_from 0 kinds in
    let applied = few_applied work.plan work.script c in
    omega arith

pub data Begins (work : Work) (c : ℕ) : Type 0 where
  nothing : steps_begun work c ≡ [] → Begins work c
  one : (first : Step) → steps_begun work c ≡ first ∷ [] → Begins work c
  two : (first second : Step) → steps_begun work c ≡ first ∷ second ∷ [] → goes_on first ≡ true → Begins work c

pub begins : (work : Work) (c : ℕ) → length (kinds_of work.plan c) ≤ 2 → Begins work c
begins work c few = by_steps (steps_of work c) refl (let most = begun_planned work c in omega arith)
  where
    by_steps : (steps : List Step) → steps_begun work c ≡ begun steps → length (begun steps) ≤ 2 → Begins work c
    by_steps [] is few = nothing is
    by_steps (step ∷ steps) is few = by_going (goes_on step) refl (begun steps) is few
      where
        by_going : (t : Bool) → goes_on step ≡ t → (rest : List Step) → steps_begun work c ≡ step ∷ cond (goes_on step) rest [] → length (step ∷ cond (goes_on step) rest []) ≤ 2 → Begins work c
        by_going false goes rest is few = one step (is ∙ ap (λ t. step ∷ cond t rest []) goes)
        by_going true goes [] is few = one step (is ∙ ap (λ t. step ∷ cond t [] []) goes)
        by_going true goes (next ∷ []) is few = two step next (is ∙ ap (λ t. step ∷ cond t (next ∷ []) []) goes) goes
        by_going true goes (next ∷ other ∷ rest) is few =
            let same : length (step ∷ cond (goes_on step) (next ∷ other ∷ rest) []) ≡ length (step ∷ next ∷ other ∷ rest) = ap (λ t. length (step ∷ cond t (next ∷ other ∷ rest) [])) goes in absurd (omega arith)
