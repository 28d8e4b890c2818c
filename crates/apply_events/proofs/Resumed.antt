-- A change of which the first step has gone on.
use Rattle.std.proofs.Common.{◌≡◌, ℕ, ◌+◌, ◌<◌, true, false, ◌&&◌, List, [], ◌∷◌, Option, Some, None, cond, length, map, sum_by, take, refl, sym, ap, arith}
use Rattle.std.specs.Prelude.{is_none, is_some, not, slice_get}
use Rattle.std.specs.List.{enumerate_from, list_all}
use Rattle.std.specs.Option.{option_map_or}
use Rattle.std.proofs.lemmas.Bool.{and_parts, true≢false}
use Rattle.std.proofs.lemmas.List.Sums.{sum_by-cons}
use Rattle.apply_model.specs.declared.plan.step_kind.StepKind.{StepKind}
use Rattle.apply_model.specs.Script.Outcome.{took}
use Rattle.apply_model.specs.Script.OutcomeMap.{outcome_of}
use Rattle.apply_hooks.specs.declared.phase.Phase.TheVariants.{Pre, PostDone}
use Rattle.apply_events.specs.ChangeEvents.{first_time}
use Rattle.apply_events.specs.Step.{Step, Work, kinds_applied, step_of, steps_of}
use Rattle.apply_events.specs.StepEvents.{goes_on, seconds_of, step_time}

unhalted : (answer : Option ℕ) → is_none answer ≡ true → is_some answer ≡ false
unhalted None none = refl
unhalted (Some hook) none = absurd (true≢false (sym none))

time_if_on : (s : Step) → goes_on s ≡ true → step_time s ≡ seconds_of s
time_if_on s on =
    let first = and_parts (is_none (s.halts Pre) && not s.fails) (is_none (s.halts PostDone)) on in
    let none = (and_parts (is_none (s.halts Pre)) (not s.fails) first.0).0 in
    ap (λ t. cond t 0 (seconds_of s)) (unhalted (s.halts Pre) none)

-- the first step takes the time that its outcome states
time_of_first : (work : Work) (c : ℕ) (kinds : List StepKind) → 0 < length kinds → list_all goes_on (take 1 (map (λ p. step_of work c p.0 p.1) (enumerate_from 0 kinds))) ≡ true
    → sum_by step_time (take 1 (map (λ p. step_of work c p.0 p.1) (enumerate_from 0 kinds))) ≡ option_map_or (λ kind. took kind (outcome_of work.script c 0)) (slice_get kinds 0) 0
time_of_first work c [] some on = absurd (omega arith)
time_of_first work c (kind ∷ kinds) some on =
    let s = step_of work c 0 kind in
    let one : sum_by step_time (s ∷ []) ≡ step_time s + 0 = sum_by-cons step_time s [] in
    let time : step_time s ≡ took kind (outcome_of work.script c 0) = time_if_on s (and_parts (goes_on s) true on).0 in
    omega arith

pub resumed_time : (work : Work) (c : ℕ) → 0 < length (kinds_applied work.plan work.script c) → list_all goes_on (take 1 (steps_of work c)) ≡ true
    → first_time work c ≡ option_map_or (λ kind. took kind (outcome_of work.script c 0)) (slice_get (kinds_applied work.plan work.script c) 0) 0
resumed_time work c some on = time_of_first work c (kinds_applied work.plan work.script c) some on
