-- How many events a change has at most.
use Rattle.std.proofs.Common.{◌≡◌, ℕ, zero, suc, ◌+◌, ◌*◌, ◌<◌, ◌≤◌, All, true, false, List, [], ◌∷◌, ◌++◌, cond, length, length-append, map, Option, Some, None, subst, arith}
use Rattle.std.specs.Prelude.{is_some, option_map, option_to_list, slice_get, unwrap_or, IfSome}
use Rattle.std.specs.List.{enumerate_from}
use Rattle.std.specs.Option.{option_map_or}
use Rattle.apply_model.specs.Plan.ResourceChange.{ResourceChange}
use Rattle.apply_model.specs.Plan.SavedPlan.{SavedPlan}
use Rattle.std.proofs.lemmas.List.{length-map}
use Rattle.std.proofs.lemmas.List.Elements.{All-nil}
use Rattle.apply_model.specs.declared.plan.step_kind.StepKind.{StepKind}
use Rattle.apply_model.specs.declared.script.outcome.Outcome.{Outcome}
use Rattle.apply_model.specs.declared.script.provisioner.Provisioner.{Provisioner}
use Rattle.apply_model.specs.Script.Outcome.{IsBounded, default_outcome}
use Rattle.apply_model.specs.Script.OutcomeMap.{outcome_of}
use Rattle.apply_hooks.specs.declared.phase.Phase.{Phase}
use Rattle.apply_hooks.specs.declared.phase.Phase.TheVariants.{Pre}
use Rattle.apply_events.specs.declared.event.Event.{Event}
use Rattle.apply_events.specs.declared.what.What.{What}
use Rattle.apply_events.specs.declared.what.What.TheVariants.{Halted, Start, WarnNote}
use Rattle.apply_events.specs.ChangeEvents.{begun, change_events, in_turn}
use Rattle.apply_events.specs.Step.{Step, Work, kinds_applied, kinds_of, step_of}
use Rattle.apply_events.specs.StepEvents.{between, end_of, endings, event, goes_on, halts, notes, phase_after, seconds_of, start_events, step_events, step_time, emits_end}
use Rattle.apply_events.proofs.AppliedSteps.{few_applied}
use Rattle.apply_events.proofs.MidSteps.{ran_all, ran_few, took_short}
use Rattle.apply_events.proofs.Provisions.{few_along}

-- ---- a step

few_notes : (fails warns : _) → length (notes fails warns) ≤ 1
few_notes true warns = omega arith
few_notes false true = omega arith
few_notes false false = omega arith

few_answers : (w : ℕ) (s : Step) (phase : Phase) (at : ℕ) (answer : Option ℕ) → length (option_to_list (option_map (λ hook. event w s at (Halted phase hook)) answer)) ≤ 1
few_answers w s phase at None = omega arith
few_answers w s phase at (Some hook) = omega arith

few_endings : (s : Step) → length (endings s) ≤ 2
few_endings s =
    let note : length (notes s.fails s.warns) ≤ 1 = few_notes s.fails s.warns in
    elim (emits_end s.fails s.only_warns) as (λ b. length (cond b (end_of s.fails (seconds_of s) ∷ notes s.fails s.warns) (WarnNote ∷ [])) ≤ 2) [ true ↦ omega arith | false ↦ omega arith ]

-- a start, what lies between, and what comes at the end
few_joined : (e : Event) (progress ends halt : List Event) → length progress ≤ 9455 → length ends ≤ 2 → length halt ≤ 1 → length (e ∷ (progress ++ ends ++ halt)) ≤ 9459
few_joined e progress ends halt p q r =
    let front : length (progress ++ ends) ≡ length progress + length ends = length-append progress ends in
    let all : length (progress ++ ends ++ halt) ≡ length (progress ++ ends) + length halt = length-append (progress ++ ends) halt in
    omega arith

-- a step of a day at most, with few provisioners and little output
pub record IsSmall (s : Step) : Type 0 where
  pub short : seconds_of s ≤ 86400
  pub few : length s.ran ≤ 8
  pub little : All (λ p. length p.output ≤ 100) s.ran

few_started : (w : ℕ) (s : Step) (at : ℕ) → IsSmall s → length (start_events w s at) ≤ 9459
few_started w s at small =
    let beat : ℕ × What → Event = (λ p. event w s (at + p.0) p.1) in
    let emit : What → Event = (λ what. event w s (at + seconds_of s) what) in
    let inside : length (between s) ≤ 9455 = few_along (seconds_of s) s.seconds_before s.ran small.little small.few (omega arith) small.short in
    let same : length (map beat (between s)) ≡ length (between s) = length-map (between s) beat in
    let last : length (map emit (endings s)) ≡ length (endings s) = length-map (endings s) emit in
    let two : length (endings s) ≤ 2 = few_endings s in
    few_joined (event w s at Start) (map beat (between s)) (map emit (endings s)) (halts w s (phase_after s.fails) (at + seconds_of s))
    (omega arith) (omega arith) (few_answers w s (phase_after s.fails) (at + seconds_of s) (s.halts (phase_after s.fails)))

pub few_step : (w : ℕ) (s : Step) (at : ℕ) (answer : Option ℕ) → IsSmall s → length (cond (is_some answer) (option_to_list (option_map (λ hook. event w s at (Halted Pre hook)) answer)) (start_events w s at)) ≤ 9459
few_step w s at None short = few_started w s at short
few_step w s at (Some hook) short = let one = few_answers w s Pre at (Some hook) in omega arith

-- ---- a change

pub small_step : (work : Work) (c n : ℕ) (kind : StepKind) → IsBounded (outcome_of work.script c n) → IsSmall (step_of work c n kind)
small_step work c n kind bounded =
    let outcome = outcome_of work.script c n in
    let less = took_short kind outcome in let most = ran_few outcome.provisioners in
    let day = bounded.short in let eight = bounded.few_provisioners in
    record {
      short = omega arith;
      few = omega arith;
      little = ran_all (λ (p : Provisioner). length p.output ≤ 100) outcome.provisioners bounded.little_output;
    }

few_steps : (work : Work) (w c n : ℕ) (kinds : List StepKind) (at : ℕ) → n + length kinds ≤ 2 → ((k : ℕ) → k < 2 → IsBounded (outcome_of work.script c k))
    → length (in_turn (step_events w) step_time (begun (map (λ p. step_of work c p.0 p.1) (enumerate_from n kinds))) at) ≤ 9459 * length kinds
few_steps work w c n [] at few short = omega arith
few_steps work w c n (kind ∷ kinds) at few short =
    let s = step_of work c n kind in
    let steps = begun (map (λ p. step_of work c p.0 p.1) (enumerate_from (n + 1) kinds)) in
    let here : length (step_events w s at) ≤ 9459 = few_step w s at (s.halts Pre) (small_step work c n kind (short n (omega arith))) in
    let rest = few_steps work w c (n + 1) kinds (at + step_time s) (omega arith) short in
    elim (goes_on s) as (λ b. length (in_turn (step_events w) step_time (s ∷ cond b steps []) at) ≤ 9459 * suc (length kinds)) [
      | true ↦ (let both = length-append (step_events w s at) (in_turn (step_events w) step_time steps (at + step_time s)) in omega arith)
      | false ↦ (let both = length-append (step_events w s at) [] in omega arith)
    ]

-- the steps of a change that the plan has
pub few_kinds : (plan : SavedPlan) (c : ℕ) (change : ResourceChange) → Some change ≡ slice_get plan.changes c → length change.steps ≤ 2 → length (kinds_of plan c) ≤ 2
few_kinds plan c change is few = subst (λ answer. length (option_map_or (λ (change : ResourceChange). change.steps) answer []) ≤ 2) is few

-- each outcome is within the limits, a default one too
pub bounded : (answer : Option Outcome) → IfSome answer IsBounded → IsBounded (unwrap_or answer default_outcome)
bounded None within = record { short = omega arith; few_provisioners = omega arith; little_output = All-nil (λ (p : Provisioner). length p.output ≤ 100); few_waits = omega arith }
bounded (Some outcome) within = within

pub few_events : (work : Work) (w c at : ℕ) → length (kinds_of work.plan c) ≤ 2 → IsBounded (outcome_of work.script c 0) → IsBounded (outcome_of work.script c 1) → length (change_events work w c at) ≤ 18918
few_events work w c at few first second =
    let applied = few_applied work.plan work.script c in
    let all = few_steps work w c 0 (kinds_applied work.plan work.script c) at (omega arith) (λ k lt. short_at k lt) in omega arith
  where
    short_at : (k : ℕ) → k < 2 → IsBounded (outcome_of work.script c k)
    short_at zero lt = first
    short_at (suc zero) lt = second
    short_at (suc (suc k)) lt = absurd (omega arith)

pub if_some_any : {X P : Type 0} (answer : Option X) → P → IfSome answer (λ _. P)
if_some_any None h = tt
if_some_any (Some x) h = h
