-- Where the steps of a plan stand, in the plan of a script and in that of a stream.
use Rattle.std.proofs.Common.{◌≡◌, ◌∙◌, ◌+◌, ℕ, zero, suc, List, [], ◌∷◌, map, Some, refl, sym, ap, arith}
use Rattle.std.specs.Prelude.{option_map, slice_get}
use Rattle.apply_model.specs.declared.plan.step_kind.StepKind.{StepKind}
use Rattle.apply_model.specs.declared.script.wait.Wait.{Wait}
use Rattle.apply_model.specs.Plan.ResourceChange.{ResourceChange}
use Rattle.stream_record.specs.EvenScript as even
use Rattle.stream_record_steps.specs.Steps.{PlannedStep, planned_steps}
use Rattle.laws_recorded.proofs.Places.{base, planned_at, stands_from}
use Rattle.laws_recorded.proofs.Planned.{same_planned, wait_at, waited}
use Rattle.laws_waits.specs.Places.{StandsAt, name_of, place_of, steps_before}

pub same_base : (changes : List ResourceChange) (c : ℕ) → base changes c ≡ steps_before changes c
same_base [] c = refl
same_base (change ∷ changes) zero = refl
same_base (change ∷ changes) (suc c) = let rest = same_base changes c in omega (arith, rest)

pub same_place : (changes : List ResourceChange) (c k : ℕ) → base changes c + k ≡ place_of changes c k
same_place changes c k = ap (λ (n : ℕ). n + k) (same_base changes c)

-- ---- from the number to the place

-- the planned step with these parts
abbrev pub planned_step : (change : ResourceChange) → (c k place : ℕ) → StepKind → PlannedStep
planned_step change c k place kind = record { change = change; change_number = c; number = k; place = place; kind = kind }

of_parts : (step : PlannedStep) (change : ResourceChange) (c k place : ℕ) (kind : StepKind) → step.change ≡ change → step.change_number ≡ c → step.number ≡ k → step.place ≡ place
    → step.kind ≡ kind → step ≡ planned_step change c k place kind
of_parts step change c k place kind change_is c_is k_is place_is kind_is =
    ap (λ (x : ResourceChange). planned_step x step.change_number step.number step.place step.kind) change_is
    ∙ ap (λ (x : ℕ). planned_step change x step.number step.place step.kind) c_is
    ∙ ap (λ (x : ℕ). planned_step change c x step.place step.kind) k_is
    ∙ ap (λ (x : ℕ). planned_step change c k x step.kind) place_is
    ∙ ap (planned_step change c k place) kind_is

pub in_stream : (changes : List ResourceChange) (c k : ℕ) (change : ResourceChange) (kind : StepKind) → slice_get changes c ≡ Some change → slice_get change.steps k ≡ Some kind
    → slice_get (planned_steps changes) (place_of changes c k) ≡ Some (planned_step change c k (place_of changes c k) kind)
in_stream changes c k change kind at has =
    let own = planned_at changes 0 0 c k change kind at has in
    let here = same_place changes c k in
    let numbered : own.0.change_number ≡ c = let n = own.2.change_number_is in omega (arith, n) in
    let stepped : own.0.number ≡ k = let n = own.2.number_is in omega (arith, n) in
    let placed : own.0.place ≡ place_of changes c k = let n = own.2.place_is in omega (arith, n, here) in
    let kinds : Some own.0.kind ≡ Some kind = sym own.2.kind_at ∙ has in
    ap (slice_get (planned_steps changes)) (sym here) ∙ own.1
    ∙ ap Some (of_parts own.0 change c k (place_of changes c k) kind own.2.change_is numbered stepped placed cc)

pub same_order : (changes : List ResourceChange) → even.planned_steps changes ≡ map name_of (planned_steps changes)
same_order changes = same_planned changes 0 0

pub in_script : (changes : List ResourceChange) (c k : ℕ) (change : ResourceChange) (kind : StepKind) → slice_get changes c ≡ Some change → slice_get change.steps k ≡ Some kind
    → slice_get (even.planned_steps changes) (place_of changes c k) ≡ Some (record { change = c; step = k })
in_script changes c k change kind at has = wait_at changes (place_of changes c k) ∙ ap (option_map name_of) (in_stream changes c k change kind at has)

-- ---- from the place to the number

pub stands : (changes : List ResourceChange) (place : ℕ) (name : Wait) → slice_get (even.planned_steps changes) place ≡ Some name → StandsAt changes place name
stands changes place name at =
    let own = waited changes place name at in
    let there = stands_from changes 0 0 place own.0 own.1 in
    let change_is : name.change ≡ there.c = let one = there.change_number_is in let two : name.change ≡ own.0.change_number = ap (λ (w : Wait). w.change) own.2 in omega (arith, one, two) in
    let step_is : name.step ≡ there.k = ap (λ (w : Wait). w.step) own.2 ∙ there.number_is in
    let same = same_place changes name.change name.step in
    let based : base changes name.change ≡ base changes there.c = ap (base changes) change_is in
    let index = there.index_is in record {
      change = own.0.change;
      change_at = ap (slice_get changes) change_is ∙ there.change_at;
      kind = own.0.kind;
      kind_at = ap (slice_get own.0.change.steps) step_is ∙ there.kind_at;
      place_is = omega (arith, index, same, based, step_is);
    }
