-- Where each step of a plan stands among all steps.
use Rattle.std.proofs.Common.{◌≡◌, ◌∙◌, ◌+◌, ◌<◌, ℕ, zero, suc, List, [], ◌∷◌, ◌++◌, length, Some, refl, sym, ap, arith, ◌⊎◌, inl, inr, ⊎_elim}
use Rattle.std.specs.Prelude.{slice_get}
use Rattle.std.specs.List.{Contains}
use Rattle.std.proofs.lemmas.Option.{get_or_from_slice_get, same_Some, slice_get-get_or, slice_get_within}
use Rattle.apply_model.specs.declared.plan.step_kind.StepKind.{StepKind}
use Rattle.apply_model.specs.Plan.ResourceChange.{ResourceChange}
use Rattle.stream_record_steps.specs.Steps.{PlannedStep, planned_from, planned_steps, steps_from}

-- ---- lists one after another

pub get_first : {X : Type 0} (xs ys : List X) (k : ℕ) (x : X) → slice_get xs k ≡ Some x → slice_get (xs ++ ys) k ≡ Some x
get_first [] ys k x at = absurd cc
get_first (z ∷ xs) ys zero x at = at
get_first (z ∷ xs) ys (suc k) x at = get_first xs ys k x at

pub get_second : {X : Type 0} (xs ys : List X) (k : ℕ) → slice_get (xs ++ ys) (length xs + k) ≡ slice_get ys k
get_second [] ys k = let same : 0 + k ≡ k = omega arith in ap (slice_get ys) same
get_second (x ∷ xs) ys k =
    let same : length (x ∷ xs) + k ≡ suc (length xs + k) = omega arith in
    ap (slice_get (x ∷ (xs ++ ys))) same ∙ get_second xs ys k

pub get_either : {X : Type 0} (xs ys : List X) (k : ℕ) (x : X) → slice_get (xs ++ ys) k ≡ Some x
    → (slice_get xs k ≡ Some x) ⊎ ((j : ℕ) × (k ≡ length xs + j) × (slice_get ys j ≡ Some x))
get_either [] ys k x at = let same : k ≡ 0 + k = omega arith in inr (k, same, at)
get_either (z ∷ xs) ys zero x at = inl at
get_either (z ∷ xs) ys (suc k) x at = ⊎_elim
    (λ (first : slice_get xs k ≡ Some x). inl first)
    (λ (second : (j : ℕ) × (k ≡ length xs + j) × (slice_get ys j ≡ Some x)).
    let j = second.0 in
    let here = second.1 in
    let same : suc k ≡ length (z ∷ xs) + j = omega (arith, here) in inr (j, same, second.2))
    (get_either xs ys k x at)

-- ---- the steps of one change

pub length-steps_from : (change : ResourceChange) (c number place : ℕ) (kinds : List StepKind) → length (steps_from change c number place kinds) ≡ length kinds
length-steps_from change c number place [] = refl
length-steps_from change c number place (kind ∷ kinds) = ap suc (length-steps_from change c (number + 1) (place + 1) kinds)

-- the step at k is that of the kind at k
pub record IsOfChange (change : ResourceChange) (c number place : ℕ) (kinds : List StepKind) (k : ℕ) (step : PlannedStep) : Type 0 where
  pub change_is : step.change ≡ change
  pub change_number_is : step.change_number ≡ c
  pub number_is : step.number ≡ number + k
  pub place_is : step.place ≡ place + k
  pub kind_at : slice_get kinds k ≡ Some step.kind

of_change : (change : ResourceChange) (c number place : ℕ) (kinds : List StepKind) (k : ℕ) (step : PlannedStep) → slice_get (steps_from change c number place kinds) k ≡ Some step
    → IsOfChange change c number place kinds k step
of_change change c number place [] k step at = absurd cc
of_change change c number place (kind ∷ kinds) zero step at =
    let one : PlannedStep = record { change = change; change_number = c; number = number; place = place; kind = kind } in
    let same : step ≡ one = cc in
    let numbered : number ≡ number + 0 = omega arith in
    let placed : place ≡ place + 0 = omega arith in record {
      change_is = ap (λ (s : PlannedStep). s.change) same;
      change_number_is = ap (λ (s : PlannedStep). s.change_number) same;
      number_is = ap (λ (s : PlannedStep). s.number) same ∙ numbered;
      place_is = ap (λ (s : PlannedStep). s.place) same ∙ placed;
      kind_at = ap (λ (s : PlannedStep). Some s.kind) (sym same);
    }
of_change change c number place (kind ∷ kinds) (suc k) step at =
    let rest = of_change change c (number + 1) (place + 1) kinds k step at in
    let numbered : number + 1 + k ≡ number + suc k = omega arith in
    let placed : place + 1 + k ≡ place + suc k = omega arith in record {
      change_is = rest.change_is;
      change_number_is = rest.change_number_is;
      number_is = rest.number_is ∙ numbered;
      place_is = rest.place_is ∙ placed;
      kind_at = rest.kind_at;
    }

has_step : (change : ResourceChange) (c number place : ℕ) (kinds : List StepKind) (k : ℕ) (kind : StepKind) → slice_get kinds k ≡ Some kind
    → (step : PlannedStep) × (slice_get (steps_from change c number place kinds) k ≡ Some step)
has_step change c number place [] k kind at = absurd cc
has_step change c number place (first ∷ kinds) zero kind at = (record { change = change; change_number = c; number = number; place = place; kind = first }, refl)
has_step change c number place (first ∷ kinds) (suc k) kind at = has_step change c (number + 1) (place + 1) kinds k kind at

-- ---- the steps of all changes

-- how many steps come before those of a change
abbrev pub base : List ResourceChange → ℕ → ℕ
base [] c = 0
base (change ∷ changes) zero = 0
base (change ∷ changes) (suc c) = length change.steps + base changes c

-- a step of the plan stands at its place
pub record Stands (changes : List ResourceChange) (n place : ℕ) (i : ℕ) (step : PlannedStep) : Type 0 where
  pub c : ℕ
  pub k : ℕ
  pub change_at : slice_get changes c ≡ Some step.change
  pub change_number_is : step.change_number ≡ n + c
  pub number_is : step.number ≡ k
  pub kind_at : slice_get step.change.steps k ≡ Some step.kind
  pub index_is : i ≡ base changes c + k
  pub place_is : step.place ≡ place + i

pub stands_from : (changes : List ResourceChange) (n place i : ℕ) (step : PlannedStep) → slice_get (planned_from n place changes) i ≡ Some step → Stands changes n place i step
stands_from [] n place i step at = absurd cc
stands_from (change ∷ changes) n place i step at = ⊎_elim
    (λ (first : slice_get (steps_from change n 0 place change.steps) i ≡ Some step).
    let one = of_change change n 0 place change.steps i step first in
    let numbered : n ≡ n + 0 = omega arith in
    let zeroth : 0 + i ≡ i = omega arith in
    let index : i ≡ 0 + i = omega arith in record {
      c = 0;
      k = i;
      change_at = ap Some (sym one.change_is);
      change_number_is = one.change_number_is ∙ numbered;
      number_is = one.number_is ∙ zeroth;
      kind_at = ap (λ (ch : ResourceChange). slice_get ch.steps i) one.change_is ∙ one.kind_at;
      index_is = index;
      place_is = one.place_is;
    })
    (λ (second : (j : ℕ) × (i ≡ length (steps_from change n 0 place change.steps) + j) × (slice_get (planned_from (n + 1) (place + length change.steps) changes) j ≡ Some step)).
    let rest = stands_from changes (n + 1) (place + length change.steps) second.0 step second.2 in
    let j = second.0 in
    let many = length-steps_from change n 0 place change.steps in
    let here = second.1 in
    let number = rest.change_number_is in
    let index = rest.index_is in
    let placed = rest.place_is in record {
      c = suc rest.c;
      k = rest.k;
      change_at = rest.change_at;
      change_number_is = omega (arith, number);
      number_is = rest.number_is;
      kind_at = rest.kind_at;
      index_is = omega (arith, index, here, many);
      place_is = omega (arith, placed, here, many);
    })
    (get_either (steps_from change n 0 place change.steps) (planned_from (n + 1) (place + length change.steps) changes) i step at)

at_first : (change : ResourceChange) (changes : List ResourceChange) (n place k : ℕ) (step : PlannedStep) → slice_get (steps_from change n 0 place change.steps) k ≡ Some step
    → slice_get (planned_from n place (change ∷ changes)) (0 + k) ≡ Some step
at_first change changes n place k step at =
    let zeroth : 0 + k ≡ k = omega arith in
    ap (slice_get (planned_from n place (change ∷ changes))) zeroth
    ∙ get_first (steps_from change n 0 place change.steps) (planned_from (n + 1) (place + length change.steps) changes) k step at

at_second : (change : ResourceChange) (changes : List ResourceChange) (n place i j : ℕ) (step : PlannedStep) → j ≡ length change.steps + i
    → slice_get (planned_from (n + 1) (place + length change.steps) changes) i ≡ Some step → slice_get (planned_from n place (change ∷ changes)) j ≡ Some step
at_second change changes n place i j step is at =
    let many = length-steps_from change n 0 place change.steps in
    let index : j ≡ length (steps_from change n 0 place change.steps) + i = omega (arith, is, many) in
    ap (slice_get (planned_from n place (change ∷ changes))) index
    ∙ get_second (steps_from change n 0 place change.steps) (planned_from (n + 1) (place + length change.steps) changes) i
    ∙ at

-- the step of each kind of a change
pub planned_at : (changes : List ResourceChange) (n place c k : ℕ) (change : ResourceChange) (kind : StepKind) → slice_get changes c ≡ Some change → slice_get change.steps k ≡ Some kind
    → (step : PlannedStep) × (slice_get (planned_from n place changes) (base changes c + k) ≡ Some step) × IsOfChange change (n + c) 0 (place + base changes c) change.steps k step
planned_at [] n place c k change kind at has = absurd cc
planned_at (first ∷ changes) n place zero k change kind at has =
    let same : first ≡ change = cc in
    let own = has_step first n 0 place first.steps k kind (ap (λ (ch : ResourceChange). slice_get ch.steps k) same ∙ has) in
    let numbered : n ≡ n + 0 = omega arith in
    let placed : place + k ≡ place + 0 + k = omega arith in
    let one = of_change first n 0 place first.steps k own.0 own.1 in (
      own.0,
      at_first first changes n place k own.0 own.1,
      record {
        change_is = one.change_is ∙ same;
        change_number_is = one.change_number_is ∙ numbered;
        number_is = one.number_is;
        place_is = one.place_is ∙ placed;
        kind_at = ap (λ (ch : ResourceChange). slice_get ch.steps k) (sym same) ∙ one.kind_at;
      },
    )
planned_at (first ∷ changes) n place (suc c) k change kind at has =
    let rest = planned_at changes (n + 1) (place + length first.steps) c k change kind at has in
    let index : length first.steps + base changes c + k ≡ length first.steps + (base changes c + k) = omega arith in
    let numbered : n + 1 + c ≡ n + suc c = omega arith in
    let placed : place + length first.steps + base changes c + k ≡ place + (length first.steps + base changes c) + k = omega arith in (
      rest.0,
      at_second first changes n place (base changes c + k) (base (first ∷ changes) (suc c) + k) rest.0 index rest.1,
      record {
        change_is = rest.2.change_is;
        change_number_is = rest.2.change_number_is ∙ numbered;
        number_is = rest.2.number_is;
        place_is = rest.2.place_is ∙ placed;
        kind_at = rest.2.kind_at;
      },
    )

-- ---- the steps of a plan

pub contains_at : {X : Type 0} (xs : List X) (k : ℕ) (x : X) → slice_get xs k ≡ Some x → Contains xs x
contains_at xs k x at = (k, slice_get_within xs k x at, get_or_from_slice_get xs k x x at)

pub at_contained : {X : Type 0} (xs : List X) (x : X) → (has : Contains xs x) → slice_get xs has.0 ≡ Some x
at_contained xs x has = slice_get-get_or xs has.0 x has.1 ∙ ap Some has.2

-- a step of the plan, by its change and its kind, and where it stands
pub record IsPlanned (changes : List ResourceChange) (step : PlannedStep) : Type 0 where
  pub change_at : slice_get changes step.change_number ≡ Some step.change
  pub kind_at : slice_get step.change.steps step.number ≡ Some step.kind
  pub place_is : step.place ≡ base changes step.change_number + step.number
  pub within : step.place < length (planned_steps changes)

pub is_planned : (changes : List ResourceChange) (step : PlannedStep) → Contains (planned_steps changes) step → IsPlanned changes step
is_planned changes step has =
    let stands = stands_from changes 0 0 has.0 step (at_contained (planned_steps changes) step has) in
    let zeroth = stands.change_number_is in
    let number : step.change_number ≡ stands.c = omega (arith, zeroth) in
    let own = stands.number_is in
    let index = stands.index_is in
    let placed = stands.place_is in
    let stood : base changes step.change_number ≡ base changes stands.c = ap (base changes) number in
    let less = has.1 in record {
      change_at = ap (slice_get changes) number ∙ stands.change_at;
      kind_at = ap (slice_get step.change.steps) own ∙ stands.kind_at;
      place_is = omega (arith, own, index, placed, stood);
      within = omega (arith, placed, less);
    }

-- steps with the same numbers stand at the same place
pub same_place : (changes : List ResourceChange) (one other : PlannedStep) → IsPlanned changes one → IsPlanned changes other
    → one.change_number ≡ other.change_number → one.number ≡ other.number → one.place ≡ other.place
same_place changes one other first second change number =
    let here = first.place_is in
    let there = second.place_is in
    let stood : base changes one.change_number ≡ base changes other.change_number = ap (base changes) change in
    omega (arith, here, there, stood, number)

-- steps at the same place have the same numbers
pub same_change : (changes : List ResourceChange) (one other : PlannedStep) → Contains (planned_steps changes) one → Contains (planned_steps changes) other
    → one.place ≡ other.place → one ≡ other
same_change changes one other first second place =
    let here = (stands_from changes 0 0 first.0 one (at_contained (planned_steps changes) one first)).place_is in
    let there = (stands_from changes 0 0 second.0 other (at_contained (planned_steps changes) other second)).place_is in
    let index : first.0 ≡ second.0 = omega (arith, here, there, place) in
    same_Some one other (sym (at_contained (planned_steps changes) one first) ∙ ap (slice_get (planned_steps changes)) index ∙ at_contained (planned_steps changes) other second)

-- the step of the plan with these numbers
pub record IsNumbered (changes : List ResourceChange) (c k : ℕ) (step : PlannedStep) : Type 0 where
  pub stands : Contains (planned_steps changes) step
  pub of_change : step.change_number ≡ c
  pub of_number : step.number ≡ k

pub numbered_step : (changes : List ResourceChange) (c k : ℕ) (change : ResourceChange) (kind : StepKind) → slice_get changes c ≡ Some change → slice_get change.steps k ≡ Some kind
    → (step : PlannedStep) × IsNumbered changes c k step
numbered_step changes c k change kind at has =
    let there = planned_at changes 0 0 c k change kind at has in
    let one = there.2.change_number_is in
    let two = there.2.number_is in (
      there.0,
      record {
        stands = contains_at (planned_steps changes) (base changes c + k) there.0 there.1;
        of_change = omega (arith, one);
        of_number = omega (arith, two);
      },
    )
