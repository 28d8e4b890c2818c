-- The first item that passes a test, in the first items of a list; and which step a start takes.
use Rattle.std.proofs.Common.{◌≡◌, ◌∙◌, ◌+◌, ◌<◌, ℕ, zero, suc, List, [], ◌∷◌, Option, Some, None, Bool, true, false, cond, add-one, ap, arith, get_or, length, refl, sym, take}
use Rattle.std.specs.Prelude.{◌&&◌, option_map}
use Rattle.std.specs.List.{find}
use Rattle.std.specs.Option.{option_or}
use Rattle.apply_model.specs.declared.plan.step_kind.StepKind.{StepKind}
use Rattle.stream_record_steps.specs.declared.begun_step.BegunStep.{BegunStep}
use Rattle.stream_record_steps.specs.Starts.{had_id, is_free, taken_place}
use Rattle.stream_record_steps.specs.Steps.{PlannedStep}

-- ---- the first item that passes

one_before : {X : Type 0} (b : Bool) (x : X) (A B C : Option X) → A ≡ option_or B C → cond b (Some x) A ≡ option_or (cond b (Some x) B) C
one_before true x A B C same = refl
one_before false x A B C same = same

find_suc : {X : Type 0} (p : X → Bool) (xs : List X) (i : ℕ) (d : X) → i < length xs
    → find p (take (suc i) xs) ≡ option_or (find p (take i xs)) (cond (p (get_or xs i d)) (Some (get_or xs i d)) None)
find_suc p [] i d within = absurd (omega arith)
find_suc p (x ∷ xs) zero d within = refl
find_suc p (x ∷ xs) (suc i) d within =
    let inside : i < length xs = omega arith in
    one_before (p x) x (find p (take (suc i) xs)) (find p (take i xs)) (cond (p (get_or xs i d)) (Some (get_or xs i d)) None) (find_suc p xs i d inside)

-- one item more
find_more : {X : Type 0} (p : X → Bool) (xs : List X) (i : ℕ) (x : X) (b : Bool) → i < length xs → x ≡ get_or xs i x → p x ≡ b
    → find p (take (i + 1) xs) ≡ option_or (find p (take i xs)) (cond b (Some x) None)
find_more {X} p xs i x b within is passes =
    ap (λ (n : ℕ). find p (take n xs)) (add-one i)
    ∙ find_suc p xs i x within
    ∙ ap (λ (y : X). option_or (find p (take i xs)) (cond (p y) (Some y) None)) (sym is)
    ∙ ap (λ (c : Bool). option_or (find p (take i xs)) (cond c (Some x) None)) passes

found_later : {X : Type 0} (b : Bool) (y x : X) (A B : Option X) → (A ≡ None → B ≡ Some x) → cond b (Some y) A ≡ None → cond b (Some y) B ≡ Some x
found_later true y x A B found none = cc
found_later false y x A B found none = found none

-- the item at which the search ends
find_ends : {X : Type 0} (p : X → Bool) (xs : List X) (i : ℕ) (x : X) → i < length xs → x ≡ get_or xs i x → p x ≡ true
    → find p (take i xs) ≡ None → find p xs ≡ Some x
find_ends p [] i x within is passes none = absurd (omega arith)
find_ends {X} p (y ∷ ys) zero x within is passes none =
    ap (λ (z : X). cond (p z) (Some z) (find p ys)) (sym is) ∙ ap (λ (b : Bool). cond b (Some x) (find p ys)) passes
find_ends p (y ∷ ys) (suc i) x within is passes none =
    let inside : i < length ys = omega arith in
    found_later (p y) y x (find p (take i ys)) (find p ys) (find_ends p ys i x inside is passes) none

-- ---- which step a start takes

both_true : (a b : Bool) → a ≡ true → b ≡ true → (a && b) ≡ true
both_true a b is_so also = ap (λ (c : Bool). c && b) is_so ∙ also

pub takes_by_id : (by_step : List (Option BegunStep)) (kind : StepKind) (id : Option (List ℕ)) (steps : List PlannedStep) (i : ℕ) (step : PlannedStep) (place : ℕ)
    → i < length steps → step ≡ get_or steps i step → is_free by_step kind step ≡ true → had_id id step ≡ true → place ≡ step.place
    → find (λ step. is_free by_step kind step && had_id id step) (take i steps) ≡ None
    → Some place ≡ taken_place by_step kind id steps
takes_by_id by_step kind id steps i step place within is free has same none =
    ap Some same
    ∙ sym (ap (λ (o : Option PlannedStep). option_map (λ step. step.place) (option_or o (find (is_free by_step kind) steps)))
    (find_ends (λ step. is_free by_step kind step && had_id id step) steps i step within is (both_true (is_free by_step kind step) (had_id id step) free has) none))

with_first : (found : Option PlannedStep) (first next : Option ℕ) (step : PlannedStep) → first ≡ option_map (λ step. step.place) found
    → next ≡ option_or first (Some step.place) → next ≡ option_map (λ step. step.place) (option_or found (Some step))
with_first None first next step was is = is ∙ ap (λ (o : Option ℕ). option_or o (Some step.place)) was
with_first (Some other) first next step was is = is ∙ ap (λ (o : Option ℕ). option_or o (Some step.place)) was

without : (found : Option PlannedStep) → option_or found None ≡ found
without None = refl
without (Some step) = refl

-- a step that a start may take
pub first_more : (by_step : List (Option BegunStep)) (kind : StepKind) (steps : List PlannedStep) (i : ℕ) (step : PlannedStep) (first next : Option ℕ) (place : ℕ)
    → i < length steps → step ≡ get_or steps i step → is_free by_step kind step ≡ true → place ≡ step.place
    → first ≡ option_map (λ step. step.place) (find (is_free by_step kind) (take i steps)) → next ≡ option_or first (Some place)
    → next ≡ option_map (λ step. step.place) (find (is_free by_step kind) (take (i + 1) steps))
first_more by_step kind steps i step first next place within is free same was now =
    with_first (find (is_free by_step kind) (take i steps)) first next step was (now ∙ ap (λ (p : ℕ). option_or first (Some p)) same)
    ∙ sym (ap (option_map (λ step. step.place)) (find_more (is_free by_step kind) steps i step true within is free))

-- a step that no start may take
pub first_same : (by_step : List (Option BegunStep)) (kind : StepKind) (steps : List PlannedStep) (i : ℕ) (step : PlannedStep) (first next : Option ℕ)
    → i < length steps → step ≡ get_or steps i step → is_free by_step kind step ≡ false
    → first ≡ option_map (λ step. step.place) (find (is_free by_step kind) (take i steps)) → next ≡ first
    → next ≡ option_map (λ step. step.place) (find (is_free by_step kind) (take (i + 1) steps))
first_same by_step kind steps i step first next within is free was now =
    now ∙ was
    ∙ sym (ap (option_map (λ step. step.place))
    (find_more (is_free by_step kind) steps i step false within is free ∙ without (find (is_free by_step kind) (take i steps))))

one_false : (a b : Bool) → a ≡ false → (a && b) ≡ false
one_false a b is_not = ap (λ (c : Bool). c && b) is_not

other_false : (a b : Bool) → b ≡ false → (a && b) ≡ false
other_false true b is_not = is_not
other_false false b is_not = refl

none_more : (by_step : List (Option BegunStep)) (kind : StepKind) (id : Option (List ℕ)) (steps : List PlannedStep) (i : ℕ) (step : PlannedStep)
    → i < length steps → step ≡ get_or steps i step → (is_free by_step kind step && had_id id step) ≡ false
    → find (λ step. is_free by_step kind step && had_id id step) (take i steps) ≡ None
    → find (λ step. is_free by_step kind step && had_id id step) (take (i + 1) steps) ≡ None
none_more by_step kind id steps i step within is is_not none =
    find_more (λ step. is_free by_step kind step && had_id id step) steps i step false within is is_not
    ∙ ap (λ (o : Option PlannedStep). option_or o None) none

pub none_of_kind : (by_step : List (Option BegunStep)) (kind : StepKind) (id : Option (List ℕ)) (steps : List PlannedStep) (i : ℕ) (step : PlannedStep)
    → i < length steps → step ≡ get_or steps i step → is_free by_step kind step ≡ false
    → find (λ step. is_free by_step kind step && had_id id step) (take i steps) ≡ None
    → find (λ step. is_free by_step kind step && had_id id step) (take (i + 1) steps) ≡ None
none_of_kind by_step kind id steps i step within is free none =
    none_more by_step kind id steps i step within is (one_false (is_free by_step kind step) (had_id id step) free) none

pub none_of_id : (by_step : List (Option BegunStep)) (kind : StepKind) (id : Option (List ℕ)) (steps : List PlannedStep) (i : ℕ) (step : PlannedStep)
    → i < length steps → step ≡ get_or steps i step → had_id id step ≡ false
    → find (λ step. is_free by_step kind step && had_id id step) (take i steps) ≡ None
    → find (λ step. is_free by_step kind step && had_id id step) (take (i + 1) steps) ≡ None
none_of_id by_step kind id steps i step within is other none =
    none_more by_step kind id steps i step within is (other_false (is_free by_step kind step) (had_id id step) other) none
