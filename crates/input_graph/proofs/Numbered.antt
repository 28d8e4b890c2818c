-- The numbers of steps by name, from the last step to the first.
use Rattle.std.proofs.Common.{◌≡◌, ◌<◌, ◌≤◌, ◌+◌, ◌-◌, ℕ, suc, List, [], ◌∷◌, length, drop, get_or, Option, Some, None, cond, true, false, Bool, refl, sym, ap, ◌∙◌, ⊎_elim, arith, drop-cons}
use Rattle.std.specs.Prelude.{IfSome, slice_get}
use Rattle.std.specs.List.{position_from}
use Rattle.std.specs.Str.{bytes_eq}
use Rattle.std.proofs.lemmas.Bool.{cases_Bool, true≢false}
use Rattle.std.proofs.lemmas.List.{get_or-map, length-map}
use Rattle.std.proofs.lemmas.Option.{slice_get_read, slice_get_within}
use Rattle.std.proofs.lemmas.Slice.Eq.{bytes_eq-Decides}
use Rattle.input_graph.specs.declared.step_node.StepNode.{StepNode}
use Rattle.input_graph.specs.StepNodes.{names_of}

pub same_either_way : (a b : List ℕ) → bytes_eq a b ≡ bytes_eq b a
same_either_way a b = ⊎_elim
    (λ (yes : bytes_eq a b ≡ true). yes ∙ sym ((bytes_eq-Decides b a).1 (sym ((bytes_eq-Decides a b).0 yes))))
    (λ (differs : bytes_eq a b ≡ false). ⊎_elim
    (λ (yes : bytes_eq b a ≡ true). absurd (true≢false (sym ((bytes_eq-Decides a b).1 (sym ((bytes_eq-Decides b a).0 yes))) ∙ differs)))
    (λ (also : bytes_eq b a ≡ false). differs ∙ sym also) (cases_Bool (bytes_eq b a)))
    (cases_Bool (bytes_eq a b))

one_more : (names : List (List ℕ)) (n : ℕ) (x name : List ℕ) → 0 < n → n ≤ length names → x ≡ get_or names (n - 1) x
    → position_from (bytes_eq name) (n - 1) (drop (n - 1) names) ≡ cond (bytes_eq name x) (Some (n - 1)) (position_from (bytes_eq name) n (drop n names))
one_more names n x name some within is =
    let below : n - 1 < length names = omega arith in
    let next : n - 1 + 1 ≡ n = omega arith in
    let follows : suc (n - 1) ≡ n = omega arith in
    ap (position_from (bytes_eq name) (n - 1)) (drop-cons names (n - 1) x below)
    ∙ ap (λ (y : List ℕ). cond (bytes_eq name y) (Some (n - 1)) (position_from (bytes_eq name) (n - 1 + 1) (drop (suc (n - 1)) names))) (sym is)
    ∙ ap (λ (m : ℕ). cond (bytes_eq name x) (Some (n - 1)) (position_from (bytes_eq name) m (drop (suc (n - 1)) names))) next
    ∙ ap (λ (m : ℕ). cond (bytes_eq name x) (Some (n - 1)) (position_from (bytes_eq name) n (drop m names))) follows

-- the name of the node of a step
pub named_at : (steps : List StepNode) (k : ℕ) (step : StepNode) → k < length steps → step ≡ get_or steps k step
    → (k < length (names_of steps)) × (step.name ≡ get_or (names_of steps) k step.name)
named_at steps k step within is = (
  rw length-map within,
  ap (λ (s : StepNode). s.name) is ∙ sym (get_or-map (λ (s : StepNode). s.name) steps k step step.name within),
)

pub name_read : (steps : List StepNode) (k : ℕ) (step : StepNode) → k < length (names_of steps) → step ≡ get_or steps k step → slice_get (names_of steps) k ≡ Some step.name
name_read steps k step within is =
    let inside : k < length steps = rw length-map at within in
    slice_get_read (names_of steps) (length (names_of steps)) k step.name refl within (named_at steps k step inside is).1

-- one step more, before the others
pub number_more : (names : List (List ℕ)) (n : ℕ) (x key name : List ℕ) (before after : Option ℕ) → 0 < n → n ≤ length names → x ≡ get_or names (n - 1) x → key ≡ x
    → before ≡ position_from (bytes_eq name) n (drop n names) → after ≡ cond (bytes_eq key name) (Some (n - 1)) before
    → after ≡ position_from (bytes_eq name) (n - 1) (drop (n - 1) names)
number_more names n x key name before after some within is same had has =
    has
    ∙ ap (λ (o : Option ℕ). cond (bytes_eq key name) (Some (n - 1)) o) had
    ∙ ap (λ (k : List ℕ). cond (bytes_eq k name) (Some (n - 1)) (position_from (bytes_eq name) n (drop n names))) same
    ∙ ap (λ (b : Bool). cond b (Some (n - 1)) (position_from (bytes_eq name) n (drop n names))) (same_either_way x name)
    ∙ sym (one_more names n x name some within is)

-- a number stands for a step of that name
pub found_at : (name : List ℕ) (i : ℕ) (names : List (List ℕ)) (n : ℕ) → position_from (bytes_eq name) i names ≡ Some n → (i ≤ n) × (slice_get names (n - i) ≡ Some name)
found_at name i [] n is = cc
found_at name i (x ∷ xs) n is = ⊎_elim
    (λ (yes : bytes_eq name x ≡ true).
    let it : Some i ≡ Some n = ap (λ (b : Bool). cond b (Some i) (position_from (bytes_eq name) (i + 1) xs)) (sym yes) ∙ is in
    let here : i ≡ n = cc in
    let none : n - i ≡ 0 = omega (arith, here) in
    (omega (arith, here), ap (slice_get (x ∷ xs)) none ∙ ap Some (sym ((bytes_eq-Decides name x).0 yes))))
    (λ (differs : bytes_eq name x ≡ false).
    let rest = found_at name (i + 1) xs n (ap (λ (b : Bool). cond b (Some i) (position_from (bytes_eq name) (i + 1) xs)) (sym differs) ∙ is) in
    let low : i + 1 ≤ n = rest.0 in
    let next : n - i ≡ suc (n - (i + 1)) = omega (arith, low) in
    (omega (arith, low), ap (slice_get (x ∷ xs)) next ∙ rest.1))
    (cases_Bool (bytes_eq name x))

pub named : (names : List (List ℕ)) (name : List ℕ) (r : Option ℕ) → r ≡ position_from (bytes_eq name) 0 names → IfSome r (λ n. slice_get names n ≡ Some name)
named names name None is = tt
named names name (Some n) is =
    let found = found_at name 0 names n (sym is) in
    let same : n - 0 ≡ n = omega arith in
    ap (slice_get names) (sym same) ∙ found.1

pub named_within : (names : List (List ℕ)) (name : List ℕ) (r : Option ℕ) → r ≡ position_from (bytes_eq name) 0 names → IfSome r (λ n. n < length names)
named_within names name None is = tt
named_within names name (Some n) is = slice_get_within names n name (named names name (Some n) is)
