-- The waits of one step in a list of vectors.
use Rattle.std.proofs.Common.{◌≡◌, ◌<◌, ◌-◌, ◌∙◌, ◌||◌, eqb, ℕ, List, [], All, Bool, true, false, cond, length, get_or, Global, None, Some, Vec, sym, ap, arith, subst}
use Rattle.std.specs.Prelude.{option_to_list}
use Rattle.std.proofs.lemmas.List.{get_or-map, length-map}
use Rattle.std.proofs.lemmas.List.Elements.{All-append, All-cons, All-nil}
use Rattle.stream_record_waits.specs.declared.step_of_plan.StepOfPlan.{StepOfPlan}
use Rattle.stream_record_waits.specs.Graph.{AreWaitsOf, passed_on, waits_at}
use Rattle.stream_record_waits.specs.Steps.{lists_in, step_at, step_before}

pub row : (graph : List (Vec ℕ Global)) (step : ℕ) (v : Vec ℕ Global) → step < length graph → v ≡ get_or graph step v → v.items ≡ waits_at (lists_in graph) step
row graph step v within is =
    ap (λ (vector : Vec ℕ Global). vector.items) is ∙ sym (get_or-map (λ (vector : Vec ℕ Global). vector.items) graph step v [] within)

-- a row that was read, where the graph is known
module _ (graph : List (Vec ℕ Global)) (count step : ℕ) (v : Vec ℕ Global) (known : AreWaitsOf count (lists_in graph)) (within : step < count) (is : v ≡ get_or graph step v) where
  pub row_is : (items : List ℕ) → items ≡ v.items → items ≡ waits_at (lists_in graph) step
  row_is items same =
      let size : length graph ≡ count = sym (length-map graph (λ (vector : Vec ℕ Global). vector.items)) ∙ known.each in
      same ∙ row graph step v (omega (arith, size, within)) is

  pub row_known : (items : List ℕ) (size : ℕ) → items ≡ v.items → size ≡ count → All (λ other. other < size) items
  row_known items size same counted =
      subst (λ (n : ℕ). All (λ other. other < n) items) (sym counted)
      (subst (All (λ other. other < count)) (sym (row_is items same)) (known.known step within))

pub row_got : (graph : List (Vec ℕ Global)) (count step : ℕ) (d : Vec ℕ Global) → AreWaitsOf count (lists_in graph) → step < count → (get_or graph step d).items ≡ waits_at (lists_in graph) step
row_got graph count step d known within =
    let size : length graph ≡ count = sym (length-map graph (λ (vector : Vec ℕ Global). vector.items)) ∙ known.each in
    sym (get_or-map (λ (vector : Vec ℕ Global). vector.items) graph step d [] (omega (arith, size, within)))

before_known : (b : Bool) (step count : ℕ) → step < count → All (λ other. other < count) (option_to_list (cond b None (Some (step - 1))))
before_known true step count within = All-nil (λ other. other < count)
before_known false step count within = All-cons (λ other. other < count) (step - 1) [] (omega arith) (All-nil (λ other. other < count))

pub passed_known : (steps : List StepOfPlan) (graph : List (List ℕ)) (step : ℕ) → AreWaitsOf (length steps) graph → step < length steps
    → All (λ other. other < length steps) (passed_on steps graph step)
passed_known steps graph step known within =
    All-append (λ other. other < length steps) (waits_at graph step) (option_to_list (step_before steps step)) (known.known step within)
    (before_known (eqb step 0 || (step_at steps step).is_first) step (length steps) within)
