-- Elements as they are read, one after the other.
use Rattle.std.proofs.Common.{◌≡◌, ◌≢◌, ◌+◌, ◌<◌, ◌≤◌, true, false, List, [], ◌∷◌, ◌++◌, length, Option, Some, None, Result, Ok, Err, refl, sym, ap, ◌∙◌, arith}
use Rattle.std.specs.Prelude.{is_some}
use Rattle.std.proofs.lemmas.Bool.{le-ltb, lt-ltb}
use Rattle.std.proofs.lemmas.List.{length-append}
use Rattle.serde_json.specs.Data.{Data}
use Rattle.apply_model.specs.Plan.ResourceChange.{ResourceChange}
use Rattle.apply_model.specs.Plan.SavedPlan.{max_changes}
use Rattle.apply_plan.specs.declared.plan.elements.Elements.{Elements}
use Rattle.apply_plan.specs.declared.plan.plan_error.PlanError.{PlanError}
use Rattle.apply_plan.specs.declared.plan.plan_error.PlanError.TheVariants.{Memory, TooMany}
use Rattle.apply_plan.specs.ListReading.{items_of, made_after}
use Rattle.apply_plan.specs.Plan.ElementsView.{HoldsElements, changes_within}
use Rattle.apply_plan.specs.Plan.NextChange.{change_after}
use Rattle.apply_plan.specs.Plan.SeenSet.{HaveBeenSeen}
use Rattle.apply_plan.specs.Results.{◌>>=◌, unless_refused}
use Rattle.apply_plan.proofs.ListReading.{made_more, one_more}

longer : (ds : List Data) (d : Data) → length (ds ++ d ∷ []) ≡ length ds + 1
longer ds d = omega (arith, length-append ds (d ∷ []))

none_there : {A : Type 0} (fault : Option A) → is_some fault ≡ false → fault ≡ None
none_there None h = refl
none_there (Some x) h = absurd cc

pub no_want : (fault : Option PlanError) → is_some fault ≡ false → fault ≢ Some Memory
no_want None h = λ is. absurd cc
no_want (Some x) h = absurd cc

-- as many as a plan may have
within : (ds : List Data) → length ds ≤ max_changes → changes_within ds ≡ made_after change_after [] (items_of ds)
within ds few = rw (le-ltb max_changes (length ds) few) refl

beyond : (ds : List Data) → max_changes < length ds → changes_within ds ≡ Err TooMany
beyond ds many = rw (lt-ltb max_changes (length ds) many) refl

pub holds_none : (elements : Elements) → elements.count ≡ 0 → elements.changes.items ≡ [] → HaveBeenSeen elements.seen [] → elements.fault ≡ None → HoldsElements elements []
unfolding made_after
holds_none elements count changes seen fault = record {
  counted = omega (arith, count);
  made = λ none. ap length changes;
  seen = λ none. rw changes seen;
  so_far = λ not. rw (fault, changes) refl;
}

-- the results for one element more
next_element : (elements : Elements) (ds : List Data) (d : Data) → HoldsElements elements ds → elements.count < max_changes → elements.fault ≢ Some Memory
    → changes_within (ds ++ d ∷ []) ≡ (unless_refused elements.fault elements.changes.items >>= one_more change_after d)
next_element elements ds d holds room not =
    within (ds ++ d ∷ []) (omega (arith, room, holds.counted, longer ds d))
    ∙ made_more change_after [] ds d
    ∙ ap (λ (r : Result (List ResourceChange) PlanError). r >>= one_more change_after d) (sym (within ds (omega (arith, room, holds.counted))) ∙ holds.so_far not)

-- one element more, after as many as a plan may have
pub holds_full : (old new : Elements) (ds : List Data) (d : Data) → HoldsElements old ds → max_changes ≤ old.count → new ≡ record old { fault = Some TooMany } → HoldsElements new (ds ++ d ∷ [])
holds_full old new ds d holds full is = rw is (record {
  counted = omega (arith, full, holds.counted, longer ds d);
  made = λ none. absurd cc;
  seen = λ none. absurd cc;
  so_far = λ not. beyond (ds ++ d ∷ []) (omega (arith, full, holds.counted, longer ds d));
})

-- one element more, after a fault
pub holds_past : (old new : Elements) (ds : List Data) (d : Data) → is_some old.fault ≡ true → HoldsElements old ds → old.count < max_changes → new ≡ record old { count = old.count + 1 } → HoldsElements new (ds ++ d ∷ [])
holds_past old new ds d some holds room is = rw is (record {
  counted = omega (arith, room, holds.counted, longer ds d);
  made = λ none. absurd (there old.fault some none);
  seen = λ none. absurd (there old.fault some none);
  so_far = λ not. next_element old ds d holds room not ∙ stays old.fault some;
})
  where
    there : (fault : Option PlanError) → is_some fault ≡ true → fault ≡ None → ⊥
    there None h none = absurd cc
    there (Some e) h none = absurd cc

    stays : (fault : Option PlanError) → is_some fault ≡ true → (unless_refused fault old.changes.items >>= one_more change_after d) ≡ unless_refused fault old.changes.items
    stays None none = absurd cc
    stays (Some e) some = refl

-- one element more, if there was no fault
next_answer : (elements : Elements) (ds : List Data) (d : Data) → HoldsElements elements ds → elements.count < max_changes → is_some elements.fault ≡ false → (answer : Result ResourceChange PlanError) → change_after elements.changes.items d ≡ answer
    → changes_within (ds ++ d ∷ []) ≡ (answer >>= λ one. Ok (elements.changes.items ++ one ∷ []))
next_answer elements ds d holds room none answer is =
    next_element elements ds d holds room (no_want elements.fault none)
    ∙ ap (λ (o : Option PlanError). unless_refused o elements.changes.items >>= one_more change_after d) (none_there elements.fault none)
    ∙ ap (λ (r : Result ResourceChange PlanError). r >>= λ one. Ok (elements.changes.items ++ one ∷ [])) is

-- without a fault each element has a change
numbered : (elements : Elements) (ds : List Data) → HoldsElements elements ds → elements.count < max_changes → is_some elements.fault ≡ false → length elements.changes.items ≡ elements.count
numbered elements ds holds room none = omega (arith, room, holds.counted, holds.made (none_there elements.fault none))

pub holds_more : (old new : Elements) (ds : List Data) (d : Data) (change : ResourceChange) → HoldsElements old ds → old.count < max_changes → is_some old.fault ≡ false
    → (length old.changes.items ≡ old.count → HaveBeenSeen old.seen old.changes.items → change_after old.changes.items d ≡ Ok change) → (HaveBeenSeen old.seen old.changes.items → HaveBeenSeen new.seen (old.changes.items ++ change ∷ []))
    → new.changes.items ≡ old.changes.items ++ change ∷ [] → new.count ≡ old.count + 1 → new.fault ≡ old.fault → HoldsElements new (ds ++ d ∷ [])
holds_more old new ds d change holds room none accepted seen changes count fault =
    let nothing = none_there old.fault none in
    record {
      counted = omega (arith, room, count, holds.counted, longer ds d);
      made = λ no_fault. omega (arith, ap length changes, length-append old.changes.items (change ∷ []), longer ds d, holds.made nothing);
      seen = λ no_fault. rw changes (seen (holds.seen nothing));
      so_far = λ not. next_answer old ds d holds room none (Ok change) (accepted (numbered old ds holds room none) (holds.seen nothing)) ∙ rw (fault, nothing, changes) refl;
    }

pub holds_refused : (old new : Elements) (ds : List Data) (d : Data) (fault : PlanError) → HoldsElements old ds → old.count < max_changes → is_some old.fault ≡ false
    → (length old.changes.items ≡ old.count → HaveBeenSeen old.seen old.changes.items → fault ≢ Memory → change_after old.changes.items d ≡ Err fault) → new.changes.items ≡ old.changes.items → new.count ≡ old.count + 1 → new.fault ≡ Some fault → HoldsElements new (ds ++ d ∷ [])
holds_refused old new ds d fault holds room none refused changes count is = record {
  counted = omega (arith, room, count, holds.counted, longer ds d);
  made = λ no_fault. absurd (let never : None ≡ Some fault = sym no_fault ∙ is in cc);
  seen = λ no_fault. absurd (let never : None ≡ Some fault = sym no_fault ∙ is in cc);
  so_far = λ not. next_answer old ds d holds room none (Err fault) (refused (numbered old ds holds room none) (holds.seen (none_there old.fault none)) (λ want. not (is ∙ ap (λ (e : PlanError). Some e) want))) ∙ rw is refl;
}

-- ---- the changes of the elements
