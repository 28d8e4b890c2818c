-- The set of the objects of earlier changes.
use Rattle.std.proofs.Common.{◌≡◌, Bool, true, false, List, [], ◌∷◌, ◌++◌, not, ap, refl, ◌∙◌}
use Rattle.std.specs.Prelude.{◌||◌}
use Rattle.std.specs.List.{list_any}
use Rattle.std.specs.Option.{option_copied}
use Rattle.apply_resolve.specs.declared.object_id.ObjectId.{ObjectId}
use Rattle.apply_resolve.specs.declared.object_set.ObjectSet.{ObjectSet}
use Rattle.apply_model.specs.Plan.ResourceChange.{ResourceChange}
use Rattle.apply_resolve.specs.ObjectName.{is_same_object}
use Rattle.apply_resolve.specs.ObjectIds.{is_of, is_same_id}
use Rattle.apply_resolve.specs.ObjectSet.{has_object}
use Rattle.apply_plan.specs.Plan.SeenSet.{HaveBeenSeen}

or_swap : (a b c : Bool) → (a || (b || c)) ≡ (b || (a || c))
or_swap true true c = refl
or_swap true false c = refl
or_swap false b c = refl

any_push : (p : ResourceChange → Bool) (changes : List ResourceChange) (change : ResourceChange) → list_any p (changes ++ change ∷ []) ≡ (p change || list_any p changes)
any_push p [] change = refl
any_push p (first ∷ others) change = rw (any_push p others change) (or_swap (p first) (p change) (list_any p others))

true_of_not : (answer named : Bool) → answer ≡ not named → answer ≡ false → named ≡ true
true_of_not answer true e f = refl
true_of_not answer false e f = absurd cc

false_of_not : (answer named : Bool) → answer ≡ not named → answer ≡ true → named ≡ false
false_of_not answer true e f = absurd cc
false_of_not answer false e f = refl

-- ---- the object of one change
module _ (id : ObjectId) (change : ResourceChange) (address : id.address.now ≡ change.address) (deposed : option_copied id.deposed ≡ change.deposed) where
  -- the set still has the objects of the changes after both grew by one
  pub seen_more : (old new : ObjectSet) (changes : List ResourceChange) → HaveBeenSeen old changes → ((other : ObjectId) → has_object new other ≡ (is_same_id id other || has_object old other))
      → HaveBeenSeen new (changes ++ change ∷ [])
  seen_more old new changes before grown other = grown other ∙ rw (before other, any_push (is_of other) changes change, address, deposed) refl

  named : (seen : ObjectSet) (changes : List ResourceChange) → HaveBeenSeen seen changes → has_object seen id ≡ list_any (is_same_object change) changes
  named seen changes before = rw (← address, ← deposed) (before id)

  -- an object in the set is the object of an earlier change
  pub was_named : (seen : ObjectSet) (changes : List ResourceChange) (answer : Bool) → HaveBeenSeen seen changes → answer ≡ not (has_object seen id) → answer ≡ false → list_any (is_same_object change) changes ≡ true
  was_named seen changes answer before fresh e = true_of_not answer _ (fresh ∙ ap not (named seen changes before)) e

  -- an object that is new to the set is the object of no earlier change
  pub was_not_named : (seen : ObjectSet) (changes : List ResourceChange) (answer : Bool) → HaveBeenSeen seen changes → answer ≡ not (has_object seen id) → answer ≡ true → list_any (is_same_object change) changes ≡ false
  was_not_named seen changes answer before fresh e = false_of_not answer _ (fresh ∙ ap not (named seen changes before)) e
