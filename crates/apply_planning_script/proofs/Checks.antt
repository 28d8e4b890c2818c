-- Items that are checked, one after the other.
use Rattle.std.proofs.Common.{◌≡◌, ℕ, ◌+◌, ◌<◌, ◌≤◌, Bool, true, false, List, [], ◌∷◌, ◌++◌, drop, get_or, length, map, take, Option, Some, None, option_map, Ok, Err, refl, sym, ap, ◌∙◌}
use Rattle.std.specs.Prelude.{◌||◌, not}
use Rattle.std.specs.List.{list_any}
use Rattle.std.specs.Option.{option_or}
use Rattle.std.proofs.lemmas.List.{drop_all, drop_more, map-append, take_all, take_more}
use Rattle.apply_model.specs.declared.plan.mode.Mode.{Mode}
use Rattle.apply_plan.specs.declared.script.planning_error.PlanningError.{PlanningError}
use Rattle.apply_plan.specs.declared.script.planning_error.PlanningError.TheVariants.{Misfits, NoObject, Repeated}
use Rattle.apply_plan.specs.declared.script.script_error.ScriptError.TheVariants.{Planning}
use Rattle.apply_plan.specs.Results.{unless_refused}
use Rattle.apply_prior.specs.declared.prior_object.PriorObject.{PriorObject}
use Rattle.apply_resolve.specs.declared.object_id.ObjectId.{ObjectId}
use Rattle.apply_resolve.specs.declared.object_set.ObjectSet.{ObjectSet}
use Rattle.apply_resolve.specs.ObjectIds.{is_same_id}
use Rattle.apply_resolve.specs.ObjectSet.{has_object}
use Rattle.apply_planning_script.specs.declared.raw_item.RawItem.{RawItem}
use Rattle.apply_planning_script.specs.Items.{Item, object_of_item}
use Rattle.apply_planning_script.specs.ItemSlots.{item_view, object_of_raw}
use Rattle.apply_planning_script.specs.ObjectIndex.{name_of_id}
use Rattle.apply_planning_script.specs.Objects.{ObjectName, is_same_name}
use Rattle.apply_planning_script.specs.Planning.{fault_of, fault_with, first_fault, is_known, is_repeated, known_mode, misfits, mode_of_object}
use Rattle.apply_planning_script.specs.SeenItems.{HaveSeen}

-- ---- the fault of an item

module _ (earlier : List Item) (item : Item) (number : ℕ) (count : number ≡ length earlier) where
  pub no_object : (o : Option Mode) → o ≡ None → Some (NoObject number) ≡ fault_with earlier item o
  no_object o none = rw (none, count) refl

  module _ (o : Option Mode) (mode : Mode) (is : o ≡ Some mode) where
    pub misfit : misfits item mode ≡ true → Some (Misfits number) ≡ fault_with earlier item o
    misfit test = rw (is, test, count) refl

    pub repeated : misfits item mode ≡ false → is_repeated earlier item ≡ true → Some (Repeated number) ≡ fault_with earlier item o
    repeated test again = rw (is, test, again, count) refl

    pub no_fault : misfits item mode ≡ false → is_repeated earlier item ≡ false → None ≡ fault_with earlier item o
    no_fault test fresh = rw (is, test, fresh) refl

-- ---- the objects of the items

swap : (a b c : Bool) → (a || (b || c)) ≡ (b || (a || c))
swap true true c = refl
swap true false c = refl
swap false true c = refl
swap false false c = refl

last_any : {X : Type 0} (p : X → Bool) (xs : List X) (x : X) → list_any p (xs ++ x ∷ []) ≡ (p x || list_any p xs)
last_any p [] x = refl
last_any p (y ∷ ys) x = ap (λ (b : Bool). p y || b) (last_any p ys x) ∙ swap (p y) (p x) (list_any p ys)

module _ (old new : ObjectSet) (id : ObjectId) (earlier : List Item) (item : Item) (names : name_of_id id ≡ object_of_item item) (has : HaveSeen old earlier) where
  pub is_seen : has_object old id ≡ is_repeated earlier item
  is_seen = has id ∙ ap (λ (o : ObjectName). list_any (λ one. is_same_name (object_of_item one) o) earlier) names

  pub seen_more : ((other : ObjectId) → has_object new other ≡ (is_same_id id other || has_object old other)) → HaveSeen new (earlier ++ item ∷ [])
  seen_more added other =
      added other ∙ ap (λ (b : Bool). is_same_id id other || b) (has other)
      ∙ ap (λ (o : ObjectName). is_same_name o (name_of_id other) || list_any (λ one. is_same_name (object_of_item one) (name_of_id other)) earlier) names
      ∙ sym (last_any (λ one. is_same_name (object_of_item one) (name_of_id other)) earlier item)

pub not_seen : (seen fresh : Bool) → fresh ≡ not seen → fresh ≡ true → seen ≡ false
not_seen true fresh is e = absurd cc
not_seen false fresh is e = refl

pub was_seen : (seen fresh : Bool) → fresh ≡ not seen → fresh ≡ false → seen ≡ true
was_seen true fresh is e = refl
was_seen false fresh is e = absurd cc

-- ---- all items

module _ (objects : List PriorObject) (items : List RawItem) (n : ℕ) (item : RawItem) (few : n < length items) (is : item ≡ get_or items n item) where
  abbrev before : List Item
  before = map item_view (take n items)

  pub next_before : map item_view (take (n + 1) items) ≡ before ++ item_view item ∷ []
  next_before = ap (map item_view) (take_more items n item few ∙ ap (λ (x : RawItem). take n items ++ x ∷ []) (sym is)) ∙ map-append item_view (take n items) (item ∷ [])

  first_is : first_fault objects before (map item_view (drop n items))
      ≡ option_or (fault_of objects before (item_view item)) (first_fault objects (before ++ item_view item ∷ []) (map item_view (drop (n + 1) items)))
  unfolding first_fault
  first_is = ap (λ (xs : List RawItem). first_fault objects before (map item_view xs)) (drop_more items n item few ∙ ap (λ (x : RawItem). x ∷ drop (n + 1) items) (sym is))

  -- the item has no fault
  pub none_first : None ≡ fault_of objects before (item_view item)
      → first_fault objects before (map item_view (drop n items)) ≡ first_fault objects (map item_view (take (n + 1) items)) (map item_view (drop (n + 1) items))
  none_first none =
      first_is ∙ ap (λ (o : Option PlanningError). option_or o (first_fault objects (before ++ item_view item ∷ []) (map item_view (drop (n + 1) items)))) (sym none)
      ∙ ap (λ (xs : List Item). first_fault objects xs (map item_view (drop (n + 1) items))) (sym next_before)

  -- the item has the first fault
  pub some_first : (fault : PlanningError) → Some fault ≡ fault_of objects before (item_view item) → first_fault objects before (map item_view (drop n items)) ≡ Some fault
  some_first fault some =
      first_is ∙ ap (λ (o : Option PlanningError). option_or o (first_fault objects (before ++ item_view item ∷ []) (map item_view (drop (n + 1) items)))) (sym some)

  -- the fault by the mode of the object that the plan knows
  pub fault_is : (fault : Option PlanningError) (known : Option Mode) → fault ≡ fault_with before (item_view item) (mode_of_object known (item_view item))
      → known ≡ known_mode objects (object_of_raw item) → fault ≡ fault_of objects before (item_view item)
  fault_is fault known is by = is ∙ ap (λ (o : Option Mode). fault_with before (item_view item) (mode_of_object o (item_view item))) by

  pub known_more : (old new : List Bool) (b : Bool) → new ≡ old ++ b ∷ [] → old ≡ map (λ one. is_known objects (object_of_raw one)) (take n items) → b ≡ is_known objects (object_of_raw item)
      → new ≡ map (λ one. is_known objects (object_of_raw one)) (take (n + 1) items)
  known_more old new b pushed so_far same =
      pushed ∙ ap (λ (bs : List Bool). bs ++ b ∷ []) so_far ∙ ap (λ (x : Bool). map (λ one. is_known objects (object_of_raw one)) (take n items) ++ x ∷ []) same
      ∙ sym (map-append (λ (one : RawItem). is_known objects (object_of_raw one)) (take n items) (item ∷ []))
      ∙ ap (map (λ (one : RawItem). is_known objects (object_of_raw one))) (sym (take_more items n item few ∙ ap (λ (x : RawItem). take n items ++ x ∷ []) (sym is)))

nothing_left : (objects : List PriorObject) (earlier : List Item) → first_fault objects earlier [] ≡ None
unfolding first_fault
nothing_left objects earlier = refl

-- no item has a fault
pub all_known : (objects : List PriorObject) (items : List RawItem) (n : ℕ) (known : List Bool) → length items ≤ n
    → first_fault objects [] (map item_view items) ≡ first_fault objects (map item_view (take n items)) (map item_view (drop n items))
    → known ≡ map (λ one. is_known objects (object_of_raw one)) (take n items)
    → unless_refused (option_map Planning (first_fault objects [] (map item_view items))) (map (λ one. is_known objects (object_of_raw one)) items) ≡ Ok known
all_known objects items n known past so_far known_are =
    let none : first_fault objects [] (map item_view items) ≡ None =
    so_far ∙ ap (λ (xs : List RawItem). first_fault objects (map item_view (take n items)) (map item_view xs)) (drop_all n items past) ∙ nothing_left objects (map item_view (take n items)) in
    let all : known ≡ map (λ (one : RawItem). is_known objects (object_of_raw one)) items = known_are ∙ ap (map (λ (one : RawItem). is_known objects (object_of_raw one))) (take_all n items past) in
    rw (none, all) refl

-- an item has a fault
pub one_faulty : (objects : List PriorObject) (items : List RawItem) (known : List Bool) (fault : PlanningError) → first_fault objects [] (map item_view items) ≡ Some fault
    → unless_refused (option_map Planning (first_fault objects [] (map item_view items))) known ≡ Err (Planning fault)
one_faulty objects items known fault some = rw some refl
