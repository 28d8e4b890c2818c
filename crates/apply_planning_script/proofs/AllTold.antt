-- All objects that a stream tells of, by the decisions on them.
use Rattle.std.proofs.Common.{◌≡◌, Bool, List, [], ◌∷◌, ◌++◌, map, refl, sym, ap, ◌∙◌}
use Rattle.std.specs.List.{flat_map, zip}
use Rattle.std.proofs.lemmas.List.Folds.{flat_map-map}
use Rattle.apply_prior.specs.declared.prior_object.PriorObject.{PriorObject}
use Rattle.apply_planning_script.specs.declared.decisions.Decision.{Decision}
use Rattle.apply_planning_script.specs.declared.raw_item.RawItem.{RawItem}
use Rattle.apply_planning_script.specs.declared.rules.PlanningRules.{PlanningRules}
use Rattle.apply_planning_script.specs.Decisions.{decision_on, told_decided}
use Rattle.apply_planning_script.specs.ItemSlots.{item_view, object_of_raw}
use Rattle.apply_planning_script.specs.Planning.{is_known}
use Rattle.apply_planning_script.specs.Rules.{PlannedObjects}
use Rattle.apply_planning_script.specs.Told.{ToldObject, object_view, told_known, told_of, told_unknown, told_unless}
use Rattle.apply_planning_script.proofs.Decided.{decisions_on}

zipped : {X Y A : Type 0} (f : X × Y → List A) (h : X → Y) (xs : List X) → flat_map f (zip xs (map h xs)) ≡ flat_map (λ x. f (x, h x)) xs
zipped f h [] = refl
zipped {X} {Y} {A} f h (x ∷ xs) = ap (λ (l : List A). f (x, h x) ++ l) (zipped f h xs)

module _ (rules : PlanningRules) (plan : PlannedObjects) (objects : List PriorObject) (items : List RawItem) where
  abbrev of_pair : PriorObject × Decision → List ToldObject
  of_pair p = told_decided (map item_view items) (object_view p.0) p.1

  abbrev of_item : RawItem × Bool → List ToldObject
  of_item p = told_unless p.1 (item_view p.0)

  abbrev knows : RawItem → Bool
  knows item = is_known objects (object_of_raw item)

  known_are : flat_map of_pair (zip objects (decisions_on rules plan items objects)) ≡ flat_map (λ prior. told_known rules plan (map item_view items) (object_view prior)) objects
  known_are = zipped of_pair (λ (prior : PriorObject). decision_on rules plan (map item_view items) prior.object) objects

  unknown_are : flat_map of_item (zip items (map knows items)) ≡ flat_map (told_unknown objects) (map item_view items)
  unknown_are = zipped of_item knows items ∙ sym (flat_map-map (told_unknown objects) item_view items)

  pub all_are : (decisions : List Decision) (known : List Bool) (told new : List ToldObject) → decisions ≡ decisions_on rules plan items objects → known ≡ map (λ item. is_known objects (object_of_raw item)) items
      → told ≡ flat_map of_pair (zip objects decisions) → new ≡ told ++ flat_map of_item (zip items known) → new ≡ told_of rules plan objects (map item_view items)
  all_are decisions known told new decided knowing first all =
      all
      ∙ ap (λ (l : List ToldObject). l ++ flat_map of_item (zip items known)) (first ∙ ap (λ (ds : List Decision). flat_map of_pair (zip objects ds)) decided ∙ known_are)
      ∙ ap (λ (l : List ToldObject). flat_map (λ prior. told_known rules plan (map item_view items) (object_view prior)) objects ++ l)
      (ap (λ (bs : List Bool). flat_map of_item (zip items bs)) knowing ∙ unknown_are)
