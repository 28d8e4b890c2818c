-- Objects, one by one, and the set of those that are there.
use Rattle.std.proofs.Common.{◌≡◌, ℕ, ◌+◌, ◌<◌, Bool, true, false, not, List, [], ◌∷◌, ◌++◌, codes, length, get_or, map, take, Option, Some, None, option_map, filter_map, refl, sym, ap, subst, ◌∙◌}
use Rattle.std.specs.Prelude.{◌||◌}
use Rattle.std.specs.List.{list_any}
use Rattle.std.specs.Option.{option_copied}
use Rattle.std.proofs.lemmas.List.{map-append}
use Rattle.serde_json.specs.Data.{Data}
use Rattle.serde_json.specs.Find.{as_str}
use Rattle.apply_model.specs.Plan.ResourceChange.{ResourceChange}
use Rattle.apply_plan.specs.Plan.SeenSet.{HaveBeenSeen}
use Rattle.apply_plan.proofs.Plans.SeenSet.{seen_more, was_not_named}
use Rattle.apply_resolve.specs.declared.object_id.ObjectId.{ObjectId}
use Rattle.apply_resolve.specs.declared.object_set.ObjectSet.{ObjectSet}
use Rattle.apply_resolve.specs.ObjectIds.{is_same_id}
use Rattle.apply_resolve.specs.ObjectName.{is_same_object}
use Rattle.apply_resolve.specs.ObjectSet.{has_object}
use Rattle.apply_prior.specs.declared.drift.Drift.{Drift}
use Rattle.apply_prior.specs.declared.prior_object.PriorObject.{PriorObject}
use Rattle.apply_prior.specs.Elements.{items_at}
use Rattle.apply_prior.specs.Objects.{ObjectOfPlan, placed_object, prior_object, state_object, vanished_by_mode, vanished_object, with_object, with_objects}
use Rattle.apply_prior.specs.Prior.{object_view}
use Rattle.apply_prior.proofs.Lists.{kept_more}

-- ---- one object more

with_end : (before objects : List ObjectOfPlan) (more : ObjectOfPlan) → with_objects before (objects ++ more ∷ []) ≡ with_object (with_objects before objects) more
with_end before [] more = refl
with_end before (first ∷ objects) more = with_end (with_object before first) objects more

pub with_more : {X : Type 0} (f : X → Option ObjectOfPlan) (before : List ObjectOfPlan) (xs : List X) (i : ℕ) (x : X) (more : ObjectOfPlan) → i < length xs → x ≡ get_or xs i x → f x ≡ Some more
    → with_object (with_objects before (filter_map f (take i xs))) more ≡ with_objects before (filter_map f (take (i + 1) xs))
with_more f before xs i x more below read is =
    sym (with_end before (filter_map f (take i xs)) more) ∙ ap (with_objects before) (sym (kept_more f xs i x (Some more) below read is))

new_object : (before : List ObjectOfPlan) (more : ObjectOfPlan) → list_any (is_same_object more.object) (map (λ prior. prior.object) before) ≡ false → with_object before more ≡ before ++ more ∷ []
new_object before more is = rw is refl

-- what is stored, and the set, once an object was new
pub gathered : (seen new : ObjectSet) (id : ObjectId) (more : ObjectOfPlan) (before : List ObjectOfPlan) (olds news : List PriorObject) (made : PriorObject) (fresh : Bool) → id.address.now ≡ more.object.address
    → option_copied id.deposed ≡ more.object.deposed → HaveBeenSeen seen (map (λ prior. prior.object) before) → fresh ≡ not (has_object seen id) → fresh ≡ true
    → ((other : ObjectId) → has_object new other ≡ (is_same_id id other || has_object seen other)) → map object_view olds ≡ before → news ≡ olds ++ made ∷ [] → object_view made ≡ more
    → (map object_view news ≡ with_object before more) × HaveBeenSeen new (map (λ prior. prior.object) (with_object before more))
gathered seen new id more before olds news made fresh address deposed set is new_one grown stored pushed viewed =
    let objects : List ResourceChange = map (λ (prior : ObjectOfPlan). prior.object) before in
    let alone : with_object before more ≡ before ++ more ∷ [] = new_object before more (was_not_named id more.object address deposed seen objects fresh set is new_one) in (
      ap (map object_view) pushed ∙ map-append object_view olds (made ∷ []) ∙ ap (λ os. os ++ object_view made ∷ []) stored ∙ ap (λ o. before ++ o ∷ []) viewed ∙ sym alone,
      subst (λ cs. HaveBeenSeen new cs) (sym (ap (map (λ (prior : ObjectOfPlan). prior.object)) alone ∙ map-append (λ (prior : ObjectOfPlan). prior.object) before (more ∷ []))) (seen_more id more.object address deposed seen new objects set grown),
    )

-- ---- an object, by its parts

abbrev pub with_id : ResourceChange → List (List ℕ) → Option (List ℕ) → ObjectOfPlan
with_id object depends_on id = record { object = object; depends_on = depends_on; id_before = id }

module _ (drifts : List Drift) where
  pub placed_as : (address : List ℕ) (d : Data) (object : ResourceChange) (ds : List Data) → Some object ≡ state_object address d → ds ≡ items_at (codes "depends_on") d
      → placed_object drifts (address, d) ≡ Some (prior_object drifts object (filter_map as_str ds))
  placed_as address d object ds is listed =
      ap (option_map (λ o. prior_object drifts o (filter_map as_str (items_at (codes "depends_on") d)))) (sym is) ∙ ap (λ es. Some (prior_object drifts object (filter_map as_str es))) (sym listed)

  pub not_placed : (address : List ℕ) (d : Data) → None ≡ state_object address d → placed_object drifts (address, d) ≡ None
  not_placed address d is = ap (option_map (λ o. prior_object drifts o (filter_map as_str (items_at (codes "depends_on") d)))) (sym is)

  pub vanished_as : (drift : Drift) (object : ResourceChange) → Some object ≡ vanished_by_mode drift.change.mode drift.change → vanished_object drifts drift ≡ Some (prior_object drifts object [])
  vanished_as drift object is = ap (option_map (λ o. prior_object drifts o [])) (sym is)

  pub not_vanished : (drift : Drift) → None ≡ vanished_by_mode drift.change.mode drift.change → vanished_object drifts drift ≡ None
  not_vanished drift is = ap (option_map (λ o. prior_object drifts o [])) (sym is)
