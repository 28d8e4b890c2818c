use Rattle.std.proofs.Common.{◌<◌, List, length, filter_map, map, arith, subst}
use Rattle.serde_json.specs.Find.{as_str}
use Rattle.serde_json.specs.View.{view}
use Rattle.apply_prior.specs.declared.placed.Placed.{Placed}
use Rattle.apply_prior.specs.Objects.{ObjectOfPlan, placed_object, prior_object, with_objects}
use Rattle.apply_prior.specs.Views.{Holds, element_view, placed_view}
use Rattle.apply_prior.proofs.Gathered.{not_placed, placed_as, with_more}
use Rattle.apply_prior.proofs.Lists.{kept_all_seen, none_more}
use Rattle.apply_prior.proofs.objects.add_placed.Goals as goal
use Rattle.apply_prior.proofs.objects.add_placed.Goals.{in-Some+in_ok-add, in_default}

pub loop-place-preserved : goal.loop-place-preserved
loop-place-preserved c drifts before holds =
    let l = c.loop-place in
    let x = c.place-item.result in
    let below : l.place-index < length c.args.placed.now = omega arith in
    let f = λ (p : Placed). placed_object drifts (placed_view p) in
    elim c.match-of_state.branch [
      | in-Some+in_ok-add w ↦
          let object = element_view w.in-Some.object in
          let ds = map view w.items_at.result.now in
          rw w.objects-is
          (subst (λ (os : List ObjectOfPlan). Holds w.add.new.objects drifts os)
          (with_more f before c.args.placed.now l.place-index x (prior_object drifts object (filter_map as_str ds)) below c.place-item.is (placed_as drifts x.module_address.now (view x.element.now) object ds w.in-Some.ensures w.items_at.ensures))
          (w.in_ok-add.ensures drifts _ (l.invariant drifts before holds)))
      | in_default w ↦
          rw w.objects-is
          (subst (λ (os : List ObjectOfPlan). Holds l.objects drifts (with_objects before os)) (none_more f c.args.placed.now l.place-index x below c.place-item.is (not_placed drifts x.module_address.now (view x.element.now) w.in_default.ensures))
          (l.invariant drifts before holds))
    ]

pub returns : goal.returns
returns c drifts before holds =
    subst (λ (os : List ObjectOfPlan). Holds c.loop-place.objects drifts (with_objects before os)) (kept_all_seen placed_view (placed_object drifts) c.args.placed.now c.loop-place.place-index c.loop-place-test.false)
    (c.loop-place.invariant drifts before holds)
