use Rattle.std.proofs.Common.{◌<◌, List, [], length, arith, subst}
use Rattle.apply_prior.specs.Objects.{ObjectOfPlan, prior_object, vanished_object, with_objects}
use Rattle.apply_prior.specs.Views.{Holds, element_view}
use Rattle.apply_prior.proofs.Gathered.{not_vanished, vanished_as, with_more}
use Rattle.apply_prior.proofs.Lists.{none_more}
use Rattle.apply_prior.proofs.objects.add_vanished.Goals as goal
use Rattle.apply_prior.proofs.objects.add_vanished.Goals.{in-Some+in_ok-add, in_default}

pub loop-drift-preserved : goal.loop-drift-preserved
loop-drift-preserved c drifts before holds =
    let l = c.loop-drift in
    let x = c.drift-item.result in
    let below : l.drift-index < length c.args.vanished.now = omega arith in
    elim c.match-of_vanished.branch [
      | in-Some+in_ok-add w ↦
          let object = element_view w.in-Some.object in
          rw w.objects-is
          (subst (λ (os : List ObjectOfPlan). Holds w.add.new.objects drifts os)
          (with_more (vanished_object drifts) before c.args.vanished.now l.drift-index x (prior_object drifts object []) below c.drift-item.is (vanished_as drifts x object w.in-Some.ensures)) (w.in_ok-add.ensures drifts _ (l.invariant drifts before holds)))
      | in_default w ↦
          rw w.objects-is
          (subst (λ (os : List ObjectOfPlan). Holds l.objects drifts (with_objects before os)) (none_more (vanished_object drifts) c.args.vanished.now l.drift-index x below c.drift-item.is (not_vanished drifts x w.in_default.ensures))
          (l.invariant drifts before holds))
    ]
