use Rattle.std.proofs.Common.{◌∷◌, ◌++◌, ◌<◌, [], Some, length, take, ap, subst, ◌∙◌, arith}
use Rattle.input_validate.specs.FirstNamed.{AreFirst, of_objects}
use Rattle.input_validate.specs.ObjectNames.{Named}
use Rattle.input_validate.proofs.PriorNames.{objects_in, one_more, so_many}
use Rattle.input_validate.proofs.planning.known_objects.KnownObjects.of.Goals as goal

pub loop-number-preserved : goal.loop-number-preserved
loop-number-preserved c =
    let objects = c.args.objects.now in
    let number = c.loop-number.number in
    let prior = c.index-objects-number.result in
    let below : number < length objects = omega arith in
    subst (λ names. AreFirst c.push.new.self names)
    (ap (λ (name : Named). of_objects (objects_in (take number objects)) ++ Some name ∷ []) c.object_of.ensures ∙ one_more objects number prior below c.index-objects-number.is)
    (c.in_ok-push.ensures (of_objects (objects_in (take number objects))) c.loop-number.invariant (so_many objects number below))
