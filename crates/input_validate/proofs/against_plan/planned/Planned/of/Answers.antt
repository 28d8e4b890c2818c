use Rattle.std.proofs.Common.{◌∷◌, ◌++◌, [], Some, None, take, ap, subst, ◌∙◌}
use Rattle.input_validate.specs.FirstNamed.{AreFirst, at_addresses, of_objects}
use Rattle.input_validate.specs.ObjectNames.{Named}
use Rattle.input_validate.proofs.FirstNames.{address_of, object_of, one_more, so_many}
use Rattle.input_validate.proofs.against_plan.planned.Planned.of.Goals as goal

pub loop-number-preserved : goal.loop-number-preserved
loop-number-preserved c =
    let changes = c.args.plan.now.changes in
    let number = c.loop-number.number in
    let change = c.change-change.result.now in
    record {
      objects = subst (λ names. AreFirst c.push.new.self names)
          (ap (λ (name : Named). of_objects (take number changes) ++ Some name ∷ []) c.object_of.ensures ∙ one_more object_of changes number change c.change-change.ensures)
          (c.in_ok-push.ensures (of_objects (take number changes)) c.loop-number.invariant.objects (so_many object_of changes number change c.change-change.ensures));
      addresses = subst (λ names. AreFirst c.push-in-loop-number.new.self names)
          (ap (λ (name : Named). at_addresses (take number changes) ++ Some name ∷ []) (c.at_address.ensures ∙ ap (λ address. let n : Named = (address, None) in n) c.address.ensures) ∙ one_more address_of changes number change c.change-change.ensures)
          (c.in_ok-push-2.ensures (at_addresses (take number changes)) c.loop-number.invariant.addresses (so_many address_of changes number change c.change-change.ensures));
    }
