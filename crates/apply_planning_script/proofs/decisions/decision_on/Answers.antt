use Rattle.std.proofs.Common.{None, Some, option_map, refl, sym, ap, ◌∙◌}
use Rattle.std.specs.Borrow.{Bor}
use Rattle.apply_planning_script.specs.declared.raw_item.RawItem.{RawItem}
use Rattle.apply_planning_script.specs.ItemSlots.{item_view, object_of_raw}
use Rattle.apply_planning_script.specs.Objects.{ObjectName, number_in}
use Rattle.apply_planning_script.proofs.Decided.{decided, named}
use Rattle.apply_planning_script.proofs.decisions.decision_on.Goals as goal

pub returns-in-Some : goal.returns-in-Some
returns-in-Some c = λ plan has.
    decided c.args.expected.now.rules plan c.args.items.now c.args.object.now c.get-number.result _ (Some (item_view c.in-Some.item.now))
    (c.get-number.ensures ∙ c.requires c.of_change.result ∙ ap (λ (o : ObjectName). number_in object_of_raw c.args.items.now o) (named c.of_change.result c.args.object.now c.of_change.ensures.address c.of_change.ensures.deposed))
    (ap (option_map (λ (i : Bor RawItem). item_view i.now)) (sym c.in-Some.is) ∙ c.item_at.ensures)
    refl

pub returns-in-None : goal.returns-in-None
returns-in-None c = λ plan has.
    decided c.args.expected.now.rules plan c.args.items.now c.args.object.now c.get-number.result _ None
    (c.get-number.ensures ∙ c.requires c.of_change.result ∙ ap (λ (o : ObjectName). number_in object_of_raw c.args.items.now o) (named c.of_change.result c.args.object.now c.of_change.ensures.address c.of_change.ensures.deposed))
    (ap (option_map (λ (i : Bor RawItem). item_view i.now)) (sym c.in-None.is) ∙ c.item_at.ensures)
    (c.has-is_told.ensures plan has)
