use Rattle.std.proofs.Common.{List, Ok, map, sym, ap}
use Rattle.apply_planning_script.specs.Told.{ToldObject, told_view}
use Rattle.apply_planning_script.proofs.AllTold.{all_are}
use Rattle.apply_planning_script.proofs.Decided.{planned}
use Rattle.apply_planning_script.proofs.all_told.told_objects.Goals as goal

pub returns : goal.returns
returns c =
    let said = rw c.deref.ensures.value at c.in_ok-items.ensures.items in
    let knows = rw c.deref.ensures.value at c.in_ok-items.ensures.known in
    let decided = rw (c.deref-2.ensures.value, c.deref-3.ensures.value) at c.in_ok-decisions.ensures in
    let first = rw (c.deref-4.ensures.value, c.deref-5.ensures.value) at c.in_ok-told.ensures in
    let all = rw (c.deref-6.ensures.value, c.deref-7.ensures.value) at c.in_ok-add_unknown.ensures in
    rw said
    (ap (λ (told : List ToldObject). Ok told)
    (sym (all_are c.args.rules (planned c.args.plan.now.changes c.args.details.now c.args.drifts.now) c.args.objects.items c.in_ok-items.items.items c.in_ok-decisions.decisions.items c.in_ok-items.known.items
    (map told_view c.in_ok-told.told.items) (map told_view c.add_unknown.new.told.items) decided knows first all)))
