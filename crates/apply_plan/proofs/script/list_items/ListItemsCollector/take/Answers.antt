use Rattle.apply_plan.proofs.Scripts.ValidItems.{found_more}
use Rattle.apply_plan.proofs.script.list_items.ListItemsCollector.take.Goals as goal

pub returns-clause-ok : goal.returns-clause-ok
returns-clause-ok g c =
    let done = c.in_ok-item.ensures.ok in
    (done.0, done.1, λ start ds holds. found_more g.T.ListItem.see g.T.ListItem.part c.args.self.now.items c.add.new.list c.in_ok-item.item ds done.0 c.in_ok-add.ensures done.2 holds)
