use Rattle.std.proofs.Common.{◌++◌, ◌∷◌, [], length, append_assoc, ap, sym, ◌∙◌, arith}
use Rattle.std.specs.Vec.Iter.{into_iter_items}
use Rattle.apply_bus.specs.Claims.{JoinedDrawers}
use Rattle.apply_bus.proofs.dealt_numbers.finish.Goals as goal

pub loop-drawer-preserved : goal.loop-drawer-preserved
loop-drawer-preserved c =
    let i = c.loop-drawer.invariant in
    let steps = c.in-Some.ensures.steps in
    let seen = c.loop-drawer.yielded in
    let drawer = c.in-Some.drawer in
    record {
      left = append_assoc seen (drawer ∷ []) (into_iter_items c.next.new.self) ∙ sym (ap (λ l. seen ++ l) steps.0) ∙ i.left;
      count = let same = ap length steps.0 in let one = steps.1 in let was = i.count in omega arith;
      joined = c.join.ensures ∙ ap (λ (t : JoinedDrawers). record t { drawings = t.drawings ++ drawer ∷ [] }) i.joined;
    }
