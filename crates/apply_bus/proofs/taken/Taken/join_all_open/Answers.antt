use Rattle.std.proofs.Common.{◌++◌, All, List, map, ap, sym, ◌∙◌, subst, arith}
use Rattle.std.specs.Vec.Iter.{into_iter_items}
use Rattle.std.proofs.lemmas.Grind.{common_steps}
use Rattle.apply_bus.specs.Bus.{Account, Sender, sent_list_of, IsTakenInPart}
use Rattle.apply_bus.proofs.Seen.{all_seen}
use Rattle.apply_bus.proofs.Settling.{account_more, all_sent_lists_more, bus_at}
use Rattle.apply_bus.proofs.taken.Taken.join_all_open.Goals as goal

pub join_unclosed-requires : goal.join_unclosed-requires
join_unclosed-requires c =
    let i = c.loop-tx.invariant in
    bus_at _ c.loop-tx.yielded (into_iter_items c.next.new.self) c.args.«open».items c.in-Some.tx
    (sym (ap (λ l. c.loop-tx.yielded ++ l) c.in-Some.ensures.steps.0) ∙ i.left ∙ c.into_iter-tx-iterator.ensures.into_iter_gives.0) c.requires
    ∙ sym (ap (λ (a : Account). a.bus) i.joined)

pub loop-tx-preserved : goal.loop-tx-preserved
loop-tx-preserved c = let i = c.loop-tx.invariant in let e = c.join_unclosed.ensures in let s = c.in-Some.tx in let seen = c.loop-tx.yielded in record {
  left = grind (arith, common_steps);
  count = grind (arith, common_steps);
  joined = account_more c.args.self.now c.loop-tx.self _ seen s i.joined e.joined;
  part = all_sent_lists_more (IsTakenInPart c.args.self.now.taken) seen s i.part (subst (λ (a : Account). IsTakenInPart a.taken (sent_list_of s)) i.joined e.part);
}

pub returns-clause-part : goal.returns-clause-part
returns-clause-part c =
    let i = c.loop-tx.invariant in
    let all = all_seen _ _ _ _ (i.left ∙ c.into_iter-tx-iterator.ensures.into_iter_gives.0) i.count c.in-None.ensures.steps.0 in
    subst (λ (l : List Sender). All (IsTakenInPart c.args.self.now.taken) (map sent_list_of l)) all i.part
