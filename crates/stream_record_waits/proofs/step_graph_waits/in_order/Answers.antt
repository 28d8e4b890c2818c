use Rattle.std.proofs.Common.{eqb}
use Rattle.std.proofs.lemmas.List.Filters.{dedup_is}
use Rattle.stream_record_waits.proofs.InOrder.{in_order_is}
use Rattle.stream_record_waits.proofs.step_graph_waits.in_order.Goals as goal

pub returns : goal.returns
returns c =
    in_order_is c.args.numbers.items c.sort_unstable.new.self.items c.dedup.new.self.items c.sort_unstable.ensures.permutation c.sort_unstable.ensures.sorted
    (dedup_is eqb c.sort_unstable.new.self.items c.dedup.new.self.items c.dedup.ensures.filtered)
