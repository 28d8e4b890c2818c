use Rattle.std.proofs.Common.{◌≡◌, arith, rules}
use Rattle.std.specs.Ordering.{is_lt}
use Rattle.std.proofs.lemmas.Fn.{always_returns_same}
use Rattle.std.proofs.lemmas.List.Sorted.{sorted_far}
use Rattle.stream_timeline.specs.RowsByLength.{is_longer}
use Rattle.stream_timeline.proofs.ByLength.{longer_is_order}
use Rattle.stream_timeline.proofs.rows.by_length.longest_first.Goals as goal

pub returns-clause-ordered : goal.returns-clause-ordered
returns-clause-ordered c = λ i j d l k.
    sorted_far is_longer longer_is_order c.sort_by.new.self.items
    (c.in_ok-sort_by.ensures.sorted is_longer longer_is_order (always_returns_same _ (λ a r. is_lt r ≡ is_longer a.0.now a.1.0.now) _ (λ a r q k. search rules)))
    i j d (omega (arith, l)) k
