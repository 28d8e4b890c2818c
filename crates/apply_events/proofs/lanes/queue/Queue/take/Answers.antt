use Rattle.std.specs.BinaryHeap.{heap_items}
use Rattle.apply_events.proofs.Waits.ReadyFirst.{is_started_first, is_started_out}
use Rattle.apply_events.proofs.lanes.queue.Queue.take.Goals as goal

pub returns-clause-some : goal.returns-clause-some
returns-clause-some c = λ limit names done started q.
    let queue = c.args.self.now in
    let ready = heap_items queue.ready in
    let one = c.in_ok-pop.field-0.0 in
    let h = q.stands in
    let moved = c.in_ok-pop.ensures.permutation in
    let order = c.in_ok-pop.ensures.heap_order h.heap in (
      is_started_first names done started queue.waiting.items ready h one (heap_items c.pop.new.self) moved order.1,
      record { follow = q.follow; stands = is_started_out names done started queue.waiting.items ready h one (heap_items c.pop.new.self) moved order.0 },
    )
