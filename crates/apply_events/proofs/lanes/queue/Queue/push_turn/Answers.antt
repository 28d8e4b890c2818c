use Rattle.std.proofs.Common.{[], ◌∷◌, ◌++◌, ap, ◌∙◌, subst}
use Rattle.std.specs.BinaryHeap.{heap_items}
use Rattle.std.specs.List.Sorted.{IsPermutation}
use Rattle.std.specs.declared.cmp.Reverse.{Reverse}
use Rattle.apply_events.specs.declared.lanes.lane_time.LaneTime.{LaneTime}
use Rattle.apply_events.specs.declared.lanes.queue.ReadyTurn.{ReadyTurn}
use Rattle.apply_events.specs.declared.lanes.queue.Waiting.{Waiting}
use Rattle.apply_events.proofs.Waits.Building.{follow_turn, stands_ready, stands_waiting}
use Rattle.apply_events.proofs.lanes.queue.Queue.push_turn.Goals as goal

pub returns-in_ok-push-2 : goal.returns-in_ok-push-2
returns-in_ok-push-2 c = λ limit names turn last count follow stands.
    let waiting = c.args.self.now.waiting.items in
    let ready = heap_items c.args.self.now.ready in
    let more = heap_items c.push-then-missing-eq0.new.self in
    let missing = c.args.missing in
    let next = c.in_ok-push.ensures.items ∙ ap (λ (m : LaneTime). waiting ++ (let w : Waiting = record { missing = missing; at = m } in w) ∷ []) c.first-at.ensures in
    let moved = subst (λ (m : LaneTime). IsPermutation ((let r : Reverse ReadyTurn = record { 0 = record { at = m; number = c.args.number } } in r) ∷ ready) more)
    c.first-at.ensures c.in_ok-push-2.ensures.permutation in
    record {
      follow = follow_turn names turn limit c.args.number c.args.self.now.followers last follow;
      stands = stands_ready names turn waiting _ ready missing stands next count more c.args.number c.if-missing-eq0.true last moved
          (c.in_ok-push-2.ensures.heap_order stands.heap);
    }

pub returns-else-missing-eq0 : goal.returns-else-missing-eq0
returns-else-missing-eq0 c = λ limit names turn last count follow stands.
    let waiting = c.args.self.now.waiting.items in
    let missing = c.args.missing in
    let next = c.in_ok-push.ensures.items ∙ ap (λ (m : LaneTime). waiting ++ (let w : Waiting = record { missing = missing; at = m } in w) ∷ []) c.first-at.ensures in
    record {
      follow = follow_turn names turn limit c.args.number c.args.self.now.followers last follow;
      stands = stands_waiting names turn waiting _ (heap_items c.args.self.now.ready) missing stands next count c.if-missing-eq0.false;
    }
