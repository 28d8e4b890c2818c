use Rattle.std.proofs.Common.{◌≡◌, ℕ, List, None, Option}
use Rattle.std.specs.BinaryHeap.{heap_items}
use Rattle.apply_model.specs.declared.script.wait.Wait.{Wait}
use Rattle.apply_events.specs.declared.lanes.lane_time.LaneTime.{LaneTime}
use Rattle.apply_events.specs.Waits.Queue.{HasPlace, IsChain, IsQueue, Stands, with_step_done}
use Rattle.apply_events.proofs.lanes.queue.Queue.complete.Given as goal

abbrev pub decreases-loop-place : goal.decreases-loop-place
decreases-loop-place l = l.place

abbrev pub invariant-loop-place : goal.invariant-loop-place
invariant-loop-place l = record {
  same : l.self.followers ≡ l.fn.self.followers;
  left : (limit : ℕ) (names : List (List Wait)) (done : Wait → Option LaneTime) (started : List ℕ)
      → HasPlace l.fn.step limit → IsQueue limit names done started l.fn.self → done l.fn.step ≡ None
      → (left : List ℕ) × IsChain l.self.followers.all.items l.place left
      × Stands names (with_step_done done l.fn.step l.fn.at) left l.later started l.self.waiting.items (heap_items l.self.ready);
}
