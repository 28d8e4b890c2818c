use Rattle.std.proofs.Common.{◌*◌, [], map, take}
use Rattle.apply_events.specs.Waits.Queue.{IsQueue, none_done, turn_waits}
use Rattle.apply_events.proofs.lanes.queue.Queue.new.Given as goal

abbrev pub invariant-loop-turn : goal.invariant-loop-turn
invariant-loop-turn l = IsQueue (2 * l.fn.changes) (map (turn_waits l.script) (take l.turn-index l.turns)) none_done [] l.queue
