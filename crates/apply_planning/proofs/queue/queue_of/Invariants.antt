use Rattle.std.proofs.Common.{◌*◌, [], length, map, take}
use Rattle.apply_events.specs.Waits.Queue.{IsQueue, none_done}
use Rattle.apply_planning.specs.Names.{name_waits}
use Rattle.apply_planning.specs.NumberOf.{number_of}
use Rattle.apply_planning.proofs.queue.queue_of.Given as goal

abbrev pub invariant-loop-one : goal.invariant-loop-one
invariant-loop-one l = IsQueue (2 * length l.told) (map (name_waits (number_of l.names)) (take l.one-index l.told)) none_done [] l.queue
