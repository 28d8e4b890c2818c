use Rattle.std.proofs.Common.{◌≡◌, false, take}
use Rattle.std.specs.List.{list_any}
use Rattle.stream_record_waits.specs.States.{holds_up}
use Rattle.stream_record_waits.proofs.states.is_explained.Given as goal

abbrev pub invariant-loop-other : goal.invariant-loop-other
invariant-loop-other l = list_any (holds_up l.steps) (take l.other-index l.after) ≡ false
