use Rattle.std.proofs.Common.{◌≡◌, map, take}
use Rattle.stream_record_waits.specs.Basis.{first_mark}
use Rattle.stream_record_waits.specs.Steps.{lists_in}
use Rattle.stream_record_waits.proofs.schedule.first_marks.Given as goal

abbrev pub invariant-loop-waits : goal.invariant-loop-waits
invariant-loop-waits l = l.marks.items ≡ map first_mark (lists_in (take l.waits-index l.after))
