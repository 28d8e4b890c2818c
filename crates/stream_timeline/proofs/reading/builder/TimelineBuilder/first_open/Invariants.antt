use Rattle.std.proofs.Common.{◌≡◌, drop}
use Rattle.std.specs.List.{filter}
use Rattle.stream_timeline.specs.Steps.{first_of}
use Rattle.stream_timeline.proofs.FirstOpen.{has_action}
use Rattle.stream_timeline.proofs.reading.builder.TimelineBuilder.first_open.Given as goal

-- none of those so far has the action
abbrev pub invariant-loop-place : goal.invariant-loop-place
invariant-loop-place l =
    first_of (filter (has_action l.action l.self.timeline.steps) (drop l.place-index l.place-items))
    ≡ first_of (filter (has_action l.action l.self.timeline.steps) l.place-items)
