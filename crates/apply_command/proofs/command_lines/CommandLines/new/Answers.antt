use Rattle.std.proofs.Common.{◌∙◌, ap, map}
use Rattle.apply_events.specs.Waits.Merging.{time_line}
use Rattle.apply_planning.specs.PlanningWork.{planning_work}
use Rattle.apply_command.specs.Head.{event_text}
use Rattle.apply_command.proofs.command_lines.CommandLines.new.Goals as goal

pub invariant_of-result : goal.invariant_of-result
invariant_of-result c =
    let told = c.args.prepared.now.told.items in
    let text = event_text c.args.start told in
    let events_are = rw (c.deref.ensures.value) at c.in_ok-events.ensures.events in
    record { left = ap (map text) (events_are ∙ ap (time_line (planning_work told)) c.requires.lanes) }
