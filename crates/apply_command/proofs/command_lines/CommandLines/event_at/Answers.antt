use Rattle.std.proofs.Common.{[], map}
use Rattle.apply_events.specs.Waits.Merging.{time_line}
use Rattle.apply_planning.specs.PlanningWork.{planning_work}
use Rattle.apply_planning.specs.ToCome.{to_come}
use Rattle.apply_command.specs.Head.{event_text}
use Rattle.apply_command.proofs.HeadChunks.{next_text}
use Rattle.apply_command.proofs.command_lines.CommandLines.event_at.Goals as goal

pub invariant_of-self : goal.invariant_of-self
invariant_of-self c =
    let s = c.args.self.now in let told = s.prepared.now.told.items in let text = event_text s.start told in
    record {
      left = (next_text text (to_come s.events) (to_come c.next.new.self) c.in-Some.event (map text (time_line (planning_work told) s.prepared.now.lanes)) s.place []
          c.in-Some.ensures.next s.left).1;
    }
