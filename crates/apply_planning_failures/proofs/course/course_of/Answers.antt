use Rattle.std.proofs.Common.{◌∙◌, ◌<◌, length, subst}
use Rattle.apply_events.specs.Waits.Merging.{time_line}
use Rattle.apply_planning.specs.PlanningWork.{planning_work}
use Rattle.apply_planning.specs.ToCome.{to_come}
use Rattle.apply_planning_failures.proofs.Courses.{one_met}
use Rattle.apply_planning_failures.proofs.Items.{got}
use Rattle.apply_planning_failures.proofs.course.course_of.Goals as goal

pub loop-event-preserved : goal.loop-event-preserved
loop-event-preserved c =
    let told = c.args.told.now in
    let event = c.in-Some.event in
    let known : event.change < length told = subst (λ ts. event.change < length ts) c.loop-event.invariant.told c.in-Some.ensures.known in
    record {
      told = c.next.ensures.told ∙ c.loop-event.invariant.told;
      met = one_met told (time_line (planning_work told) c.args.schedule.now.lanes) (to_come c.loop-event.events) (to_come c.next.new.self) event
          c.loop-event.notes.items c.push_failure.new.notes.items c.loop-event.begun.items c.loop-event.event_count c.is_note.result _
          c.in-Some.ensures.next known c.is_note.ensures (got told event.change c.get.result c.get.ensures.lookup) c.in_ok-push_failure.ensures c.loop-event.invariant.met;
    }
