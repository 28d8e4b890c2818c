use Rattle.std.proofs.Common.{◌≡◌, ◌∙◌, ap, length, refl, rules}
use Rattle.apply_events.specs.Waits.Merging.{time_line}
use Rattle.apply_planning.specs.PlanningWork.{planning_work}
use Rattle.apply_planning_failures.specs.Planning.{AreBegun, planning_notes}
use Rattle.apply_command.specs.Prepared.{command_view}
use Rattle.apply_command.specs.Reading.{failed, planning}
use Rattle.apply_command.proofs.MadeOfPlanning as made
use Rattle.apply_command.proofs.preparing.prepare.Goals as goal

pub invariant_of-result-3-clause-counted : goal.invariant_of-result-3-clause-counted
invariant_of-result-3-clause-counted c =
    let told = c.args.read.told.items in
    let course = rw (c.deref-2.ensures.value) at c.in_ok-failures.ensures in
    course.count ∙ ap (λ lanes. length (time_line (planning_work told) lanes)) c.in_ok-schedule.ensures.lanes

pub returns : goal.returns
returns c =
    let read = command_view c.args.read in
    let schedule = c.in_ok-schedule.schedule in
    let events = time_line (planning_work read.told) schedule.lanes in
    let events_are : events ≡ time_line (planning_work read.told) c.args.lanes = ap (time_line (planning_work read.told)) c.in_ok-schedule.ensures.lanes in
    let course = rw (c.deref-2.ensures.value) at c.in_ok-failures.ensures in
    let failures = c.in_ok-failures.field-0.notes.items in
    let failures_are : failures ≡ planning_notes (made.made_of read.told events) = course.notes in
    let begun : AreBegun (made.made_of read.told events) c.in_ok-failures.field-0.begun.items = course.begun in
    let part = rw (c.deref-5.ensures.value, c.deref-6.ensures.value, c.deref-7.ensures.value, c.deref-8.ensures.value) at c.in_ok-part.ensures in
    let severe = made.severe_is c.args.command c.args.lanes read events events_are failures c.has_error-is_severe.result failures_are
    (rw (c.deref-3.ensures.value) at c.has_error-is_severe.ensures) in
    let failed_is : c.has_failed-failed.result ≡ failed c.args.command c.args.lanes read = c.has_failed-failed.ensures (planning_notes (planning c.args.command c.args.lanes read)) severe in
    record {
      plan = search rules;
      script = search rules;
      details = refl;
      drifts = refl;
      planned_outputs = refl;
      told = refl;
      totals = made.totals_are c.args.command c.args.lanes read events events_are c.has_failed-failed.result failed_is c.in_ok-part.part.totals (part.totals events begun);
      took = made.took_is c.args.command c.args.lanes read events events_are c.ends_at-took.result
          (c.ends_at-took.ensures.end read.told (rw (c.deref.ensures.value) at c.in_ok-schedule.ensures.planned));
      scheduled = rw (c.deref.ensures.value) at c.in_ok-schedule.ensures.planned;
      in_lanes = c.in_ok-schedule.ensures.lanes;
      lines = made.lines_are c.args.command c.args.lanes read events events_are c.tells_plan-is_told.result (search rules) c.in_ok-part.part.drifts.items c.in_ok-part.part.changes.items
          (made.drifts_are c.args.command c.args.lanes read events events_are c.has_failed-failed.result failed_is c.in_ok-part.part.drifts.items (part.drifts events begun))
          (made.changes_are c.args.command c.args.lanes read events events_are c.has_failed-failed.result failed_is c.in_ok-part.part.changes.items (part.changes events begun))
          c.in_ok-plan_lines.plan_lines.items (rw (c.deref-9.ensures.value, c.deref-10.ensures.value, c.deref-11.ensures.value) at c.in_ok-plan_lines.ensures.lines);
      applies = search rules;
      no_changes = search rules;
      no_script = search rules;
      notes = search rules;
      outputs = search rules;
    }
