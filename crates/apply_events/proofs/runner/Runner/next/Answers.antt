use Rattle.apply_events.proofs.PlannedSteps.{has_same_step}
use Rattle.apply_events.proofs.runner.Runner.next.Goals as goal

pub returns-in-Before : goal.returns-in-Before
returns-in-Before g c = record {
  next = c.begin.ensures.next;
  has_step = has_same_step c.args.self.now.plan.now c.args.self.now.change c.args.self.now.step c.begin.result c.in-Some.ensures.has_step c.begin.ensures.place.1 c.begin.ensures.place.2;
  worker = c.begin.ensures.place.0;
  in_time = c.begin.ensures.in_time;
  course = c.begin.ensures.course;
}

pub returns-in-Running : goal.returns-in-Running
returns-in-Running g c = record {
  next = c.emit_running.ensures.next;
  has_step = has_same_step c.args.self.now.plan.now c.args.self.now.change c.args.self.now.step c.emit_running.result c.in-Some.ensures.has_step c.emit_running.ensures.place.1 c.emit_running.ensures.place.2;
  worker = c.emit_running.ensures.place.0;
  in_time = c.emit_running.ensures.in_time;
  course = c.emit_running.ensures.course;
}

pub returns-in-Noting : goal.returns-in-Noting
returns-in-Noting g c = record {
  next = c.note.ensures.next;
  has_step = has_same_step c.args.self.now.plan.now c.args.self.now.change c.args.self.now.step c.note.result c.in-Some.ensures.has_step c.note.ensures.place.1 c.note.ensures.place.2;
  worker = c.note.ensures.place.0;
  in_time = c.note.ensures.in_time;
  course = c.note.ensures.course;
}

pub returns-in-Halting : goal.returns-in-Halting
returns-in-Halting g c = record {
  next = c.halt.ensures.next;
  has_step = has_same_step c.args.self.now.plan.now c.args.self.now.change c.args.self.now.step c.halt.result c.in-Some.ensures.has_step c.halt.ensures.place.1 c.halt.ensures.place.2;
  worker = c.halt.ensures.place.0;
  in_time = c.halt.ensures.in_time;
  course = c.halt.ensures.course;
}

-- the step at hand is one that is applied
pub begin-requires-clause-step : goal.begin-requires-clause-step
begin-requires-clause-step g c = c.in-Some.ensures.step

pub begin-requires-clause-few : goal.begin-requires-clause-few
begin-requires-clause-few g c = c.in-Some.ensures.few

pub emit_running-requires-clause-step : goal.emit_running-requires-clause-step
emit_running-requires-clause-step g c = c.in-Some.ensures.step

pub emit_running-requires-clause-few : goal.emit_running-requires-clause-few
emit_running-requires-clause-few g c = c.in-Some.ensures.few

pub note-requires-clause-step : goal.note-requires-clause-step
note-requires-clause-step g c = c.in-Some.ensures.step

pub note-requires-clause-few : goal.note-requires-clause-few
note-requires-clause-few g c = c.in-Some.ensures.few

pub halt-requires-clause-step : goal.halt-requires-clause-step
halt-requires-clause-step g c = c.in-Some.ensures.step

pub halt-requires-clause-few : goal.halt-requires-clause-few
halt-requires-clause-few g c = c.in-Some.ensures.few
