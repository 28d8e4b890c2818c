use Rattle.std.proofs.Common.{◌∙◌, ◌≤◌, ◌*◌, ◌+◌, ap, arith, length, refl, subst, sym}
use Rattle.stream_record_waits.specs.Basis.{IsCourse, basis_of, course_of, most_rounds}
use Rattle.stream_record_waits.specs.Course.{Course, after_next, first_ready, turns_of}
use Rattle.stream_record_waits.specs.ReadyTurns.{AreRenewed, IsAffected}
use Rattle.stream_record_waits.specs.Steps.{lists_in}
use Rattle.stream_record_waits.proofs.Seconds.{all_short}
use Rattle.stream_record_waits.proofs.InTime.{after_one, ends_early, more_rounds, round_course}
use Rattle.stream_record_waits.proofs.RoundTurns.{marks_after, no_step, step_known, turns_after}
use Rattle.stream_record_waits.proofs.schedule.schedule.Goals as goal

-- a round that finds no turn changes nothing
pub returns-in_default-clause-course : goal.returns-in_default-clause-course
returns-in_default-clause-course c =
    let basis = basis_of c.args.basis.now in
    let old = course_of c.loop-round.course in
    let few : c.loop-round.round ≤ 2 * length basis.steps = omega arith in
    ends_early basis c.args.lanes c.loop-round.round old (course_of c.round.new.self) c.loop-round.invariant.rounds c.round.ensures.course
    (c.round.ensures.course ∙ ap (after_next basis old) (no_step (first_ready basis old (turns_of basis)) c.in_default.ensures.step)) few

pub returns-in_default-clause-pinned : goal.returns-in_default-clause-pinned
returns-in_default-clause-pinned c =
    let basis = basis_of c.args.basis.now in
    let old = course_of c.loop-round.course in
    ap (λ (course : Course). length course.pinned) (c.round.ensures.course ∙ ap (after_next basis old) (no_step (first_ready basis old (turns_of basis)) c.in_default.ensures.step))
    ∙ c.loop-round.invariant.course.pinned

-- a round that finds one
pub renew_after-requires-clause-course : goal.renew_after-requires-clause-course
renew_after-requires-clause-course c =
    let basis = basis_of c.args.basis.now in
    let old = course_of c.loop-round.course in
    let few = c.requires.sound.few in
    let round = c.loop-round-test.true in
    subst (IsCourse basis most_rounds) (sym c.round.ensures.course)
    (more_rounds basis (c.loop-round.round + 1) most_rounds (after_next basis old (first_ready basis old (turns_of basis)))
    (round_course basis c.requires.sound (all_short basis c.seconds_are_short.ensures) c.loop-round.round old c.loop-round.invariant.course (first_ready basis old (turns_of basis)) refl)
    (omega (arith, few, round)))

pub renew_after-requires-clause-marks : goal.renew_after-requires-clause-marks
renew_after-requires-clause-marks c =
    marks_after (basis_of c.args.basis.now) (course_of c.loop-round.course) (course_of c.round.new.self) c.in-Some.step c.in-Some.ensures.step c.round.ensures.course c.loop-round.round
    c.loop-round.invariant.course c.loop-round.marks.items c.loop-round.invariant.marks

pub renew_after-requires-clause-step : goal.renew_after-requires-clause-step
renew_after-requires-clause-step c =
    step_known (basis_of c.args.basis.now) (course_of c.loop-round.course) (course_of c.round.new.self) c.in-Some.step c.in-Some.ensures.step c.round.ensures.course

pub loop-round-preserved : goal.loop-round-preserved
loop-round-preserved c =
    let basis = basis_of c.args.basis.now in
    let old = course_of c.loop-round.course in
    let new = course_of c.round.new.self in
    record {
      rounds = after_one basis c.args.lanes c.loop-round.round old new c.loop-round.invariant.rounds c.round.ensures.course;
      course = subst (IsCourse basis (c.loop-round.round + 1)) (sym c.round.ensures.course)
          (round_course basis c.requires.sound (all_short basis c.seconds_are_short.ensures) c.loop-round.round old c.loop-round.invariant.course (first_ready basis old (turns_of basis)) refl);
      marks = c.renew_after.ensures.marks;
      turns = turns_after basis old new c.in-Some.step c.in-Some.ensures.step c.round.ensures.course (lists_in c.in_ok-waiters.waiters.items) c.in_ok-waiters.ensures
          c.loop-round.turns c.renew_after.new.turns c.loop-round.invariant.turns
          (subst (λ rows. AreRenewed basis new c.loop-round.turns c.renew_after.new.turns (IsAffected basis (lists_in rows) c.in-Some.step)) c.as_slice.ensures.value c.renew_after.ensures.turns);
    }
