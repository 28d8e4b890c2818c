use Rattle.std.proofs.Common.{◌∙◌, ◌+◌, sym}
use Rattle.stream_record_waits.specs.Basis.{basis_of, course_of}
use Rattle.stream_record_waits.specs.Steps.{lists_in}
use Rattle.stream_record_waits.proofs.Renewed.{affected_alone, affected_both, joined_within, waiters_known, waiters_row}
use Rattle.stream_record_waits.proofs.course.LaneCourse.renew_after.Goals as goal

pub renew_all-requires-clause-steps : goal.renew_all-requires-clause-steps
renew_all-requires-clause-steps c =
    waiters_known (basis_of c.args.basis.now) c.args.waiters.now c.args.step c.index-waiters-step.result c.as_slice.result.now c.requires.waiters c.requires.step c.index-waiters-step.is c.as_slice.ensures.value

pub renew_all-requires-then-is_joined-clause-steps : goal.renew_all-requires-then-is_joined-clause-steps
renew_all-requires-then-is_joined-clause-steps c =
    let basis = basis_of c.args.basis.now in
    let within = joined_within basis c.requires.sound (c.args.step + 1) (sym c.is_joined.ensures ∙ c.if-is_joined.true) in
    waiters_known basis c.args.waiters.now (c.args.step + 1) c.index-waiters-second.result c.as_slice-then-is_joined.result.now c.requires.waiters within c.index-waiters-second.is c.as_slice-then-is_joined.ensures.value

pub returns-then-is_joined-clause-turns : goal.returns-then-is_joined-clause-turns
returns-then-is_joined-clause-turns c =
    let basis = basis_of c.args.basis.now in
    let step = c.args.step in
    let rows = c.args.waiters.now in
    let within = joined_within basis c.requires.sound (step + 1) (sym c.is_joined.ensures ∙ c.if-is_joined.true) in
    affected_both basis (course_of c.args.self.now) (lists_in rows) c.as_slice.result.now c.as_slice-then-is_joined.result.now step c.args.turns.now c.renew.new.turns c.renew_all.new.turns
    c.renew_all-then-is_joined.new.turns (waiters_row basis rows step c.index-waiters-step.result c.as_slice.result.now c.requires.waiters c.requires.step c.index-waiters-step.is c.as_slice.ensures.value)
    (waiters_row basis rows (step + 1) c.index-waiters-second.result c.as_slice-then-is_joined.result.now c.requires.waiters within c.index-waiters-second.is c.as_slice-then-is_joined.ensures.value)
    c.renew.ensures.turns c.renew_all.ensures.turns c.renew_all-then-is_joined.ensures.turns

pub returns-else-is_joined-clause-turns : goal.returns-else-is_joined-clause-turns
returns-else-is_joined-clause-turns c =
    let basis = basis_of c.args.basis.now in
    let step = c.args.step in
    let rows = c.args.waiters.now in
    affected_alone basis (course_of c.args.self.now) (lists_in rows) c.as_slice.result.now step c.args.turns.now c.renew.new.turns c.renew_all.new.turns
    (waiters_row basis rows step c.index-waiters-step.result c.as_slice.result.now c.requires.waiters c.requires.step c.index-waiters-step.is c.as_slice.ensures.value)
    (sym c.is_joined.ensures ∙ c.if-is_joined.false) c.renew.ensures.turns c.renew_all.ensures.turns
