use Rattle.std.proofs.Common.{◌≡◌, arith, length, subst, ℕ}
use Rattle.stream_record_waits.specs.Basis.{basis_of}
use Rattle.stream_record_waits.specs.Steps.{lists_in}
use Rattle.stream_record_waits.specs.Waiters.{AreFirstWaiters}
use Rattle.stream_record_waits.proofs.Joining.{more_waiters}
use Rattle.stream_record_waits.proofs.waiters.waiters_of.Goals as goal

pub loop-step-preserved : goal.loop-step-preserved
loop-step-preserved c =
    more_waiters (basis_of c.args.basis.now) c.loop-step.step (lists_in c.loop-step.waiters.items) (lists_in c.add_all_waits.new.waiters.items) c.loop-step.invariant c.in_ok-add_all_waits.ensures

pub returns : goal.returns
returns c =
    let most = c.loop-step.auto.step-end in
    let least = c.loop-step-test.false in
    subst (λ (count : ℕ). AreFirstWaiters (basis_of c.args.basis.now) count (lists_in c.loop-step.waiters.items))
    (let all : c.loop-step.step ≡ length c.args.basis.now.steps.now = omega (arith, most, least) in all) c.loop-step.invariant
