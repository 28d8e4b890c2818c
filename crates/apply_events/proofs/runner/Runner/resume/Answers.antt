use Rattle.std.proofs.Common.{arith}
use Rattle.apply_hooks.specs.Registry.{rules_of}
use Rattle.apply_events.proofs.Resumed.{resumed_time}
use Rattle.apply_events.proofs.runner.Runner.resume.Goals as goal

pub overflow_sub-result : goal.overflow_sub-result
overflow_sub-result g c =
    let time = resumed_time (record { plan = c.args.plan.now; script = c.args.script.now; hooks = rules_of c.args.registry.now }) c.args.change c.requires.has_step c.requires.went_on in
    let late = c.requires.late in
    let before = c.first_seconds-before.ensures.seconds in
    omega arith

pub invariant_of-result-clause-soon : goal.invariant_of-result-clause-soon
invariant_of-result-clause-soon g c =
    let few = c.first_seconds-before.ensures.few in
    omega arith

pub invariant_of-result-clause-on_time : goal.invariant_of-result-clause-on_time
invariant_of-result-clause-on_time g c =
    let time = resumed_time (record { plan = c.args.plan.now; script = c.args.script.now; hooks = rules_of c.args.registry.now }) c.args.change c.requires.has_step c.requires.went_on in
    let late = c.requires.late in
    let before = c.first_seconds-before.ensures.seconds in
    omega arith
