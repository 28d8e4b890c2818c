use Rattle.std.proofs.Common.{rules}
use Rattle.apply_hooks.specs.HookCall.{call_of}
use Rattle.apply_hooks.specs.Rules.{verdict_of}
use Rattle.apply_hooks.specs.Verdict.{is_halt}
use Rattle.apply_hooks.proofs.Positions.{position-found, position-none}
use Rattle.apply_hooks.proofs.registry.first_to_halt.Goals as goal

pub returns-then-halts-clause-first : goal.returns-then-halts-clause-first
returns-then-halts-clause-first g c = position-found (λ rules. is_halt (verdict_of rules (call_of c.args.call.now))) (λ hook. hook.rules) c.args.hooks.now c.loop-number.number c.index-hooks-number.result (search rules) c.index-hooks-number.is (search rules) c.loop-number.invariant

pub returns-clause-first : goal.returns-clause-first
returns-clause-first g c = position-none (λ rules. is_halt (verdict_of rules (call_of c.args.call.now))) (λ hook. hook.rules) c.args.hooks.now c.loop-number.number (search rules) c.loop-number.invariant
