use Rattle.std.proofs.Common.{◌≡◌, drop}
use Rattle.std.specs.List.{position_from}
use Rattle.apply_hooks.specs.HookCall.{call_of}
use Rattle.apply_hooks.specs.Rules.{verdict_of}
use Rattle.apply_hooks.specs.Verdict.{is_halt}
use Rattle.apply_hooks.proofs.registry.first_to_halt.Given as goal

-- the first hook that halts is the first one from here on
abbrev pub invariant-loop-number : goal.invariant-loop-number
invariant-loop-number g l =
    position_from (λ hook. is_halt (verdict_of hook.rules (call_of l.call))) l.number (drop l.number l.hooks)
    ≡ position_from (λ hook. is_halt (verdict_of hook.rules (call_of l.call))) 0 l.hooks
