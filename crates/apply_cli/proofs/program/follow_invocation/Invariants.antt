use Rattle.std.proofs.Common.{◌≡◌, take}
use Rattle.apply_hooks.specs.Registry.{rules_of}
use Rattle.apply_cli_args.specs.Halt.{hooks_of_halts}
use Rattle.apply_cli.proofs.program.follow_invocation.Given as goal

-- the hooks are those of the halts so far, and no error was reported
abbrev pub invariant-loop-halt : goal.invariant-loop-halt
invariant-loop-halt g l = (rules_of l.registry ≡ hooks_of_halts (take l.halt-index l.invocation.settings.halts.items)) × (l.faults ≡ l.initial.faults)
