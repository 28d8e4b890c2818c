use Rattle.std.specs.Prelude.{◌≡◌, ◌++◌, map, take}
use Rattle.clap.specs.Walk.{texts}
use Rattle.apply_cli_args.specs.CommandLine.{kind_of_word}
use Rattle.apply_cli_args.specs.declared.halt.Halt.TheVariants.{Before, Inside}
use Rattle.apply_cli_args.proofs.arguments.halts_of.Given as goal

abbrev pub invariant-loop-kind : goal.invariant-loop-kind
invariant-loop-kind l = l.halts.items ≡ map (λ word. Before (kind_of_word word)) (texts (take l.kind-index l.kind-items))

abbrev pub invariant-loop-prefix : goal.invariant-loop-prefix
invariant-loop-prefix l = l.halts.items ≡ l.initial.halts.items ++ map Inside (texts (take l.prefix-index l.prefix-items))
