use Rattle.std.proofs.Common.{string_bytes}
use Rattle.std.specs.Option.{option_copied}
use Rattle.apply_address.proofs.ModuleNames.{IsLeft, left_size}
use Rattle.apply_address.proofs.module_names.plain_modules.Given as goal

abbrev pub invariant-loop-rest : goal.invariant-loop-rest
invariant-loop-rest l = IsLeft (option_copied l.rest) (string_bytes l.plain) l.text

abbrev pub decreases-loop-rest : goal.decreases-loop-rest
decreases-loop-rest l = left_size (option_copied l.rest)
