-- The answer of all hooks together.
use Rattle.std.specs.Prelude.{ℕ, Option}
use Rattle.std.specs.Option.{option_map_or}
use Rattle.apply_hooks.specs.declared.asked.Asked.{Asked}
use Rattle.apply_hooks.specs.declared.asked.Asked.TheVariants.{Go, HaltedBy}

-- The answer, where this is the first hook that halts, or no hook does.
abbrev pub asked_of : Option ℕ → Asked
asked_of first = option_map_or HaltedBy first Go
