-- The verdict of a hook.
use Rattle.std.specs.Prelude.{Bool, true, false}
use Rattle.apply_hooks.specs.declared.verdict.Verdict.{Verdict}
use Rattle.apply_hooks.specs.declared.verdict.Verdict.TheVariants.{Continue, Halt}

-- The verdict is `Halt`.
abbrev pub is_halt : Verdict → Bool
is_halt Halt = true
is_halt Continue = false
