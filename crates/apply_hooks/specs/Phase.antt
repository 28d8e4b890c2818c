-- The phases in which hooks are called.
use Rattle.std.specs.Prelude.{Bool, true, false}
use Rattle.apply_hooks.specs.declared.phase.Phase.{Phase}
use Rattle.apply_hooks.specs.declared.phase.Phase.TheVariants.{Pre, PostDone, PostFailed}

-- whether two phases are the same
abbrev pub is_phase : Phase → Phase → Bool
is_phase Pre Pre = true
is_phase PostDone PostDone = true
is_phase PostFailed PostFailed = true
is_phase _ _ = false
