-- Lists of hooks. Each hook is known by its rules.
use Rattle.std.specs.Prelude.{◌≡◌, ℕ, ◌<◌, List, [], length, position, Option, slice_index_or}
use Rattle.apply_hooks.specs.HookCall.{Call}
use Rattle.apply_hooks.specs.Rules.{verdict_of}
use Rattle.apply_hooks.specs.Verdict.{is_halt}
use Rattle.apply_hooks.specs.declared.rule.Rule.{Rule}
use Rattle.apply_hooks.specs.declared.verdict.Verdict.TheVariants.{Continue, Halt}

-- The most hooks in a registry.
abbrev pub max_hooks : ℕ
max_hooks = 32

-- The number of the first hook with the verdict `Halt`; none where no hook has it.
abbrev pub first_halting : List (List Rule) → Call → Option ℕ
first_halting hooks call = position (λ rules. is_halt (verdict_of rules call)) hooks

-- The hook of that number halts the call, and no hook before it does.
pub record IsFirstHalting (hooks : List (List Rule)) (call : Call) (number : ℕ) : Type 0 where
  pub below : number < length hooks
  pub halts : verdict_of (slice_index_or hooks number []) call ≡ Halt
  pub before : (earlier : ℕ) → earlier < number → verdict_of (slice_index_or hooks earlier []) call ≡ Continue
