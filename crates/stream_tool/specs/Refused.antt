-- Why arguments are refused, and the exit status then.
use Rattle.std.specs.Prelude.{◌≡◌, ⊤, ℕ, Bool, Option, Some, None, true, false}
use Rattle.stream_tool.specs.declared.usage.Usage.{Usage}
use Rattle.stream_tool.specs.declared.usage.Usage.TheVariants as usage

abbrev pub usage_status_of : Usage → ℕ
usage_status_of (usage.Help text) = 0
usage_status_of (usage.Words text) = 2
usage_status_of usage.Memory = 3

-- the arguments are refused, or memory was
abbrev pub IsRefusal : Usage → Type 0
IsRefusal (usage.Help text) = ⊥
IsRefusal (usage.Words text) = ⊤
IsRefusal usage.Memory = ⊤

-- a refusal if and only if options exclude each other
abbrev pub IsConflict : (are_conflicting : Bool) → Option Usage → Type 0
IsConflict are_conflicting None = are_conflicting ≡ false
IsConflict are_conflicting (Some why) = (are_conflicting ≡ true) × IsRefusal why
