-- The verdict of a list of rules.
use Rattle.std.specs.Prelude.{List, find}
use Rattle.std.specs.Option.{option_map_or}
use Rattle.apply_hooks.specs.HookCall.{Call}
use Rattle.apply_hooks.specs.Rule.{matches}
use Rattle.apply_hooks.specs.declared.rule.Rule.{Rule}
use Rattle.apply_hooks.specs.declared.verdict.Verdict.{Verdict}
use Rattle.apply_hooks.specs.declared.verdict.Verdict.TheVariants.{Continue}

-- The verdict of the first rule that matches, or `Continue` where no rule matches.
abbrev pub verdict_of : List Rule → Call → Verdict
verdict_of rules call = option_map_or (λ rule. rule.verdict) (find (λ rule. matches rule call) rules) Continue
