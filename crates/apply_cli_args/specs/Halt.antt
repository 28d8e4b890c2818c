-- Halts, as rules of hooks.
use Rattle.std.specs.Prelude.{List, [], ◌∷◌, None, Some, map}
use Rattle.apply_hooks.specs.declared.phase.Phase.TheVariants as phase
use Rattle.apply_hooks.specs.declared.rule.Rule.{Rule}
use Rattle.apply_hooks.specs.declared.verdict.Verdict.TheVariants as verdict
use Rattle.apply_cli_args.specs.declared.halt.Halt.{Halt}
use Rattle.apply_cli_args.specs.declared.halt.Halt.TheVariants.{Before, Inside}

-- one rule, which halts before a step: each step of that kind, or each step whose address begins
-- with the prefix
abbrev pub rules_of_halt : Halt → List Rule
rules_of_halt (Before kind) =
    record { phase = Some phase.Pre; kind = Some kind; address_begins = []; verdict = verdict.Halt } ∷ []
rules_of_halt (Inside prefix) =
    record { phase = Some phase.Pre; kind = None; address_begins = prefix; verdict = verdict.Halt } ∷ []

-- a hook for each halt, in their order
abbrev pub hooks_of_halts : List Halt → List (List Rule)
hooks_of_halts halts = map rules_of_halt halts
