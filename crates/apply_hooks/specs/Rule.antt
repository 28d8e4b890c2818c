-- Calls that a rule matches.
use Rattle.std.specs.Prelude.{Bool, true, ◌&&◌, nat_eq}
use Rattle.std.specs.List.{starts_with}
use Rattle.std.specs.Option.{option_map_or}
use Rattle.apply_hooks.specs.HookCall.{Call}
use Rattle.apply_hooks.specs.Phase.{is_phase}
use Rattle.apply_model.specs.Plan.StepKind.{is_kind}
use Rattle.apply_hooks.specs.declared.rule.Rule.{Rule}

-- Each part that the rule states is equal, and the address begins with the rule's text.
abbrev pub matches : Rule → Call → Bool
matches rule call =
    option_map_or (is_phase call.phase) rule.phase true
    && option_map_or (is_kind call.kind) rule.kind true
    && starts_with nat_eq call.address rule.address_begins
