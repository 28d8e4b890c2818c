-- Hooks that are closures.
use Rattle.std.specs.Prelude.{List}
use Rattle.apply_hooks.specs.declared.fn_hook.FnHook.{FnHook}
use Rattle.apply_hooks.specs.declared.rule.Rule.{Rule}

-- The rules that give the same answers as the hook.
abbrev pub rules_of_hook : {a b : _} {g : _} → FnHook a b g → List Rule
rules_of_hook hook = hook.rules
