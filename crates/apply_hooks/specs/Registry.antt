-- What contracts see of a registry.
use Rattle.std.specs.Prelude.{List, map}
use Rattle.apply_hooks.specs.FnHook.{rules_of_hook}
use Rattle.apply_hooks.specs.declared.fn_hook.FnHook.{FnHook}
use Rattle.apply_hooks.specs.declared.registry.Registry.{Registry}
use Rattle.apply_hooks.specs.declared.rule.Rule.{Rule}

-- The hooks of a registry, in the order in which they are called.
abbrev pub hooks_of : {a b : _} {g : _} → Registry a b g → List (FnHook a b g)
hooks_of registry = registry.hooks.items

-- The rules of each hook of a registry.
abbrev pub rules_of : {a b : _} {g : _} → Registry a b g → List (List Rule)
rules_of registry = map rules_of_hook registry.hooks.items
