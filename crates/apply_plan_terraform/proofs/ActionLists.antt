-- Lists of actions that are too long.
use Rattle.std.proofs.Common.{◌≡◌, ◌≤◌, length, List, [], ◌∷◌, false, refl, arith}
use Rattle.serde_json.specs.declared.value.Value.{Value}
use Rattle.serde_json.specs.View.{items_view}
use Rattle.apply_plan_terraform.specs.Details.{is_forgetting}

pub none_of_two : (actions : List Value) → 2 ≤ length actions → false ≡ is_forgetting (items_view actions)
none_of_two [] long = absurd (omega (arith, long))
none_of_two (action ∷ []) long = absurd (omega (arith, long))
none_of_two (first ∷ second ∷ others) long = refl
