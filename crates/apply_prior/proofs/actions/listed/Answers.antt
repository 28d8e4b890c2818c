use Rattle.std.proofs.Common.{◌≡◌, ◌≤◌, length, List, [], ◌∷◌, None, refl, arith}
use Rattle.serde_json.specs.declared.value.Value.{Value}
use Rattle.serde_json.specs.View.{items_view}
use Rattle.apply_prior.specs.Elements.{action_listed}
use Rattle.apply_prior.proofs.actions.listed.Goals as goal

-- no list has more words than two
none_of_three : (words : List Value) → 3 ≤ length words → None ≡ action_listed (items_view words)
none_of_three [] long = absurd (omega (arith, long))
none_of_three (word ∷ []) long = absurd (omega (arith, long))
none_of_three (first ∷ second ∷ []) long = absurd (omega (arith, long))
none_of_three (first ∷ second ∷ third ∷ others) long = refl

pub returns-in_default-2 : goal.returns-in_default-2
returns-in_default-2 c = none_of_three c.args.words.now c.in_default.len_at_least
