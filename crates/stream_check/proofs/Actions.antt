-- Which action it is.
use Rattle.std.proofs.Common.{◌≡◌, true, refl}
use Rattle.stream_check.specs.declared.messages.action.Action.{Action}
use Rattle.stream_check.specs.declared.messages.action.Action.TheVariants.{Create, Update, Delete, Read, Refresh}
use Rattle.stream_check.specs.Words.{same_action}

-- one test distinguishes the actions
pub same_is : (k l : Action) → same_action k l ≡ true → k ≡ l
same_is Create Create e = refl
same_is Create Update e = absurd cc
same_is Create Delete e = absurd cc
same_is Create Read e = absurd cc
same_is Create Refresh e = absurd cc
same_is Update Create e = absurd cc
same_is Update Update e = refl
same_is Update Delete e = absurd cc
same_is Update Read e = absurd cc
same_is Update Refresh e = absurd cc
same_is Delete Create e = absurd cc
same_is Delete Update e = absurd cc
same_is Delete Delete e = refl
same_is Delete Read e = absurd cc
same_is Delete Refresh e = absurd cc
same_is Read Create e = absurd cc
same_is Read Update e = absurd cc
same_is Read Delete e = absurd cc
same_is Read Read e = refl
same_is Read Refresh e = absurd cc
same_is Refresh Create e = absurd cc
same_is Refresh Update e = absurd cc
same_is Refresh Delete e = absurd cc
same_is Refresh Read e = absurd cc
same_is Refresh Refresh e = refl
