-- What is pending of one action, and of the others.
use Rattle.std.proofs.Common.{◌≡◌, false, Option, refl}
use Rattle.stream_check.specs.declared.messages.action.Action.{Action}
use Rattle.stream_check.specs.declared.messages.action.Action.TheVariants.{Create, Update, Delete, Read, Refresh}
use Rattle.stream_check.specs.declared.rules.pending.Pending.{Pending}
use Rattle.stream_check.specs.declared.rules.address_state.AddressState.{AddressState}
use Rattle.stream_check.specs.AddressState.{pending_at, with_pending}
use Rattle.stream_check.specs.Words.{same_action}

-- what is put for an action is what it has
pub put_same : (k : Action) (p : Option Pending) (s : AddressState) → pending_at k (with_pending k p s) ≡ p
put_same Create p s = refl
put_same Update p s = refl
put_same Delete p s = refl
put_same Read p s = refl
put_same Refresh p s = refl

-- and the others keep what they had
pub put_other : (l k : Action) (p : Option Pending) (s : AddressState) → same_action l k ≡ false → pending_at k (with_pending l p s) ≡ pending_at k s
put_other Create Create p s e = absurd cc
put_other Create Update p s e = refl
put_other Create Delete p s e = refl
put_other Create Read p s e = refl
put_other Create Refresh p s e = refl
put_other Update Create p s e = refl
put_other Update Update p s e = absurd cc
put_other Update Delete p s e = refl
put_other Update Read p s e = refl
put_other Update Refresh p s e = refl
put_other Delete Create p s e = refl
put_other Delete Update p s e = refl
put_other Delete Delete p s e = absurd cc
put_other Delete Read p s e = refl
put_other Delete Refresh p s e = refl
put_other Read Create p s e = refl
put_other Read Update p s e = refl
put_other Read Delete p s e = refl
put_other Read Read p s e = absurd cc
put_other Read Refresh p s e = refl
put_other Refresh Create p s e = refl
put_other Refresh Update p s e = refl
put_other Refresh Delete p s e = refl
put_other Refresh Read p s e = refl
put_other Refresh Refresh p s e = absurd cc
