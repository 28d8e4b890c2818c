-- How a value begins: what is known where there is no text of it, and where there is one.
use Rattle.std.proofs.Common.{◌≡◌, Option, Some, None, subst}
use Rattle.std.specs.Prelude.{MatchOption}

pub if_none : {T : Type 0} (P : Type 0) (Q : T → Type 0) (o : Option T) → o ≡ None → MatchOption o P Q → P
if_none P Q None is known = known
if_none P Q (Some x) is known = absurd cc

pub if_some : {T : Type 0} (P : Type 0) (Q : T → Type 0) (o : Option T) (x : T) → o ≡ Some x → MatchOption o P Q → Q x
if_some P Q None x is known = absurd cc
if_some P Q (Some y) x is known = let same : y ≡ x = cc in subst Q same known
