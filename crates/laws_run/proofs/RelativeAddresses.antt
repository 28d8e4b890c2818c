-- With the module's address and a dot, the address within the module gives back the address.
use Rattle.std.proofs.Common.{◌≡◌, ℕ, false, List, [], ◌∷◌, length, drop, codes, nat_eq, Some, refl, ap, subst, ◌∙◌}
use Rattle.std.specs.Prelude.{◌≢◌, ◌++◌}
use Rattle.std.specs.List.{starts_with}
use Rattle.std.proofs.lemmas.Option.{cond_some}
use Rattle.std.proofs.lemmas.Bool.Decides.{Decides-eqb}
use Rattle.std.proofs.lemmas.Slice.Eq.{starts_is}
use Rattle.apply_model.specs.Plan.Address.{after_prefix, is_empty, relative_address}
use Rattle.apply_model.specs.Plan.ResourceChange.{ResourceChange}
use Rattle.apply_model.proofs.Plans.Relative.{below_module, left_some, relative_is}
use Rattle.laws_run.specs.Plans.{HasRelativeAddress, IsJoined}

split_at_prefix : (prefix text rest : List ℕ) → after_prefix prefix text ≡ Some rest → text ≡ prefix ++ rest
split_at_prefix prefix text rest e =
    let cut = cond_some (starts_with nat_eq text prefix) (drop (length prefix) text) rest e in
    (starts_is Decides-eqb text prefix _ refl).0 cut.0 ∙ ap (λ (r : List ℕ). prefix ++ r) cut.1

not_empty : (text : List ℕ) → is_empty text ≡ false → text ≢ []
not_empty [] e = absurd cc
not_empty (byte ∷ bytes) e = λ nothing. cc

joined : (module_address address located : List ℕ) → relative_address module_address address ≡ Some located → (located ≢ []) × IsJoined module_address located address
joined [] address located e =
    let all = left_some address located e in
    (not_empty located all.1, all.0)
joined (byte ∷ bytes) address located e =
    let below = below_module (byte ∷ bytes) address located e in (
      not_empty located below.3,
      split_at_prefix (byte ∷ bytes) address below.0 below.1
          ∙ ap (λ (r : List ℕ). (byte ∷ bytes) ++ r) (split_at_prefix (codes ".") below.0 located below.2),
    )

pub relative_joins : (change : ResourceChange) (located : List ℕ) → relative_address change.module_address change.address ≡ Some located → HasRelativeAddress change
relative_joins change located e =
    let both = joined change.module_address change.address located e in
    subst (λ (relative : List ℕ). (relative ≢ []) × IsJoined change.module_address relative change.address) (relative_is change.module_address change.address located e) both
