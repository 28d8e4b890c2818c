-- What the methods of `str` answer, in the words of the definitions.
use Rattle.std.proofs.Common.{◌≡◌, ℕ, true, false, List, Option, Some, None, nat_eq, refl, ⊎_elim}
use Rattle.std.specs.List.{starts_with}
use Rattle.std.specs.Option.{MatchOption, option_copied}
use Rattle.std.specs.Str.Pattern.{FindsTextPrefix, StripsPrefix}
use Rattle.std.proofs.lemmas.Bool.{cases_Bool}
use Rattle.std.proofs.lemmas.Bool.Decides.{Decides-eqb}
use Rattle.std.proofs.lemmas.Slice.Eq.{starts_is}
use denote.Ref.{Bor}
use Rattle.apply_model.specs.Plan.Address.{after_prefix}

starts_not : (prefix text : List ℕ) → FindsTextPrefix prefix text None → starts_with nat_eq text prefix ≡ false
starts_not prefix text lacks = ⊎_elim (λ e. absurd (lacks _ ((starts_is Decides-eqb text prefix _ refl).0 e))) (λ e. e) (cases_Bool (starts_with nat_eq text prefix))

-- `strip_prefix` at a text
pub stripped : (prefix text : List ℕ) (r : Option (Bor (List ℕ)))
    → MatchOption r (FindsTextPrefix prefix text None) (λ x. StripsPrefix (FindsTextPrefix prefix) text x.now)
    → option_copied r ≡ after_prefix prefix text
stripped prefix text None lacks = rw (starts_not prefix text lacks) refl
stripped prefix text (Some x) answer =
    let begins : starts_with nat_eq text prefix ≡ true = (starts_is Decides-eqb text prefix _ refl).1 _ answer.1.1 in
    rw (begins, answer.2, answer.1.0) refl
