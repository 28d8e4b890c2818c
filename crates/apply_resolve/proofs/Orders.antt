-- Objects by their order, and by what makes two of them the same.
use Rattle.std.proofs.Common.{◌≡◌, ℕ, List, Option, Some, None, Ordering, refl, ◌∙◌}
use Rattle.std.specs.Prelude.{◌&&◌}
use Rattle.std.specs.Cmp.Lexicographic.{slice_cmp}
use Rattle.std.specs.Option.{option_cmp, option_copied, option_eq}
use Rattle.std.specs.Str.{bytes_eq}
use Rattle.std.specs.Ordering.{is_eq, nat_cmp, ordering_then}
use Rattle.std.specs.declared.cmp.Ordering.TheVariants.{Less, Equal, Greater}
use Rattle.std.proofs.lemmas.Map.Text.{is_eq-slice_cmp}
use denote.Ref.{Bor}
use Rattle.apply_resolve.specs.contracts.object_id.ObjectIdOrd.TheImpl.{cmp-value}
use Rattle.apply_resolve.specs.declared.object_id.ObjectId.{ObjectId}
use Rattle.apply_resolve.specs.ObjectIds.{is_same_id}

-- the order finds two objects equal just where they are the same
abbrev pub OrdersObjects : (ObjectId → ObjectId → Ordering) → Type 0
OrdersObjects cmp = (one other : ObjectId) → is_eq (cmp one other) ≡ is_same_id one other

-- the derived order: by address, and then by deposed key, where none stands first
abbrev pub by_address_and_key : ObjectId → ObjectId → Ordering
by_address_and_key = cmp-value.it

pub then_is_eq : (first second : Ordering) → is_eq (ordering_then first second) ≡ (is_eq first && is_eq second)
then_is_eq Less second = refl
then_is_eq Equal second = refl
then_is_eq Greater second = refl

keys_ordered : (one other : Option (Bor (List ℕ))) → is_eq (option_cmp (λ a b. slice_cmp nat_cmp a.now b.now) one other) ≡ option_eq bytes_eq (option_copied one) (option_copied other)
keys_ordered None None = refl
keys_ordered None (Some other) = refl
keys_ordered (Some one) None = refl
keys_ordered (Some one) (Some other) = is_eq-slice_cmp one.now other.now

pub orders : OrdersObjects by_address_and_key
orders one other =
    then_is_eq (slice_cmp nat_cmp one.address.now other.address.now) (option_cmp (λ a b. slice_cmp nat_cmp a.now b.now) one.deposed other.deposed)
    ∙ (rw (is_eq-slice_cmp one.address.now other.address.now, keys_ordered one.deposed other.deposed) refl)
