-- A set of objects, in the order of their hashes.
use Rattle.std.proofs.Common.{◌≡◌, Bool, true, false, cond, List, [], ◌∷◌, refl, sym, ◌∙◌}
use Rattle.std.specs.Prelude.{◌||◌}
use Rattle.std.specs.BTreeSet.{BTreeSet, contains, Updates}
use Rattle.std.specs.List.{list_any}
use Rattle.apply_resolve.specs.declared.object_id.ObjectId.{ObjectId}
use Rattle.apply_resolve.specs.declared.hashed_id.HashedId.{HashedId}
use Rattle.apply_resolve.specs.ObjectIds.{is_same_id}
use Rattle.apply_resolve.specs.HashedId.{hashed, is_same}
use Rattle.apply_resolve.proofs.Numbers.{by_hash_and_object, same_object, tells}

any_same : (p q : HashedId → Bool) → ((id : HashedId) → p id ≡ q id) → (ids : List HashedId) → list_any p ids ≡ list_any q ids
any_same p q same [] = refl
any_same p q same (id ∷ ids) = rw (same id, any_same p q same ids) refl

pub contains_is : (objects : BTreeSet HashedId) (id : HashedId) → contains by_hash_and_object objects id ≡ list_any (is_same id) objects.keys
contains_is objects id = any_same _ _ (λ other. tells id other) objects.keys

or_from_cond : (a b : Bool) → cond a true b ≡ (a || b)
or_from_cond true b = refl
or_from_cond false b = refl

-- what an addition leaves
pub added_is : (old new : BTreeSet HashedId) (id : ObjectId) (key : HashedId) → key ≡ hashed id → Updates by_hash_and_object old new key true
    → (other : ObjectId) → list_any (is_same (hashed other)) new.keys ≡ (is_same_id id other || list_any (is_same (hashed other)) old.keys)
added_is old new id key is updates other =
    sym (contains_is new (hashed other)) ∙ updates.0 (hashed other)
    ∙ rw (tells key (hashed other), is, same_object id other, contains_is old (hashed other)) (or_from_cond (is_same_id id other) (list_any (is_same (hashed other)) old.keys))
