-- The objects that were never done, one told object at a time.
use Rattle.std.proofs.Common.{◌≡◌, ◌<◌, ◌≤◌, ◌+◌, ◌&&◌, ◌||◌, ℕ, Bool, true, false, cond, if◌then◌else◌, List, [], ◌∷◌, get_or, take, length, BTreeMap, Option, Some, refl, sym, ap, ◌∙◌, arith}
use Rattle.std.specs.BTreeMap.{Updates, get_by}
use Rattle.std.specs.List.{enumerate_from, list_any}
use Rattle.std.specs.Map.{lookup}
use Rattle.std.specs.Option.{is_some, option_copied}
use Rattle.std.proofs.lemmas.List.{take_all}
use Rattle.std.proofs.lemmas.List.Folds.{list_any_more}
use Rattle.std.proofs.lemmas.List.FromFn.{get_or-enumerate_from, length-enumerate_from}
use Rattle.apply_events.specs.declared.event.Event.{Event}
use Rattle.apply_planning.specs.declared.told.Told.{Told}
use Rattle.apply_resolve.specs.declared.object_id.ObjectId.{ObjectId}
use Rattle.apply_resolve.specs.ObjectIds.{is_same_id}
use Rattle.apply_resolve.specs.ObjectName.{name_one_object}
use Rattle.apply_resolve.proofs.Orders.{by_address_and_key, orders}
use Rattle.apply_planning_failures.specs.Planning.{is_lost, is_never_done}

abbrev pub Ids : Type 0
Ids = BTreeMap ObjectId Bool

same_lookup : (p q : ObjectId → Bool) → ((key : ObjectId) → p key ≡ q key) → (entries : List (ObjectId × Bool)) → lookup p entries ≡ lookup q entries
same_lookup p q same [] = refl
same_lookup p q same (e ∷ es) = rw (same e.0, same_lookup p q same es) refl

-- what the map has at an object
pub get_is : (ids : Ids) (key : ObjectId) → get_by (by_address_and_key key) ids ≡ lookup (is_same_id key) ids.entries
get_is ids key = same_lookup _ _ (λ other. orders key other) ids.entries

present : (b : Bool) (o : Option Bool) → is_some (cond b (Some true) o) ≡ (if b then true else is_some o)
present true o = refl
present false o = refl

-- the objects of a map, and one that was added
pub has_added : (old new : Ids) (key : ObjectId) → Updates by_address_and_key old new key (Some true) → (id : ObjectId)
    → is_some (lookup (is_same_id id) new.entries) ≡ (if is_same_id key id then true else is_some (lookup (is_same_id id) old.entries))
has_added old new key updates id =
    ap is_some (sym (get_is new id) ∙ updates.0 id) ∙ present _ (get_by (by_address_and_key id) old) ∙ rw (orders key id, get_is old id) refl

-- the told object with that number was never done, and is that object
abbrev is_lost_at : List Told → List Event → ObjectId → ℕ × Told → Bool
is_lost_at told events id p =
    is_never_done (record { told = told; events = events }) p && name_one_object p.1.object.address p.1.object.deposed id.address.now (option_copied id.deposed)

-- the object is one of the first n told objects, and was never done
abbrev pub is_first_lost : List Told → List Event → (n : ℕ) → ObjectId → Bool
is_first_lost told events n id = list_any (is_lost_at told events id) (take n (enumerate_from 0 told))

-- the map has those of the first n told objects that were never done
abbrev pub HasFirst : Ids → List Told → List Event → (n : ℕ) → Type 0
HasFirst ids told events n = (id : ObjectId) → is_some (lookup (is_same_id id) ids.entries) ≡ is_first_lost told events n id

either : (b c : Bool) → (if b then true else c) ≡ (c || b)
either true true = refl
either true false = refl
either false true = refl
either false false = refl

-- one told object more
pub first_more : (old new : Ids) (told : List Told) (events : List Event) (n : ℕ) (one : Told) (never_done : Bool) (key : ObjectId) → n < length told → one ≡ get_or told n one
    → never_done ≡ is_never_done (record { told = told; events = events }) (n, one) → key.address.now ≡ one.object.address → option_copied key.deposed ≡ one.object.deposed
    → HasFirst old told events n
    → ((id : ObjectId) → is_some (lookup (is_same_id id) new.entries) ≡ (if never_done && is_same_id key id then true else is_some (lookup (is_same_id id) old.entries)))
    → HasFirst new told events (n + 1)
first_more old new told events n one never_done key few read is address deposed has adds id =
    let all = enumerate_from 0 told in
    let at = is_lost_at told events id in
    let few' : n < length all = omega (arith, length-enumerate_from 0 told) in
    let from_zero : n ≡ 0 + n = omega arith in
    let here : (never_done && is_same_id key id) ≡ at (n, one) = rw (is, address, deposed) refl in
    adds id ∙ either (never_done && is_same_id key id) (is_some (lookup (is_same_id id) old.entries))
    ∙ ap (λ (b : Bool). b || (never_done && is_same_id key id)) (has id)
    ∙ ap (λ (b : Bool). list_any at (take n all) || b) (here ∙ ap at (ap {B = ℕ × Told} (λ t. (n, t)) read ∙ ap {B = ℕ × Told} (λ m. (m, get_or told n one)) from_zero ∙ sym (get_or-enumerate_from 0 told n (n, one) few)))
    ∙ sym (list_any_more at all n (n, one) few')

-- no told object is left
pub all_lost : (ids : Ids) (told : List Told) (events : List Event) (n : ℕ) → length told ≤ n → HasFirst ids told events n → (id : ObjectId)
    → is_some (lookup (is_same_id id) ids.entries) ≡ is_lost (record { told = told; events = events }) id.address.now (option_copied id.deposed)
all_lost ids told events n past has id =
    has id ∙ ap (list_any (is_lost_at told events id)) (take_all n (enumerate_from 0 told) (omega (arith, length-enumerate_from 0 told)))
