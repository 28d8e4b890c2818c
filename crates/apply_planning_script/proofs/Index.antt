-- The numbers of values, looked up by object.
use Rattle.std.proofs.Common.{◌≡◌, ℕ, suc, ◌+◌, ◌-◌, ◌<◌, ◌≤◌, Bool, true, false, cond, List, [], ◌∷◌, length, drop, get_or, BTreeMap, Option, Some, option_map, refl, sym, ap, ◌∙◌, add-one, arith}
use Rattle.std.specs.Prelude.{find}
use Rattle.std.specs.BTreeMap.{IsEmpty, Updates, get_by}
use Rattle.std.specs.List.{enumerate_from}
use Rattle.std.specs.Map.{lookup}
use Rattle.std.proofs.Math.Seq.{drop-cons}
use Rattle.std.proofs.lemmas.List.{drop_all}
use Rattle.apply_resolve.specs.declared.object_id.ObjectId.{ObjectId}
use Rattle.apply_resolve.specs.ObjectIds.{is_same_id}
use Rattle.apply_resolve.proofs.Orders.{by_address_and_key, orders}
use Rattle.apply_planning_script.specs.ObjectIndex.{name_of_id}
use Rattle.apply_planning_script.specs.Objects.{ObjectName, is_same_name}

same_lookup : (p q : ObjectId → Bool) → ((key : ObjectId) → p key ≡ q key) → (entries : List (ObjectId × ℕ)) → lookup p entries ≡ lookup q entries
same_lookup p q same [] = refl
same_lookup p q same (e ∷ es) = rw (same e.0, same_lookup p q same es) refl

-- what the map has at an object
pub get_is : (numbers : BTreeMap ObjectId ℕ) (key : ObjectId) → get_by (by_address_and_key key) numbers ≡ lookup (is_same_id key) numbers.entries
get_is numbers key = same_lookup _ _ (λ other. orders key other) numbers.entries

module _ {X : Type 0} (about : X → ObjectName) (values : List X) where
  -- the number of the first value that is about the object, from the n-th on
  abbrev pub number_from : ℕ → ObjectName → Option ℕ
  number_from n object = option_map (λ p. p.0) (find (λ p. is_same_name (about p.1) object) (enumerate_from n (drop n values)))

  -- the map has the numbers of the values from the n-th on
  abbrev pub HasNumbersFrom : BTreeMap ObjectId ℕ → ℕ → Type 0
  HasNumbersFrom numbers n = (id : ObjectId) → lookup (is_same_id id) numbers.entries ≡ number_from n (name_of_id id)

  pub no_numbers : (numbers : BTreeMap ObjectId ℕ) (n : ℕ) → IsEmpty numbers → n ≡ length values → HasNumbersFrom numbers n
  no_numbers numbers n empty all id =
      let past : length values ≤ n = omega arith in
      rw (empty, drop_all n values past) refl

  mapped : (b : Bool) (i : ℕ) (value : X) (o : Option (ℕ × X)) → option_map (λ (p : ℕ × X). p.0) (cond b (Some (i, value)) o) ≡ cond b (Some i) (option_map (λ p. p.0) o)
  mapped true i value o = refl
  mapped false i value o = refl

  one_more : (i : ℕ) (value : X) (object : ObjectName) → i < length values → get_or values i value ≡ value
      → number_from i object ≡ cond (is_same_name (about value) object) (Some i) (number_from (i + 1) object)
  one_more i value object below is =
      let rest : drop i values ≡ value ∷ drop (i + 1) values =
      rw (add-one, drop-cons values i value below) (ap (λ (v : X). v ∷ drop (suc i) values) is) in
      ap (λ (vs : List X). option_map (λ p. p.0) (find (λ p. is_same_name (about p.1) object) (enumerate_from i vs))) rest
      ∙ mapped (is_same_name (about value) object) i value (find (λ p. is_same_name (about p.1) object) (enumerate_from (i + 1) (drop (i + 1) values)))

  -- one value more, before the others
  pub numbers_more : (old new : BTreeMap ObjectId ℕ) (n : ℕ) (value : X) (key : ObjectId) → 0 < n → n ≤ length values → value ≡ get_or values (n - 1) value
      → name_of_id key ≡ about value
      → HasNumbersFrom old n → Updates by_address_and_key old new key (Some (n - 1)) → HasNumbersFrom new (n - 1)
  numbers_more old new n value key some within is names has updates id =
      let next : n - 1 + 1 ≡ n = omega arith in
      sym (get_is new id) ∙ updates.0 id
      ∙ rw (orders key id, get_is old id, has id) refl
      ∙ ap (λ (object : ObjectName). cond (is_same_name object (name_of_id id)) (Some (n - 1)) (number_from n (name_of_id id))) names
      ∙ ap (λ (m : ℕ). cond (is_same_name (about value) (name_of_id id)) (Some (n - 1)) (number_from m (name_of_id id))) (sym next)
      ∙ sym (one_more (n - 1) value (name_of_id id) (omega arith) (sym is))
