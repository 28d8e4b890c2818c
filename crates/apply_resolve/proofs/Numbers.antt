-- The numbers of changes, looked up by object.
use Rattle.std.proofs.Common.{◌≡◌, ℕ, suc, ◌+◌, ◌-◌, ◌<◌, ◌≤◌, ◌==◌, Bool, true, false, cond, List, [], ◌∷◌, length, drop, BTreeMap, Option, Some, Ordering, option_map, refl, sym, ap, ◌∙◌, ⊎_elim, add-one, arith}
use Rattle.std.specs.Prelude.{◌&&◌, find, slice_get}
use Rattle.std.specs.BTreeMap.{IsEmpty, Updates, get_by}
use Rattle.std.specs.List.{enumerate_from}
use Rattle.std.specs.Map.{lookup}
use Rattle.std.specs.Option.{option_copied, option_eq}
use Rattle.std.specs.Ordering.{is_eq, nat_cmp}
use Rattle.std.specs.Str.{bytes_eq}
use Rattle.std.proofs.Math.Seq.{drop-cons}
use Rattle.std.proofs.lemmas.Bool.{cases_Bool}
use Rattle.std.proofs.lemmas.Bool.Decides.{nat_tests}
use Rattle.std.proofs.lemmas.List.{drop_all}
use Rattle.std.proofs.lemmas.Option.{get_or_from_slice_get, slice_get_within}
use Rattle.std.proofs.lemmas.Slice.Eq.{bytes_eq-Decides}
use Rattle.apply_resolve.specs.contracts.hashed_id.HashedIdOrd.TheImpl.{cmp-value}
use Rattle.apply_resolve.specs.declared.object_id.ObjectId.{ObjectId}
use Rattle.apply_resolve.specs.declared.hashed_id.HashedId.{HashedId}
use Rattle.apply_model.specs.Plan.ResourceChange.{ResourceChange}
use Rattle.apply_resolve.specs.ObjectIds.{is_of, is_same_id}
use Rattle.apply_resolve.specs.HashedId.{hash_of, hashed, is_same}
use Rattle.apply_resolve.proofs.Orders.{by_address_and_key, orders, then_is_eq}

-- the derived order: by hash, and then by object
abbrev pub by_hash_and_object : HashedId → HashedId → Ordering
by_hash_and_object = cmp-value.it

and_false : (b : Bool) → (b && false) ≡ false
and_false true = refl
and_false false = refl

hashes_ordered : (n m : ℕ) → is_eq (nat_cmp n m) ≡ (n == m)
hashes_ordered n m = grind (arith, nat_tests)

same_number : (n : ℕ) → (n == n) ≡ true
same_number n = grind (arith, nat_tests)

-- the order finds two equal just where they are the same
pub tells : (one other : HashedId) → is_eq (by_hash_and_object one other) ≡ is_same one other
tells one other = then_is_eq (nat_cmp one.hash other.hash) (by_address_and_key one.id other.id) ∙ rw (hashes_ordered one.hash other.hash, orders one.id other.id) refl

-- equal addresses have equal hashes
same_hash : (x y : List ℕ) (k : Bool) → ((hash_of x == hash_of y) && (bytes_eq x y && k)) ≡ (bytes_eq x y && k)
same_hash x y k = ⊎_elim
    (λ (yes : bytes_eq x y ≡ true). let same : x ≡ y = (bytes_eq-Decides x y).0 yes in ap (λ (z : List ℕ). (hash_of z == hash_of y) && (bytes_eq z y && k)) same ∙ rw (same_number (hash_of y)) (sym (ap (λ (z : List ℕ). bytes_eq z y && k) same)))
    (λ (no : bytes_eq x y ≡ false). rw no (and_false (hash_of x == hash_of y)))
    (cases_Bool (bytes_eq x y))

-- with their hashes the same objects are the same, and no others
pub same_object : (one other : ObjectId) → is_same (hashed one) (hashed other) ≡ is_same_id one other
same_object one other = same_hash one.address.now other.address.now (option_eq bytes_eq (option_copied one.deposed) (option_copied other.deposed))

same_lookup : (p q : HashedId → Bool) → ((key : HashedId) → p key ≡ q key) → (entries : List (HashedId × ℕ)) → lookup p entries ≡ lookup q entries
same_lookup p q same [] = refl
same_lookup p q same (e ∷ es) = rw (same e.0, same_lookup p q same es) refl

-- what the map has at an object
pub get_is : (numbers : BTreeMap HashedId ℕ) (key : HashedId) → get_by (by_hash_and_object key) numbers ≡ lookup (is_same key) numbers.entries
get_is numbers key = same_lookup _ _ (λ other. tells key other) numbers.entries

-- the number of the first change of the object, from the n-th on
abbrev pub number_from : List ResourceChange → ℕ → ObjectId → Option ℕ
number_from changes n id = option_map (λ p. p.0) (find (λ p. is_of id p.1) (enumerate_from n (drop n changes)))

-- the map has the numbers of the changes from the n-th on
abbrev pub HasNumbersFrom : BTreeMap HashedId ℕ → List ResourceChange → ℕ → Type 0
HasNumbersFrom numbers changes n = (id : ObjectId) → lookup (is_same (hashed id)) numbers.entries ≡ number_from changes n id

pub no_numbers : (numbers : BTreeMap HashedId ℕ) (changes : List ResourceChange) (n : ℕ) → IsEmpty numbers → n ≡ length changes → HasNumbersFrom numbers changes n
no_numbers numbers changes n empty all id =
    let past : length changes ≤ n = omega arith in
    rw (empty, drop_all n changes past) refl

mapped : (b : Bool) (i : ℕ) (change : ResourceChange) (o : Option (ℕ × ResourceChange)) → option_map (λ (p : ℕ × ResourceChange). p.0) (cond b (Some (i, change)) o) ≡ cond b (Some i) (option_map (λ p. p.0) o)
mapped true i change o = refl
mapped false i change o = refl

one_more : (changes : List ResourceChange) (i : ℕ) (change : ResourceChange) (id : ObjectId) → Some change ≡ slice_get changes i
    → number_from changes i id ≡ cond (is_of id change) (Some i) (number_from changes (i + 1) id)
one_more changes i change id answer =
    let below = slice_get_within changes i change (sym answer) in
    let rest : drop i changes ≡ change ∷ drop (i + 1) changes =
    rw (add-one, drop-cons changes i change below) (ap (λ (c : ResourceChange). c ∷ drop (suc i) changes) (get_or_from_slice_get changes i change change (sym answer))) in
    ap (λ (cs : List ResourceChange). option_map (λ p. p.0) (find (λ p. is_of id p.1) (enumerate_from i cs))) rest
    ∙ mapped (is_of id change) i change (find (λ p. is_of id p.1) (enumerate_from (i + 1) (drop (i + 1) changes)))

-- one change more, before the others
pub numbers_more : (old new : BTreeMap HashedId ℕ) (changes : List ResourceChange) (n : ℕ) (change : ResourceChange) (object : ObjectId) (key : HashedId) → 0 < n → Some change ≡ slice_get changes (n - 1)
    → object.address.now ≡ change.address → option_copied object.deposed ≡ change.deposed → key ≡ hashed object
    → HasNumbersFrom old changes n → Updates by_hash_and_object old new key (Some (n - 1)) → HasNumbersFrom new changes (n - 1)
numbers_more old new changes n change object key some answer address deposed is has updates id =
    let next : n - 1 + 1 ≡ n = omega arith in
    sym (get_is new (hashed id)) ∙ updates.0 (hashed id)
    ∙ rw (tells key (hashed id), is, same_object object id, address, deposed, get_is old (hashed id), has id) refl
    ∙ ap (λ (m : ℕ). cond (is_of id change) (Some (n - 1)) (number_from changes m id)) (sym next)
    ∙ sym (one_more changes (n - 1) change id answer)
