-- The index of the first value that names each object, as values are added.
use Rattle.std.proofs.Common.{◌≡◌, ℕ, suc, ◌+◌, Bool, true, false, cond, List, [], ◌∷◌, ◌++◌, ◌<◌, length, map, take, BTreeMap, Option, Some, None, Ordering, is_some, refl, sym, ap, ◌∙◌, ⊎_elim, arith}
use Rattle.std.specs.Prelude.{◌&&◌, ◌||◌, find, slice_get}
use Rattle.std.specs.BTreeMap.{IsEmpty, Updates, get_by}
use Rattle.std.specs.Cmp.Lexicographic.{slice_cmp}
use Rattle.std.specs.List.{list_any, position_from}
use Rattle.std.specs.Map.{lookup}
use Rattle.std.specs.Option.{option_cmp, option_copied, option_eq, option_or}
use Rattle.std.specs.Ordering.{is_eq, nat_cmp, ordering_then}
use Rattle.std.specs.Str.{bytes_eq}
use Rattle.std.specs.declared.cmp.Ordering.TheVariants.{Less, Equal, Greater}
use Rattle.std.proofs.lemmas.Bool.{cases_Bool}
use Rattle.std.proofs.lemmas.List.{length-map, length-take-le, map-append, take_more}
use Rattle.std.proofs.lemmas.Map.Text.{is_eq-slice_cmp}
use Rattle.std.proofs.lemmas.Option.{get_or_from_slice_get, slice_get_within}
use Rattle.std.proofs.lemmas.Slice.Eq.{bytes_eq-Decides}
use denote.Ref.{Bor}
use Rattle.apply_model.specs.Plan.ResourceChange.{ResourceChange}
use Rattle.apply_resolve.specs.ObjectName.{name_one_object}
use Rattle.input_validate.specs.contracts.plan.object_name.ObjectNameOrd.TheImpl.{cmp-value}
use Rattle.input_validate.specs.declared.plan.object_name.ObjectName.{ObjectName}
use Rattle.input_validate.specs.FirstNamed.{at_addresses, is_same_name}
use Rattle.input_validate.specs.ObjectNames.{Named, name_view}
use Rattle.input_validate.specs.PlanFindings.{first_named, is_named}
use Rattle.input_validate.proofs.Options.{and_left, and_right, and_true}

some_is : {A : Type 0} (x y : A) → Some x ≡ Some y → x ≡ y
some_is x y e = cc

-- the derived order: by address, and then by deposed key, where none stands first
abbrev pub by_address_and_key : ObjectName → ObjectName → Ordering
by_address_and_key = cmp-value.it

then_is_eq : (first second : Ordering) → is_eq (ordering_then first second) ≡ (is_eq first && is_eq second)
then_is_eq Less second = refl
then_is_eq Equal second = refl
then_is_eq Greater second = refl

keys_ordered : (one other : Option (Bor (List ℕ))) → is_eq (option_cmp (λ a b. slice_cmp nat_cmp a.now b.now) one other) ≡ option_eq bytes_eq (option_copied one) (option_copied other)
keys_ordered None None = refl
keys_ordered None (Some other) = refl
keys_ordered (Some one) None = refl
keys_ordered (Some one) (Some other) = is_eq-slice_cmp one.now other.now

-- two names are equal in the order if and only if they name the same object
tells : (one other : ObjectName) → is_eq (by_address_and_key one other) ≡ is_same_name one other
tells one other =
    then_is_eq (slice_cmp nat_cmp one.address.now other.address.now) (option_cmp (λ a b. slice_cmp nat_cmp a.now b.now) one.deposed other.deposed)
    ∙ (rw (is_eq-slice_cmp one.address.now other.address.now, keys_ordered one.deposed other.deposed) refl)

same_lookup : (p q : ObjectName → Bool) → ((key : ObjectName) → p key ≡ q key) → (entries : List (ObjectName × ℕ)) → lookup p entries ≡ lookup q entries
same_lookup p q same [] = refl
same_lookup p q same (e ∷ es) = rw (same e.0, same_lookup p q same es) refl

-- what the map has at an object
pub get_is : (numbers : BTreeMap ObjectName ℕ) (key : ObjectName) → get_by (by_address_and_key key) numbers ≡ lookup (is_same_name key) numbers.entries
get_is numbers key = same_lookup _ _ (λ other. tells key other) numbers.entries

-- ---- names

key_is : (one other : Option (List ℕ)) → option_eq bytes_eq one other ≡ true → one ≡ other
key_is None None e = refl
key_is None (Some other) e = absurd cc
key_is (Some one) None e = absurd cc
key_is (Some one) (Some other) e = ap (λ (x : List ℕ). Some x) ((bytes_eq-Decides one other).0 e)

abbrev pair : List ℕ → Option (List ℕ) → Named
pair address deposed = (address, deposed)

pub same_name : (one other : Named) → name_one_object one.0 one.1 other.0 other.1 ≡ true → one ≡ other
same_name one other e =
    ap (λ (x : List ℕ). pair x one.1) ((bytes_eq-Decides one.0 other.0).0 (and_left (bytes_eq one.0 other.0) (option_eq bytes_eq one.1 other.1) e))
    ∙ ap (pair other.0) (key_is one.1 other.1 (and_right (bytes_eq one.0 other.0) (option_eq bytes_eq one.1 other.1) e))

-- the map has the number of the first that names each object
abbrev pub HasFirst : BTreeMap ObjectName ℕ → List (Option Named) → Type 0
HasFirst numbers names = (name : ObjectName) → lookup (is_same_name name) numbers.entries ≡ position_from (is_named (name_view name)) 0 names

pub no_names : (numbers : BTreeMap ObjectName ℕ) → IsEmpty numbers → HasFirst numbers []
no_names numbers empty name = rw empty refl

-- ---- one more

or_none : (o : Option ℕ) → option_or o None ≡ o
or_none None = refl
or_none (Some n) = refl

by_head : (b : Bool) (n : ℕ) (o last : Option ℕ) → cond b (Some n) (option_or o last) ≡ option_or (cond b (Some n) o) last
by_head true n o last = refl
by_head false n o last = refl

position_push : (test : Option Named → Bool) (n : ℕ) (names : List (Option Named)) (name : Option Named)
    → position_from test n (names ++ name ∷ []) ≡ option_or (position_from test n names) (cond (test name) (Some (n + length names)) None)
position_push test n [] name = ap (λ (k : ℕ). cond (test name) (Some k) None) (let e : n ≡ n + 0 = omega arith in e)
position_push test n (x ∷ names) name =
    ap (λ (o : Option ℕ). cond (test x) (Some n) o) (position_push test (n + 1) names name)
    ∙ by_head (test x) n (position_from test (n + 1) names) (cond (test name) (Some (n + 1 + length names)) None)
    ∙ ap (λ (k : ℕ). option_or (cond (test x) (Some n) (position_from test (n + 1) names)) (cond (test name) (Some k) None)) (let e : n + 1 + length names ≡ n + suc (length names) = omega arith in e)

-- a value that names no object
pub nothing_more : (numbers : BTreeMap ObjectName ℕ) (names : List (Option Named)) → HasFirst numbers names → HasFirst numbers (names ++ None ∷ [])
nothing_more numbers names has name =
    has name ∙ sym (position_push (is_named (name_view name)) 0 names None ∙ or_none (position_from (is_named (name_view name)) 0 names))

some_first : (o last : Option ℕ) → is_some o ≡ true → option_or o last ≡ o
some_first (Some n) last e = refl
some_first None last e = absurd cc

none_first : (o last : Option ℕ) → is_some o ≡ false → option_or o last ≡ last
none_first (Some n) last e = absurd cc
none_first None last e = refl

-- an object's place is the place of the key that names it
first_of : (numbers : BTreeMap ObjectName ℕ) (names : List (Option Named)) → HasFirst numbers names → (key name : ObjectName) → is_same_name key name ≡ true
    → position_from (is_named (name_view name)) 0 names ≡ get_by (by_address_and_key key) numbers
first_of numbers names has key name e =
    ap (λ (n : Named). position_from (is_named n) 0 names) (sym (same_name (name_view key) (name_view name) e)) ∙ sym (has key) ∙ sym (get_is numbers key)

-- one whose object was named before
pub again_more : (numbers : BTreeMap ObjectName ℕ) (names : List (Option Named)) (key : ObjectName) → HasFirst numbers names → is_some (get_by (by_address_and_key key) numbers) ≡ true
    → HasFirst numbers (names ++ Some (name_view key) ∷ [])
again_more numbers names key has there name = ⊎_elim
    (λ (yes : is_same_name key name ≡ true).
    has name ∙ sym (position_push (is_named (name_view name)) 0 names (Some (name_view key))
    ∙ some_first (position_from (is_named (name_view name)) 0 names) _ (ap (λ (o : Option ℕ). is_some o) (first_of numbers names has key name yes) ∙ there)))
    (λ (no : is_same_name key name ≡ false).
    has name ∙ sym (position_push (is_named (name_view name)) 0 names (Some (name_view key))
    ∙ ap (λ (b : Bool). option_or (position_from (is_named (name_view name)) 0 names) (cond b (Some (0 + length names)) None)) no
    ∙ or_none (position_from (is_named (name_view name)) 0 names)))
    (cases_Bool (is_same_name key name))

-- one whose object was not
pub new_more : (old new : BTreeMap ObjectName ℕ) (names : List (Option Named)) (key : ObjectName) (number : ℕ) → HasFirst old names → is_some (get_by (by_address_and_key key) old) ≡ false
    → number ≡ length names → Updates by_address_and_key old new key (Some number) → HasFirst new (names ++ Some (name_view key) ∷ [])
new_more old new names key number has absent counted updates name = ⊎_elim
    (λ (yes : is_same_name key name ≡ true).
    sym (get_is new name) ∙ updates.0 name ∙ rw (tells key name, yes) refl
    ∙ ap (λ (n : ℕ). Some n) (counted ∙ (let e : length names ≡ 0 + length names = omega arith in e))
    ∙ sym (position_push (is_named (name_view name)) 0 names (Some (name_view key))
    ∙ ap (λ (b : Bool). option_or (position_from (is_named (name_view name)) 0 names) (cond b (Some (0 + length names)) None)) yes
    ∙ none_first (position_from (is_named (name_view name)) 0 names) _ (ap (λ (o : Option ℕ). is_some o) (first_of old names has key name yes) ∙ absent)))
    (λ (no : is_same_name key name ≡ false).
    sym (get_is new name) ∙ updates.0 name ∙ rw (tells key name, no) refl ∙ get_is old name ∙ has name
    ∙ sym (position_push (is_named (name_view name)) 0 names (Some (name_view key))
    ∙ ap (λ (b : Bool). option_or (position_from (is_named (name_view name)) 0 names) (cond b (Some (0 + length names)) None)) no
    ∙ or_none (position_from (is_named (name_view name)) 0 names)))
    (cases_Bool (is_same_name key name))

-- the number that a lookup gives
pub first_is : (numbers : BTreeMap ObjectName ℕ) (names : List (Option Named)) (name : ObjectName) → HasFirst numbers names
    → get_by (by_address_and_key name) numbers ≡ first_named names (Some (name_view name))
first_is numbers names name has = get_is numbers name ∙ has name

-- ---- changes

-- where the first stands of which the test holds
pub record IsAt {X : Type 0} (test : X → Bool) (xs : List X) (n i : ℕ) : Type 0 where
  pub at : ℕ
  pub is : i ≡ n + at
  pub same_value : slice_get xs at ≡ find test xs
  pub below : at < length xs

here_or_after : {X : Type 0} (see : X → Option Named) (test : Option Named → Bool) (x : X) (xs : List X) (n i : ℕ) (b : Bool) → test (see x) ≡ b
    → (position_from test (n + 1) (map see xs) ≡ Some i → IsAt (λ y. test (see y)) xs (n + 1) i)
    → cond b (Some n) (position_from test (n + 1) (map see xs)) ≡ Some i → IsAt (λ y. test (see y)) (x ∷ xs) n i
here_or_after see test x xs n i true is rest e =
    record {
      at = 0;
      is = sym (some_is n i e) ∙ (let q : n ≡ n + 0 = omega arith in q);
      same_value = rw is refl;
      below = (let q : 0 < suc (length xs) = omega arith in q);
    }
here_or_after see test x xs n i false is rest e =
    let it = rest e in
    record {
      at = suc it.at;
      is = it.is ∙ (let q : n + 1 + it.at ≡ n + suc it.at = omega arith in q);
      same_value = rw is it.same_value;
      below = (let few : it.at < length xs = it.below in let q : suc it.at < suc (length xs) = omega arith in q);
    }

pub where_first : {X : Type 0} (see : X → Option Named) (test : Option Named → Bool) (xs : List X) (n i : ℕ) → position_from test n (map see xs) ≡ Some i
    → IsAt (λ x. test (see x)) xs n i
where_first see test [] n i e = absurd cc
where_first see test (x ∷ xs) n i e = here_or_after see test x xs n i (test (see x)) refl (where_first see test xs (n + 1) i) e

none_by : {X : Type 0} (b : Bool) (n : ℕ) (x : X) (o : Option ℕ) (p : Option X) → (o ≡ None → p ≡ None) → cond b (Some n) o ≡ None → cond b (Some x) p ≡ None
none_by true n x o p rest e = absurd cc
none_by false n x o p rest e = rest e

pub nowhere : {X : Type 0} (see : X → Option Named) (test : Option Named → Bool) (xs : List X) (n : ℕ) → position_from test n (map see xs) ≡ None → find (λ x. test (see x)) xs ≡ None
nowhere see test [] n e = refl
nowhere see test (x ∷ xs) n e = none_by (test (see x)) n x (position_from test (n + 1) (map see xs)) (find (λ y. test (see y)) xs) (nowhere see test xs (n + 1)) e

by_there : (b c : Bool) (n : ℕ) (o : Option ℕ) (r : Bool) → b ≡ c → is_some o ≡ r → is_some (cond b (Some n) o) ≡ (c || r)
by_there true c n o r e f = rw (sym e) refl
by_there false c n o r e f = rw (sym e) f

pub anywhere : (address : List ℕ) (changes : List ResourceChange) (n : ℕ)
    → is_some (position_from (is_named (pair address None)) n (at_addresses changes)) ≡ list_any (λ change. bytes_eq change.address address) changes
anywhere address [] n = refl
anywhere address (change ∷ changes) n =
    by_there (is_named (pair address None) (Some (pair change.address None))) (bytes_eq change.address address) n (position_from (is_named (pair address None)) (n + 1) (at_addresses changes))
    (list_any (λ other. bytes_eq other.address address) changes) (and_true (bytes_eq change.address address)) (anywhere address changes (n + 1))

-- the object of a change
abbrev pub object_of : ResourceChange → Option Named
object_of change = Some (pair change.address change.deposed)

abbrev pub address_of : ResourceChange → Option Named
address_of change = Some (pair change.address None)

pub so_many : (see : ResourceChange → Option Named) (changes : List ResourceChange) (i : ℕ) (change : ResourceChange) → Some change ≡ slice_get changes i → i ≡ length (map see (take i changes))
so_many see changes i change is =
    let below : i < length changes = slice_get_within changes i change (sym is) in
    sym (length-map (take i changes) see ∙ length-take-le i changes (omega arith))

pub one_more : (see : ResourceChange → Option Named) (changes : List ResourceChange) (i : ℕ) (change : ResourceChange) → Some change ≡ slice_get changes i
    → map see (take i changes) ++ see change ∷ [] ≡ map see (take (i + 1) changes)
one_more see changes i change is =
    let below : i < length changes = slice_get_within changes i change (sym is) in
    sym (map-append see (take i changes) (change ∷ []))
    ∙ ap (map see) (ap (λ (x : ResourceChange). take i changes ++ x ∷ []) (sym (get_or_from_slice_get changes i change change (sym is))) ∙ sym (take_more changes i change below))
