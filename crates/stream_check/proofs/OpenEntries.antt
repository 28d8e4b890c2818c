-- All that stands open, as a list.
use Rattle.std.proofs.Common.{◌≡◌, ℕ, List, [], ◌∷◌, ◌++◌, map, Bool, true, false, Option, Some, None, Less, refl, sym, ap, subst, ◌∙◌, ⊎_elim, unwrap_or, String, Global}
use Rattle.std.specs.Prelude.{◌||◌, IsSome, not, nat_lt, IfOk, Result, Ok, Err}
use Rattle.std.specs.BTreeMap.{get_by_text, is_at}
use Rattle.std.specs.Cmp.Lexicographic.{slice_cmp}
use Rattle.std.specs.List.{AllByRecursion, flat_map, list_any}
use Rattle.std.specs.List.Sorted.{IsStrictlySortedBy}
use Rattle.std.specs.Map.{keys_of, lookup}
use Rattle.std.specs.Ordering.{is_eq, nat_cmp}
use Rattle.std.specs.Str.{bytes_eq}
use Rattle.std.specs.String.{string_bytes, string_cmp}
use Rattle.std.proofs.lemmas.Bool.{cases_Bool}
use Rattle.std.proofs.lemmas.Grind.{flat_map-append}
use Rattle.std.proofs.lemmas.List.{append-nil, map-append}
use Rattle.std.proofs.lemmas.Map.Text.{is_eq-slice_cmp}
use Rattle.stream_check.specs.declared.rules.checker.Checker.{Checker}
use Rattle.stream_check.specs.declared.rules.open_entry.OpenEntry.{OpenEntry}
use Rattle.stream_check.specs.declared.rules.address_state.AddressState.{AddressState}
use Rattle.stream_check.specs.declared.rules.tally.Tally.{Tally}
use Rattle.stream_check.specs.Addresses.{addresses_in}
use Rattle.stream_check.specs.Checking.{HasRead}
use Rattle.stream_check.specs.Message.{Message}
use Rattle.stream_check.specs.Open.{stands_open}
use Rattle.stream_check.specs.AddressState.{idle, state_of}
use Rattle.stream_check.specs.Unbegun.{AreAllUnbegun, unbegun_at, unbegun_entry}
use Rattle.stream_check.specs.Unended.{AreAllOpen, Opened, opened, opens_at, opens_of}
use Rattle.stream_check.proofs.Held.{state_found, same_matters}
use Rattle.stream_check.proofs.OpenSteps.{idle_is_closed}
use Rattle.stream_check.proofs.Unbegun.{entry_where, found_where}

-- ---- one address after another

-- the list of one more
pub grows : {A : Type 0} (f : List ℕ → List Opened) (g : A → List ℕ) (ys : List A) (y : A) (old new : List Opened) → old ≡ flat_map f (map g ys) → new ≡ old ++ f (g y) → new ≡ flat_map f (map g (ys ++ y ∷ []))
grows f g ys y old new so_far more =
    more ∙ ap (λ (l : List Opened). l ++ f (g y)) so_far
    ∙ sym
    (ap (flat_map f) (map-append g ys (y ∷ [])) ∙ flat_map-append f (map g ys) (g y ∷ [])
    ∙ ap (λ (l : List Opened). flat_map f (map g ys) ++ l) (append-nil (f (g y))))

below_all : (k : String Global) (ks : List (String Global)) → AllByRecursion (λ (l : String Global). string_cmp k l ≡ Less) ks
    → AllByRecursion (λ (b : List ℕ). slice_cmp nat_cmp (string_bytes k) b ≡ Less) (map string_bytes ks)
below_all k [] below = below
below_all k (l ∷ ls) below = (below.0, below_all k ls below.1)

-- texts in order, as bytes in order
pub in_order_too : (ks : List (String Global)) → IsStrictlySortedBy string_cmp ks → IsStrictlySortedBy (slice_cmp nat_cmp) (map string_bytes ks)
unfolding IsStrictlySortedBy
in_order_too [] sorted = sorted
in_order_too (k ∷ ks) sorted = (below_all k ks sorted.0, in_order_too ks sorted.1)

-- ---- each address at which something stands open

-- what is found in a map is among its addresses
pub found_among : (es : List (String Global × AddressState)) (a : List ℕ) → IsSome (lookup (is_at (λ (k : String Global). slice_cmp nat_cmp a (string_bytes k))) es) → list_any (bytes_eq a) (map string_bytes (keys_of es)) ≡ true
found_among [] a there = absurd cc
found_among (e ∷ es) a there =
    ⊎_elim
    (λ (yes : is_eq (slice_cmp nat_cmp a (string_bytes e.0)) ≡ true). ap (λ (b : Bool). b || list_any (bytes_eq a) (map string_bytes (keys_of es))) (sym (is_eq-slice_cmp a (string_bytes e.0)) ∙ yes))
    (λ (no : is_eq (slice_cmp nat_cmp a (string_bytes e.0)) ≡ false).
    ap (λ (b : Bool). b || list_any (bytes_eq a) (map string_bytes (keys_of es))) (sym (is_eq-slice_cmp a (string_bytes e.0)) ∙ no) ∙ found_among es a (rw no at there))
    (cases_Bool (is_eq (slice_cmp nat_cmp a (string_bytes e.0))))

-- where something stands open, something is found
open_is_found : (r f : Bool) (o : Option AddressState) → stands_open r f (unwrap_or o idle) ≡ true → IsSome o
open_is_found r f None there = let no = idle_is_closed r f in absurd cc
open_is_found r f (Some s) there = refl

-- ---- what the checker lists

pub same_lists : (f g : List ℕ → List Opened) (bs : List (List ℕ)) → ((a : List ℕ) → f a ≡ g a) → flat_map f bs ≡ flat_map g bs
same_lists f g [] same = refl
same_lists f g (b ∷ bs) same = ap (λ (l : List Opened). l ++ flat_map f bs) (same b) ∙ ap (λ (l : List Opened). g b ++ l) (same_lists f g bs same)

pub all_listed : (checker : Checker) (messages : List Message) (entries : List OpenEntry) → HasRead checker messages → IsStrictlySortedBy (slice_cmp nat_cmp) (addresses_in checker.pending.states)
    → map opened entries ≡ flat_map (λ (a : List ℕ). opens_of (not checker.tally.has_failed) (nat_lt checker.tally.errors_without_address checker.tally.failures) a (unwrap_or (get_by_text checker.pending.states a) idle)) (addresses_in checker.pending.states)
    → AreAllOpen messages entries
all_listed checker messages entries read sorted listed = record {
  addresses = addresses_in checker.pending.states;
  in_order = sorted;
  listed = listed ∙ same_lists _ (opens_at messages) (addresses_in checker.pending.states) same;
  all = λ a there. found_among checker.pending.states.entries a (open_is_found (not checker.tally.has_failed) (nat_lt checker.tally.errors_without_address checker.tally.failures) (get_by_text checker.pending.states a) (same_matters checker messages read a ∙ there));
}
  where
    same : (a : List ℕ) → opens_of (not checker.tally.has_failed) (nat_lt checker.tally.errors_without_address checker.tally.failures) a (unwrap_or (get_by_text checker.pending.states a) idle) ≡ opens_at messages a
    same a =
        ap (opens_of (not checker.tally.has_failed) (nat_lt checker.tally.errors_without_address checker.tally.failures) a) (state_found checker messages read a)
        ∙ ap (λ (t : Tally). opens_of (not t.has_failed) (nat_lt t.errors_without_address t.failures) a (state_of a messages)) read.tally

-- what the checker lists of planned creates that have not begun
pub unbegun_listed : (checker : Checker) (messages : List Message) (entries : List OpenEntry) → HasRead checker messages → IsStrictlySortedBy (slice_cmp nat_cmp) (addresses_in checker.unbegun.waiting.states)
    → map opened entries ≡ flat_map (λ (a : List ℕ). opens_of false false a (unwrap_or (get_by_text checker.unbegun.waiting.states a) idle)) (addresses_in checker.unbegun.waiting.states)
    → AreAllUnbegun messages entries
unbegun_listed checker messages entries read sorted listed = record {
  addresses = addresses_in checker.unbegun.waiting.states;
  in_order = sorted;
  listed = listed ∙ same_lists _ (unbegun_entry messages) (addresses_in checker.unbegun.waiting.states) same;
  all = λ a there. found_among checker.unbegun.waiting.states.entries a (subst (λ (o : Option AddressState). IsSome o) (sym (read.unbegun a)) (found_where (unbegun_at a messages) there));
}
  where
    same : (a : List ℕ) → opens_of false false a (unwrap_or (get_by_text checker.unbegun.waiting.states a) idle) ≡ unbegun_entry messages a
    same a =
        ap (λ (o : Option AddressState). opens_of false false a (unwrap_or o idle)) (read.unbegun a) ∙ entry_where a (unbegun_at a messages)

-- the same, where the list was made by what matters
abbrev listed_by : Checker → Bool → Bool → List (List ℕ) → List Opened
listed_by checker r f addresses = flat_map (λ (a : List ℕ). opens_of r f a (unwrap_or (get_by_text checker.pending.states a) idle)) addresses

pub listed_where : (checker : Checker) (messages : List Message) (entries : List OpenEntry) (r f : Bool) → r ≡ not checker.tally.has_failed → f ≡ nat_lt checker.tally.errors_without_address checker.tally.failures
    → HasRead checker messages → IsStrictlySortedBy (slice_cmp nat_cmp) (addresses_in checker.pending.states)
    → map opened entries ≡ listed_by checker r f (addresses_in checker.pending.states) → AreAllOpen messages entries
listed_where checker messages entries r f refreshes failures read sorted listed =
    all_listed checker messages entries read sorted
    (listed ∙ ap (λ (x : Bool). listed_by checker x f (addresses_in checker.pending.states)) refreshes ∙ ap (λ (x : Bool). listed_by checker (not checker.tally.has_failed) x (addresses_in checker.pending.states)) failures)

-- what follows from two facts about an answer
pub from_both : {T E : Type 0} (r : Result T E) (P Q R : T → Type 0) → ((x : T) → P x → Q x → R x) → IfOk r P → IfOk r Q → IfOk r R
from_both (Ok x) P Q R f p q = f x p q
from_both (Err e) P Q R f p q = p
