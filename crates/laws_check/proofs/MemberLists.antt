-- What holds of each member of an object holds of a member that is put in, and of the member that a
-- lookup gives.
use Rattle.std.proofs.Common.{◌≡◌, ℕ, List, Option, Some, None, Ordering, Less, Equal, Greater, refl, sym, subst}
use Rattle.std.specs.Prelude.{⊤, IfSome}
use Rattle.std.specs.Cmp.Lexicographic.{slice_cmp}
use Rattle.std.specs.Ordering.{nat_cmp, match_ordering}
use Rattle.std.proofs.lemmas.Map.Lookups.{exact_bytes}
use Rattle.serde_json.specs.Data.{Data, null, boolean, number, string, array, object, Members, no_members, member, put}
use Rattle.serde_json.specs.Find.{as_object, get, get_member}
use Rattle.apply_json.specs.Tree.{unless_null}

module _ (P : List ℕ → Data → Type 0) where
  abbrev pub AllMembers : Members → Type 0
  AllMembers no_members = ⊤
  AllMembers (member k d ms) = P k d × AllMembers ms

  pub put_one : (k : List ℕ) (d : Data) (ms : Members) → P k d → AllMembers ms → AllMembers (put k d ms)
  put_one k d no_members one others = (one, tt)
  put_one k d (member l e ms) one others = by_order (slice_cmp nat_cmp k l) (exact_bytes k l) (put_one k d ms one others.1)
    where
      by_order : (o : Ordering) → (o ≡ Equal → k ≡ l) → AllMembers (put k d ms) → AllMembers (match_ordering o (member k d (member l e ms)) (member l d ms) (member l e (put k d ms)))
      by_order Less same rest = (one, others)
      by_order Equal same rest = (subst (λ (name : List ℕ). P name d) (same refl) one, others.1)
      by_order Greater same rest = (others.0, rest)

  among : (k : List ℕ) (ms : Members) → AllMembers ms → IfSome (get_member k ms) (P k)
  among k no_members all = tt
  among k (member l e ms) all = by_order (slice_cmp nat_cmp k l) (exact_bytes k l) (get_member k ms) (among k ms all.1)
    where
      by_order : (o : Ordering) → (o ≡ Equal → k ≡ l) → (located : Option Data) → IfSome located (P k) → IfSome (match_ordering o located (Some e) located) (P k)
      by_order Less same located rest = rest
      by_order Equal same located rest = subst (λ (name : List ℕ). P name e) (sym (same refl)) all.0
      by_order Greater same located rest = rest

  -- in a value that may be an object
  pub found_in : (k : List ℕ) (d : Data) → IfSome (as_object d) AllMembers → IfSome (get k d) (P k)
  found_in k null all = tt
  found_in k (boolean b) all = tt
  found_in k (number n) all = tt
  found_in k (string s) all = tt
  found_in k (array ds) all = tt
  found_in k (object ms) all = among k ms all

pub not_null : (P : Data → Type 0) (d : Data) → P d → IfSome (unless_null d) P
not_null P null h = tt
not_null P (boolean b) h = h
not_null P (number n) h = h
not_null P (string s) h = h
not_null P (array ds) h = h
not_null P (object ms) h = h

-- a weaker fact of what may be there
pub weaker : {A : Type 0} (P Q : A → Type 0) (o : Option A) → ((x : A) → P x → Q x) → IfSome o P → IfSome o Q
weaker P Q None step h = tt
weaker P Q (Some x) step h = step x h
