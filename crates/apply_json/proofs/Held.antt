-- What a slot holds after some members were read.
use Rattle.std.proofs.Common.{◌≡◌, ℕ, List, true, false, Option, Some, None, refl, sym, ap, ◌∙◌}
use Rattle.std.specs.Str.{bytes_eq}
use Rattle.std.proofs.lemmas.Slice.Eq.{bytes_eq-Decides}
use Rattle.serde_json.specs.Data.{Data, null, boolean, number, string, array, object, Members, put}
use Rattle.serde_json.specs.Find.{as_number, as_str, as_u64, get, get_member}
use Rattle.serde_json.proofs.Views.{get_member-put, get_member-put_other}
use Rattle.apply_json.specs.ShallowView.{members_in, shallow_of, shallow_text, shallow_text_or, shallow_whole}
use Rattle.apply_json.specs.Tree.{◌>>=◌, member_of, text_of, text_or, unless_null}

pub is_name : (k q : List ℕ) → bytes_eq k q ≡ true → k ≡ q
is_name k q found = (bytes_eq-Decides k q).0 found

differ : (k q : List ℕ) → bytes_eq k q ≡ false → q ≡ k → ⊥
differ k q apart same = let equal : bytes_eq k q ≡ true = (bytes_eq-Decides k q).1 (sym same) in cc

-- a slot holds the member of its name
module _ {V : Type 0} (see : Option Data → V) (q k : List ℕ) (d : Data) (ms : Members) (slot : V) where
  -- a member of this name replaces the value of the slot
  pub taken : bytes_eq k q ≡ true → slot ≡ see (Some d) → slot ≡ see (get_member q (put k d ms))
  taken same is = is ∙ ap see (sym (get_member-put q d ms)) ∙ ap (λ (name : List ℕ). see (get_member q (put name d ms))) (sym (is_name k q same))

  -- a member of another name leaves the slot unchanged
  pub left : bytes_eq k q ≡ false → slot ≡ see (get_member q ms) → slot ≡ see (get_member q (put k d ms))
  left other so_far = so_far ∙ ap see (sym (get_member-put_other q k d ms (differ k q other)))

-- ---- lookups in a value, by its members

pub get_in : (name : List ℕ) (d : Data) → get name d ≡ get_member name (members_in d)
get_in name null = refl
get_in name (boolean b) = refl
get_in name (number n) = refl
get_in name (string s) = refl
get_in name (array ds) = refl
get_in name (object ms) = refl

pub member_in : (name : List ℕ) (d : Data) → member_of name d ≡ (get_member name (members_in d) >>= unless_null)
member_in name d = ap (λ o. o >>= unless_null) (get_in name d)

text_is : (o : Option Data) → ((o >>= unless_null) >>= as_str) ≡ shallow_text (shallow_of o)
text_is None = refl
text_is (Some null) = refl
text_is (Some (boolean b)) = refl
text_is (Some (number n)) = refl
text_is (Some (string s)) = refl
text_is (Some (array ds)) = refl
text_is (Some (object ms)) = refl

pub text_in : (name : List ℕ) (d : Data) → text_of name d ≡ shallow_text (shallow_of (get_member name (members_in d)))
text_in name d = ap (λ o. o >>= as_str) (member_in name d) ∙ text_is (get_member name (members_in d))

text_or_is : (missing : List ℕ) (o : Option Data) → text_or missing (o >>= unless_null) ≡ shallow_text_or missing (shallow_of o)
text_or_is missing None = refl
text_or_is missing (Some null) = refl
text_or_is missing (Some (boolean b)) = refl
text_or_is missing (Some (number n)) = refl
text_or_is missing (Some (string s)) = refl
text_or_is missing (Some (array ds)) = refl
text_or_is missing (Some (object ms)) = refl

pub text_or_in : (missing name : List ℕ) (d : Data) → text_or missing (member_of name d) ≡ shallow_text_or missing (shallow_of (get_member name (members_in d)))
text_or_in missing name d = ap (text_or missing) (member_in name d) ∙ text_or_is missing (get_member name (members_in d))

whole_is : (o : Option Data) → (((o >>= unless_null) >>= as_number) >>= as_u64) ≡ shallow_whole (shallow_of o)
whole_is None = refl
whole_is (Some null) = refl
whole_is (Some (boolean b)) = refl
whole_is (Some (number n)) = refl
whole_is (Some (string s)) = refl
whole_is (Some (array ds)) = refl
whole_is (Some (object ms)) = refl

pub whole_in : (name : List ℕ) (d : Data) → ((member_of name d >>= as_number) >>= as_u64) ≡ shallow_whole (shallow_of (get_member name (members_in d)))
whole_in name d = ap (λ o. (o >>= as_number) >>= as_u64) (member_in name d) ∙ whole_is (get_member name (members_in d))
