-- Lookups give the same in a trimmed tree, for members that its shape selects.
use Rattle.std.proofs.Common.{◌≡◌, ℕ, List, Option, Some, None, option_map, Ordering, Less, Equal, Greater, refl, sym, ap, ◌∙◌}
use Rattle.std.specs.Ordering.{match_ordering}
use Rattle.serde_json.specs.Data.{Data, null, boolean, number, string, array, object, Members, no_members, member}
use Rattle.serde_json.specs.Find.{as_array, as_bool, as_number, as_str, get, get_member}
use Rattle.apply_json.specs.Tree.{◌>>=◌, is_word, member_of, non_empty_text_of, text_of, text_or, unless_empty, unless_null}
use Rattle.apply_json_tree.specs.Trimmed.{Selection, trimmed, trimmed_items, trimmed_members}
use Rattle.apply_json_tree.proofs.Trimmed.Members.{order, same_name, with_known}

-- a lookup after another lookup
pub bind_mapped : {A B : Type 0} (g : A → A) (f h : A → Option B) → ((x : A) → f (g x) ≡ h x) → (o : Option A) → (option_map g o >>= f) ≡ (o >>= h)
bind_mapped g f h same None = refl
bind_mapped g f h same (Some x) = same x

module _ {S : Type 0} (selection : Selection S) where
  not_less : (known : Option S) (k l : List ℕ) (e : Data) (rest : Members) → order k l ≡ Less → get_member k (with_known selection known l e rest) ≡ get_member k rest
  not_less None k l e rest is = refl
  not_less (Some shape) k l e rest is = rw is refl

  not_greater : (known : Option S) (k l : List ℕ) (e : Data) (rest : Members) → order k l ≡ Greater → get_member k (with_known selection known l e rest) ≡ get_member k rest
  not_greater None k l e rest is = refl
  not_greater (Some shape) k l e rest is = rw is refl

  get_member_trimmed_at : (o : Ordering) (shape known : S) (k l : List ℕ) (e : Data) (ms : Members) → order k l ≡ o → selection.member_shape shape k ≡ Some known
      → get_member k (trimmed_members selection shape ms) ≡ option_map (trimmed selection known) (get_member k ms)
      → get_member k (trimmed_members selection shape (member l e ms)) ≡ option_map (trimmed selection known) (match_ordering o (get_member k ms) (Some e) (get_member k ms))
  get_member_trimmed_at Less shape known k l e ms is looked later = not_less (selection.member_shape shape l) k l e (trimmed_members selection shape ms) is ∙ later
  get_member_trimmed_at Equal shape known k l e ms is looked later =
      let there : selection.member_shape shape l ≡ Some known = ap (λ name. selection.member_shape shape name) (sym (same_name k l is)) ∙ looked in
      let here : get_member k (member l (trimmed selection known e) (trimmed_members selection shape ms)) ≡ Some (trimmed selection known e) = rw is refl in
      ap (λ o. get_member k (with_known selection o l e (trimmed_members selection shape ms))) there ∙ here
  get_member_trimmed_at Greater shape known k l e ms is looked later = not_greater (selection.member_shape shape l) k l e (trimmed_members selection shape ms) is ∙ later

  get_member_trimmed : (shape known : S) (k : List ℕ) (ms : Members) → selection.member_shape shape k ≡ Some known → get_member k (trimmed_members selection shape ms) ≡ option_map (trimmed selection known) (get_member k ms)
  get_member_trimmed shape known k no_members looked = refl
  get_member_trimmed shape known k (member l e ms) looked = get_member_trimmed_at (order k l) shape known k l e ms refl looked (get_member_trimmed shape known k ms looked)

  pub get_trimmed : (shape known : S) (k : List ℕ) (d : Data) → selection.member_shape shape k ≡ Some known → get k (trimmed selection shape d) ≡ option_map (trimmed selection known) (get k d)
  get_trimmed shape known k null looked = refl
  get_trimmed shape known k (boolean b) looked = refl
  get_trimmed shape known k (number n) looked = refl
  get_trimmed shape known k (string s) looked = refl
  get_trimmed shape known k (array ds) looked = refl
  get_trimmed shape known k (object ms) looked = get_member_trimmed shape known k ms looked

  unless_null_trimmed : (shape : S) (o : Option Data) → (option_map (trimmed selection shape) o >>= unless_null) ≡ option_map (trimmed selection shape) (o >>= unless_null)
  unless_null_trimmed shape None = refl
  unless_null_trimmed shape (Some null) = refl
  unless_null_trimmed shape (Some (boolean b)) = refl
  unless_null_trimmed shape (Some (number n)) = refl
  unless_null_trimmed shape (Some (string s)) = refl
  unless_null_trimmed shape (Some (array ds)) = refl
  unless_null_trimmed shape (Some (object ms)) = refl

  pub member_trimmed : (shape known : S) (k : List ℕ) (d : Data) → selection.member_shape shape k ≡ Some known → member_of k (trimmed selection shape d) ≡ option_map (trimmed selection known) (member_of k d)
  member_trimmed shape known k d looked = ap (λ o. o >>= unless_null) (get_trimmed shape known k d looked) ∙ unless_null_trimmed known (get k d)

  -- ---- facts about a value by itself

  pub as_str_trimmed : (shape : S) (d : Data) → as_str (trimmed selection shape d) ≡ as_str d
  as_str_trimmed shape null = refl
  as_str_trimmed shape (boolean b) = refl
  as_str_trimmed shape (number n) = refl
  as_str_trimmed shape (string s) = refl
  as_str_trimmed shape (array ds) = refl
  as_str_trimmed shape (object ms) = refl

  pub as_bool_trimmed : (shape : S) (d : Data) → as_bool (trimmed selection shape d) ≡ as_bool d
  as_bool_trimmed shape null = refl
  as_bool_trimmed shape (boolean b) = refl
  as_bool_trimmed shape (number n) = refl
  as_bool_trimmed shape (string s) = refl
  as_bool_trimmed shape (array ds) = refl
  as_bool_trimmed shape (object ms) = refl

  pub as_number_trimmed : (shape : S) (d : Data) → as_number (trimmed selection shape d) ≡ as_number d
  as_number_trimmed shape null = refl
  as_number_trimmed shape (boolean b) = refl
  as_number_trimmed shape (number n) = refl
  as_number_trimmed shape (string s) = refl
  as_number_trimmed shape (array ds) = refl
  as_number_trimmed shape (object ms) = refl

  pub as_array_trimmed : (shape : S) (d : Data) → as_array (trimmed selection shape d) ≡ option_map (trimmed_items selection (selection.item_shape shape) (selection.item_limit shape)) (as_array d)
  as_array_trimmed shape null = refl
  as_array_trimmed shape (boolean b) = refl
  as_array_trimmed shape (number n) = refl
  as_array_trimmed shape (string s) = refl
  as_array_trimmed shape (array ds) = refl
  as_array_trimmed shape (object ms) = refl

  pub is_word_trimmed : (shape : S) (word : List ℕ) (d : Data) → is_word word (trimmed selection shape d) ≡ is_word word d
  is_word_trimmed shape word d = rw (as_str_trimmed shape d) refl

  -- ---- a lookup in a member

  pub behind_trimmed : {B : Type 0} (shape known : S) (k : List ℕ) (f h : Data → Option B) (d : Data) → selection.member_shape shape k ≡ Some known
      → ((x : Data) → f (trimmed selection known x) ≡ h x) → (member_of k (trimmed selection shape d) >>= f) ≡ (member_of k d >>= h)
  behind_trimmed shape known k f h d looked same =
      ap (λ o. o >>= f) (member_trimmed shape known k d looked) ∙ bind_mapped (trimmed selection known) f h same (member_of k d)

  pub text_trimmed : (shape known : S) (k : List ℕ) (d : Data) → selection.member_shape shape k ≡ Some known → text_of k (trimmed selection shape d) ≡ text_of k d
  text_trimmed shape known k d looked = behind_trimmed shape known k as_str as_str d looked (as_str_trimmed known)

  pub non_empty_text_trimmed : (shape known : S) (k : List ℕ) (d : Data) → selection.member_shape shape k ≡ Some known → non_empty_text_of k (trimmed selection shape d) ≡ non_empty_text_of k d
  non_empty_text_trimmed shape known k d looked = ap (λ o. o >>= unless_empty) (text_trimmed shape known k d looked)

  text_or_at : (known : S) (absent : List ℕ) (o : Option Data) → text_or absent (option_map (trimmed selection known) o) ≡ text_or absent o
  text_or_at known absent None = refl
  text_or_at known absent (Some d) = as_str_trimmed known d

  pub text_or_trimmed : (shape known : S) (absent k : List ℕ) (d : Data) → selection.member_shape shape k ≡ Some known → text_or absent (member_of k (trimmed selection shape d)) ≡ text_or absent (member_of k d)
  text_or_trimmed shape known absent k d looked = ap (text_or absent) (member_trimmed shape known k d looked) ∙ text_or_at known absent (member_of k d)
