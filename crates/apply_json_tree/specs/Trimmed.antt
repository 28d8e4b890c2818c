-- Trimmed trees: trees that have only the members and items that a shape selects.
use Rattle.std.specs.Prelude.{◌≡◌, ℕ, zero, suc, List, Bool, true, nat_lt, Option, Some, None}
use Rattle.std.specs.Option.{option_map_or}
use Rattle.serde_json.specs.Data.{Data, null, boolean, number, string, array, object, Items, no_items, item, Members, no_members, member}
use Rattle.apply_json.specs.Tree.{tree_of}

-- the members and items that a trimmed tree has, by the shape of their value
pub record Selection (S : Type 0) : Type 0 where
  -- the shape of the member of this name; none if the member is left out
  pub member_shape : S → List ℕ → Option S
  -- the shape of each item
  pub item_shape : S → S
  -- how many items the tree has, from the first; none means all
  pub item_limit : S → Option ℕ

-- whether the tree has an item after `count` others
abbrev pub is_within : Option ℕ → ℕ → Bool
is_within None count = true
is_within (Some limit) count = nat_lt count limit

abbrev mutual
  -- a value without the members and items that are left out
  pub trimmed : {S : Type 0} → Selection S → S → Data → Data
  trimmed selection shape null = null
  trimmed selection shape (boolean b) = boolean b
  trimmed selection shape (number n) = number n
  trimmed selection shape (string s) = string s
  trimmed selection shape (array ds) =
      array (trimmed_items selection (selection.item_shape shape) (selection.item_limit shape) ds)
  trimmed selection shape (object ms) = object (trimmed_members selection shape ms)

  -- the first items, up to the limit if there is one
  pub trimmed_items : {S : Type 0} → Selection S → S → Option ℕ → Items → Items
  trimmed_items selection shape limit no_items = no_items
  trimmed_items selection shape (Some zero) (item d ds) = no_items
  trimmed_items selection shape (Some (suc count)) (item d ds) =
      item (trimmed selection shape d) (trimmed_items selection shape (Some count) ds)
  trimmed_items selection shape None (item d ds) = item (trimmed selection shape d) (trimmed_items selection shape None ds)

  pub trimmed_members : {S : Type 0} → Selection S → S → Members → Members
  trimmed_members selection shape no_members = no_members
  trimmed_members selection shape (member name d ms) =
      option_map_or (λ known. member name (trimmed selection known d) (trimmed_members selection shape ms))
      (selection.member_shape shape name) (trimmed_members selection shape ms)

-- `tree` is the trimmed tree of the bytes
abbrev pub IsTrimmedTree : {S : Type 0} → Selection S → S → List ℕ → Data → Type 0
IsTrimmedTree selection shape bytes tree = (whole : Data) × (tree_of bytes ≡ Some whole) × (tree ≡ trimmed selection shape whole)
