-- Members of a trimmed tree, as a reader adds them one by one in the order of their names.
use Rattle.std.proofs.Common.{◌≡◌, ℕ, List, Option, Some, None, Ordering, Less, Equal, Greater, nat_cmp, is_eq, refl, sym, ap, ◌∙◌}
use Rattle.std.specs.Prelude.{⊤}
use Rattle.std.specs.Cmp.Lexicographic.{slice_cmp}
use Rattle.std.specs.Option.{option_map_or}
use Rattle.std.specs.Ordering.{match_ordering, ordering_reverse}
use Rattle.std.proofs.lemmas.Cmp.{nat_list_cmp_total}
use Rattle.std.proofs.lemmas.Map.Text.{is_eq-slice_cmp}
use Rattle.std.proofs.lemmas.Slice.Eq.{bytes_eq-Decides}
use Rattle.serde_json.specs.Data.{Data, Members, no_members, member, put}
use Rattle.apply_json_tree.specs.Trimmed.{Selection, trimmed, trimmed_members}

abbrev pub order : List ℕ → List ℕ → Ordering
order = slice_cmp nat_cmp

-- a name is less than the names of all members
abbrev IsBefore : List ℕ → Members → Type 0
IsBefore k no_members = ⊤
IsBefore k (member l e ms) = (order k l ≡ Less) × IsBefore k ms

-- the members are in the order of their names
abbrev pub AreInOrder : Members → Type 0
AreInOrder no_members = ⊤
AreInOrder (member k d ms) = IsBefore k ms × AreInOrder ms

pub same_name : (k l : List ℕ) → order k l ≡ Equal → k ≡ l
same_name k l e = (bytes_eq-Decides k l).0 (sym (is_eq-slice_cmp k l) ∙ ap is_eq e)

turned : (k l : List ℕ) → order k l ≡ Greater → order l k ≡ Less
turned k l e = nat_list_cmp_total.antisymm l k ∙ ap ordering_reverse e

before_all : (k l : List ℕ) (ms : Members) → order k l ≡ Less → IsBefore l ms → IsBefore k ms
before_all k l no_members less h = tt
before_all k l (member m d ms) less h = (nat_list_cmp_total.trans k l m less h.0, before_all k l ms less h.1)

-- ---- putting a member keeps the order

before_put_at : (o : Ordering) (j k l : List ℕ) (d e : Data) (ms rest : Members) → order j k ≡ Less → order j l ≡ Less → IsBefore j ms → IsBefore j rest
    → IsBefore j (match_ordering o (member k d (member l e ms)) (member l d ms) (member l e rest))
before_put_at Less j k l d e ms rest first second h later = (first, (second, h))
before_put_at Equal j k l d e ms rest first second h later = (second, h)
before_put_at Greater j k l d e ms rest first second h later = (second, later)

before_put : (j k : List ℕ) (d : Data) (ms : Members) → order j k ≡ Less → IsBefore j ms → IsBefore j (put k d ms)
before_put j k d no_members less h = (less, tt)
before_put j k d (member l e ms) less h = before_put_at (order k l) j k l d e ms (put k d ms) less h.0 h.1 (before_put j k d ms less h.1)

put_in_order_at : (o : Ordering) (k l : List ℕ) (d e : Data) (ms : Members) → order k l ≡ o → IsBefore l ms → AreInOrder ms → AreInOrder (put k d ms)
    → AreInOrder (match_ordering o (member k d (member l e ms)) (member l d ms) (member l e (put k d ms)))
put_in_order_at Less k l d e ms is h later more = ((is, before_all k l ms is h), (h, later))
put_in_order_at Equal k l d e ms is h later more = (h, later)
put_in_order_at Greater k l d e ms is h later more = (before_put l k d ms (turned k l is) h, more)

pub put_in_order : (k : List ℕ) (d : Data) (ms : Members) → AreInOrder ms → AreInOrder (put k d ms)
put_in_order k d no_members h = (tt, tt)
put_in_order k d (member l e ms) h = put_in_order_at (order k l) k l d e ms refl h.0 h.1 (put_in_order k d ms h.1)

-- ---- putting a member that is stored

module _ {S : Type 0} (selection : Selection S) where
  -- a member that is stored, before the others
  abbrev pub with_known : Option S → List ℕ → Data → Members → Members
  with_known known l e rest = option_map_or (λ shape. member l (trimmed selection shape e) rest) known rest

  before_known : (known : Option S) (k l : List ℕ) (e : Data) (rest : Members) → order k l ≡ Less → IsBefore k rest → IsBefore k (with_known known l e rest)
  before_known None k l e rest less h = h
  before_known (Some shape) k l e rest less h = (less, h)

  before_trimmed : (shape : S) (k : List ℕ) (ms : Members) → IsBefore k ms → IsBefore k (trimmed_members selection shape ms)
  before_trimmed shape k no_members h = tt
  before_trimmed shape k (member l e ms) h = before_known (selection.member_shape shape l) k l e (trimmed_members selection shape ms) h.0 (before_trimmed shape k ms h.1)

  put_first : (k : List ℕ) (d : Data) (ms : Members) → IsBefore k ms → member k d ms ≡ put k d ms
  put_first k d no_members h = refl
  put_first k d (member l e ms) h = rw h.0 refl

  put_behind : (known : Option S) (k l : List ℕ) (d e : Data) (rest : Members) → order k l ≡ Greater → with_known known l e (put k d rest) ≡ put k d (with_known known l e rest)
  put_behind None k l d e rest is = refl
  put_behind (Some shape) k l d e rest is = rw is refl

  put_known_at : (o : Ordering) (shape known : S) (k l : List ℕ) (d e : Data) (ms : Members) → order k l ≡ o → selection.member_shape shape k ≡ Some known → IsBefore l ms
      → trimmed_members selection shape (put k d ms) ≡ put k (trimmed selection known d) (trimmed_members selection shape ms)
      → trimmed_members selection shape (match_ordering o (member k d (member l e ms)) (member l d ms) (member l e (put k d ms))) ≡ put k (trimmed selection known d) (trimmed_members selection shape (member l e ms))
  put_known_at Less shape known k l d e ms is looked h later =
      ap (λ o. with_known o k d (trimmed_members selection shape (member l e ms))) looked
      ∙ put_first k (trimmed selection known d) (trimmed_members selection shape (member l e ms)) (before_trimmed shape k (member l e ms) (is, before_all k l ms is h))
  put_known_at Equal shape known k l d e ms is looked h later =
      let there : selection.member_shape shape l ≡ Some known = ap (λ name. selection.member_shape shape name) (sym (same_name k l is)) ∙ looked in
      ap (λ o. with_known o l d (trimmed_members selection shape ms)) there
      ∙ (let placed : member l (trimmed selection known d) (trimmed_members selection shape ms) ≡ put k (trimmed selection known d) (member l (trimmed selection known e) (trimmed_members selection shape ms)) = rw is refl in placed)
      ∙ ap (λ o. put k (trimmed selection known d) (with_known o l e (trimmed_members selection shape ms))) (sym there)
  put_known_at Greater shape known k l d e ms is looked h later =
      ap (λ rest. with_known (selection.member_shape shape l) l e rest) later ∙ put_behind (selection.member_shape shape l) k l (trimmed selection known d) e (trimmed_members selection shape ms) is

  pub put_known : (shape known : S) (k : List ℕ) (d : Data) (ms : Members) → selection.member_shape shape k ≡ Some known → AreInOrder ms
      → trimmed_members selection shape (put k d ms) ≡ put k (trimmed selection known d) (trimmed_members selection shape ms)
  put_known shape known k d no_members looked h = ap (λ o. with_known o k d no_members) looked
  put_known shape known k d (member l e ms) looked h = put_known_at (order k l) shape known k l d e ms refl looked h.0 (put_known shape known k d ms looked h.1)

  -- a member that is stored, among the members of a reader
  pub known_kept : (shape known : S) (k : List ℕ) (d seen : Data) (ms old new : Members) → selection.member_shape shape k ≡ Some known → AreInOrder ms → new ≡ put k seen old → seen ≡ trimmed selection known d
      → old ≡ trimmed_members selection shape ms → new ≡ trimmed_members selection shape (put k d ms)
  known_kept shape known k d seen ms old new looked h placed is so_far =
      placed ∙ ap (λ (x : Data). put k x old) is ∙ ap (put k (trimmed selection known d)) so_far ∙ sym (put_known shape known k d ms looked h)

  -- ---- putting a member that is skipped

  put_unknown_at : (o : Ordering) (shape : S) (k l : List ℕ) (d e : Data) (ms : Members) → order k l ≡ o → selection.member_shape shape k ≡ None
      → trimmed_members selection shape (put k d ms) ≡ trimmed_members selection shape ms
      → trimmed_members selection shape (match_ordering o (member k d (member l e ms)) (member l d ms) (member l e (put k d ms))) ≡ trimmed_members selection shape (member l e ms)
  put_unknown_at Less shape k l d e ms is nobody later = ap (λ o. with_known o k d (trimmed_members selection shape (member l e ms))) nobody
  put_unknown_at Equal shape k l d e ms is nobody later =
      let there : selection.member_shape shape l ≡ None = ap (λ name. selection.member_shape shape name) (sym (same_name k l is)) ∙ nobody in
      ap (λ o. with_known o l d (trimmed_members selection shape ms)) there ∙ ap (λ o. with_known o l e (trimmed_members selection shape ms)) (sym there)
  put_unknown_at Greater shape k l d e ms is nobody later = ap (λ rest. with_known (selection.member_shape shape l) l e rest) later

  pub put_unknown : (shape : S) (k : List ℕ) (d : Data) (ms : Members) → selection.member_shape shape k ≡ None → trimmed_members selection shape (put k d ms) ≡ trimmed_members selection shape ms
  put_unknown shape k d no_members nobody = ap (λ o. with_known o k d no_members) nobody
  put_unknown shape k d (member l e ms) nobody = put_unknown_at (order k l) shape k l d e ms refl nobody (put_unknown shape k d ms nobody)
