-- A mixed tree exists if and only if the tree of the value does, and both agree outside of the
-- verbatim members.
use Rattle.std.proofs.Common.{◌≡◌, List, [], ℕ, Bool, true, false, Option, Some, None, is_some, option_map, option_and_then, refl, sym, ap, ◌∙◌, ⊎_elim}
use Rattle.std.specs.Prelude.{if◌then◌else◌}
use Rattle.std.specs.Str.{is_utf8}
use Rattle.std.proofs.lemmas.Bool.{cases_Bool}
use Rattle.json.specs.Token.{Token}
use Rattle.json.specs.Json as json
use Rattle.json.specs.Json.{parse_map, value}
use Rattle.json.specs.Lex.{tokens}
use Rattle.serde_json.specs.Data.{Data, null, boolean, number, string, array, object, Items, no_items, item, Members, no_members, put}
use Rattle.serde_json.specs.Read.{converted, max_depth, number_of, of_items, of_json, of_members}
use Rattle.apply_json.specs.Verbatim.{IsMixedMember, IsMixedRead, IsNoMixedTree, as_verbatim, mixed_tree, mixed_items, mixed_member, mixed_members, mixed_tree_of, none_verbatim, verbatim}
use Rattle.apply_json.specs.declared.json_fault.JsonFault.{JsonFault}
use Rattle.apply_json.specs.declared.json_fault.JsonFault.TheVariants.{TooLarge, NotJson, Memory}
use Rattle.apply_json.specs.declared.array_presence.ArrayPresence.TheVariants as kind
use Rattle.apply_json.specs.declared.shallow.Shallow.{Shallow}
use Rattle.apply_json.specs.declared.shallow.Shallow.TheVariants as shallow
use Rattle.apply_json.specs.ShallowView.{IsScalar, absent, items_in, array_presence, members_in, shallow_view, shallow_of}
use Rattle.apply_json.specs.Parsed.{IsNoTree}
use Rattle.apply_json.specs.Tokens.{IsRead}
use Rattle.apply_json.specs.Tree.{list_of, tree_of}
use Rattle.apply_json.proofs.Turns.{converted_some, refused}

-- ---- a value has both trees or neither

mapped : {A B : Type 0} (f : A → B) (o : Option A) → is_some (option_map f o) ≡ is_some o
mapped f None = refl
mapped f (Some a) = refl

behind_both : {A B C D : Type 0} (o : Option A) (q : Option B) (f : A → Option C) (g : B → Option D) → is_some o ≡ is_some q → ((a : A) (b : B) → is_some (f a) ≡ is_some (g b))
    → is_some (option_and_then f o) ≡ is_some (option_and_then g q)
behind_both None None f g same next = refl
behind_both None (Some b) f g same next = absurd cc
behind_both (Some a) None f g same next = absurd cc
behind_both (Some a) (Some b) f g same next = next a b

there : {A : Type 0} (o : Option A) → is_some o ≡ true → (a : A) × (o ≡ Some a)
there None is = absurd cc
there (Some a) is = (a, refl)

none : {A : Type 0} (o : Option A) → is_some o ≡ false → o ≡ None
none None is = refl
none (Some a) is = absurd cc

module _ (is_verbatim : List ℕ → Bool) where
  either : (b : Bool) (j : json.Json) → is_some (mixed_tree is_verbatim j) ≡ is_some (of_json j) → is_some (if b then as_verbatim j else mixed_tree is_verbatim j) ≡ is_some (of_json j)
  either true j same = mapped (λ tree. string (verbatim j)) (of_json j)
  either false j same = same

  mutual
    known : (j : json.Json) → is_some (mixed_tree is_verbatim j) ≡ is_some (of_json j)
    known json.null = refl
    known (json.boolean b) = refl
    known (json.number s) = refl
    known (json.string s) = refl
    known (json.array js) = mapped array (mixed_items is_verbatim js) ∙ known_items js ∙ sym (mapped array (of_items js))
    known (json.object ms) = mapped object (mixed_members is_verbatim ms no_members) ∙ known_members ms no_members no_members ∙ sym (mapped object (of_members ms no_members))

    known_items : (js : json.Items) → is_some (mixed_items is_verbatim js) ≡ is_some (of_items js)
    known_items json.no_items = refl
    known_items (json.item j js) =
        behind_both (mixed_tree is_verbatim j) (of_json j) (λ d. option_map (item d) (mixed_items is_verbatim js)) (λ d. option_map (item d) (of_items js)) (known j)
        (λ d e. mapped (item d) (mixed_items is_verbatim js) ∙ known_items js ∙ sym (mapped (item e) (of_items js)))

    known_members : (ms : json.Members) (a b : Members) → is_some (mixed_members is_verbatim ms a) ≡ is_some (of_members ms b)
    known_members json.no_members a b = refl
    known_members (json.member k j ms) a b =
        behind_both (mixed_member is_verbatim k j) (of_json j) (λ d. mixed_members is_verbatim ms (put k d a)) (λ d. of_members ms (put k d b)) (either (is_verbatim k) j (known j))
        (λ d e. known_members ms (put k d a) (put k e b))

  known_member : (k : List ℕ) (j : json.Json) → is_some (mixed_member is_verbatim k j) ≡ is_some (of_json j)
  known_member k j = either (is_verbatim k) j (known j)

  -- ---- a value before other tokens has both trees or neither

  -- one tree exists if the other does
  carried : {A B C : Type 0} (f : A → Option B) (g : A → Option C) → ((a : A) → is_some (g a) ≡ is_some (f a)) → (o : Option (A × List Token)) (b : B) (r : List Token) → converted f o ≡ Some (b, r)
      → (c : C) × (converted g o ≡ Some (c, r))
  carried f g same o b r e =
      let a = converted_some f o b r e in
      let c = there (g a.0) (same a.0 ∙ ap is_some a.2) in
      (c.0, ap (converted g) a.1 ∙ ap (option_map (λ x. (x, r))) c.1)

  lost : {A B C : Type 0} (f : A → Option B) (g : A → Option C) → ((a : A) → is_some (g a) ≡ is_some (f a)) → (o : Option (A × List Token)) → converted f o ≡ None → converted g o ≡ None
  lost f g same None e = refl
  lost f g same (Some p) e = ap (option_map (λ x. (x, p.1))) (none (g p.0) (same p.0 ∙ ap is_some (refused p.1 (f p.0) e)))

  module _ (o : Option (json.Json × List Token)) where
    -- a skipped member
    pub passed : (name : List ℕ) (d : Data) (r : List Token) → converted of_json o ≡ Some (d, r) → (e : Data) × (converted (mixed_member is_verbatim name) o ≡ Some (e, r))
    passed name d r read = carried of_json (mixed_member is_verbatim name) (known_member name) o d r read

    pub no_member : (name : List ℕ) → converted of_json o ≡ None → converted (mixed_member is_verbatim name) o ≡ None
    no_member name read = lost of_json (mixed_member is_verbatim name) (known_member name) o read

    pub no_item : converted of_json o ≡ None → converted (mixed_tree is_verbatim) o ≡ None
    no_item read = lost of_json (mixed_tree is_verbatim) known o read

    pub no_value : converted (mixed_tree is_verbatim) o ≡ None → converted of_json o ≡ None
    no_value read = lost (mixed_tree is_verbatim) of_json (λ j. sym (known j)) o read

    -- a member that is not verbatim
    pub unkept : (name : List ℕ) (d : Data) (r : List Token) → is_verbatim name ≡ false → converted (mixed_tree is_verbatim) o ≡ Some (d, r) → converted (mixed_member is_verbatim name) o ≡ Some (d, r)
    unkept name d r is read = rw is read

    -- a verbatim member
    pub own : (name text : List ℕ) (r : List Token) → is_verbatim name ≡ true → converted as_verbatim o ≡ Some (string text, r) → converted (mixed_member is_verbatim name) o ≡ Some (string text, r)
    own name text r is read = rw is read

  -- ---- a value whose members are skipped

  array_made : (o : Option Items) (d : Data) → option_map array o ≡ Some d → shallow_of (Some d) ≡ shallow_of (Some (array no_items))
  array_made None d e = absurd cc
  array_made (Some ds) d e = let same : array ds ≡ d = cc in ap (λ (x : Data). shallow_of (Some x)) (sym same)

  object_made : (o : Option Members) (d : Data) → option_map object o ≡ Some d → shallow_of (Some d) ≡ shallow_of (Some (object no_members))
  object_made None d e = absurd cc
  object_made (Some ms) d e = let same : object ms ≡ d = cc in ap (λ (x : Data). shallow_of (Some x)) (sym same)

  same_value : (x : Option Data) (d e : Data) → x ≡ Some d → x ≡ Some e → shallow_of (Some e) ≡ shallow_of (Some d)
  same_value x d e one other = let same : d ≡ e = cc in ap (λ (y : Data). shallow_of (Some y)) (sym same)

  seen_alike : (j : json.Json) (d e : Data) → of_json j ≡ Some d → mixed_tree is_verbatim j ≡ Some e → shallow_of (Some e) ≡ shallow_of (Some d)
  seen_alike json.null d e one other = same_value (Some null) d e one other
  seen_alike (json.boolean b) d e one other = same_value (Some (boolean b)) d e one other
  seen_alike (json.number s) d e one other = same_value (option_map number (number_of s)) d e one other
  seen_alike (json.string s) d e one other = same_value (Some (string s)) d e one other
  seen_alike (json.array js) d e one other = array_made (mixed_items is_verbatim js) e other ∙ sym (array_made (of_items js) d one)
  seen_alike (json.object ms) d e one other = object_made (mixed_members is_verbatim ms no_members) e other ∙ sym (object_made (of_members ms no_members) d one)

  -- a value without its contents
  pub scalar_kept : (o : Option (json.Json × List Token)) (d : Data) (r : List Token) → converted of_json o ≡ Some (d, r)
      → (e : Data) × (converted (mixed_tree is_verbatim) o ≡ Some (e, r)) × (shallow_of (Some e) ≡ shallow_of (Some d))
  scalar_kept o d r read =
      let j = converted_some of_json o d r read in
      let e = there (mixed_tree is_verbatim j.0) (known j.0 ∙ ap is_some j.2) in
      (e.0, ap (converted (mixed_tree is_verbatim)) j.1 ∙ ap (option_map (λ x. (x, r))) e.1, seen_alike j.0 d e.0 j.2 e.1)

  no_such_array : (o : Option Items) (d : Data) → option_map array o ≡ Some d → IsScalar d → ⊥
  no_such_array None d e is = absurd cc
  no_such_array (Some ds) null e is = absurd cc
  no_such_array (Some ds) (boolean b) e is = absurd cc
  no_such_array (Some ds) (number n) e is = absurd cc
  no_such_array (Some ds) (string s) e is = absurd cc
  no_such_array (Some ds) (array es) e is = is
  no_such_array (Some ds) (object ms) e is = is

  no_such_object : (o : Option Members) (d : Data) → option_map object o ≡ Some d → IsScalar d → ⊥
  no_such_object None d e is = absurd cc
  no_such_object (Some ms) null e is = absurd cc
  no_such_object (Some ms) (boolean b) e is = absurd cc
  no_such_object (Some ms) (number n) e is = absurd cc
  no_such_object (Some ms) (string s) e is = absurd cc
  no_such_object (Some ms) (array es) e is = is
  no_such_object (Some ms) (object es) e is = is

  same_scalar : (j : json.Json) (d : Data) → of_json j ≡ Some d → IsScalar d → mixed_tree is_verbatim j ≡ Some d
  same_scalar json.null d e is = e
  same_scalar (json.boolean b) d e is = e
  same_scalar (json.number s) d e is = e
  same_scalar (json.string s) d e is = e
  same_scalar (json.array js) d e is = absurd (no_such_array (of_items js) d e is)
  same_scalar (json.object ms) d e is = absurd (no_such_object (of_members ms no_members) d e is)

  -- a value that is a scalar
  pub scalar_is : (o : Option (json.Json × List Token)) (d : Data) (r : List Token) → converted of_json o ≡ Some (d, r) → IsScalar d → converted (mixed_tree is_verbatim) o ≡ Some (d, r)
  scalar_is o d r read is =
      let j = converted_some of_json o d r read in
      ap (converted (mixed_tree is_verbatim)) j.1 ∙ ap (option_map (λ x. (x, r))) (same_scalar j.0 d j.2 is)

  -- ---- an array or an object

  array_is : (o : Option (json.Items × List Token)) → converted (mixed_tree is_verbatim) (parse_map json.array o) ≡ parse_map array (converted (mixed_items is_verbatim) o)
  array_is None = refl
  array_is (Some p) = twice array p.1 (mixed_items is_verbatim p.0)
    where
      twice : {A B : Type 0} (g : A → B) (r : List Token) (x : Option A) → option_map (λ b. (b, r)) (option_map g x) ≡ parse_map g (option_map (λ a. (a, r)) x)
      twice g r None = refl
      twice g r (Some a) = refl

  object_is : (o : Option (json.Members × List Token)) → converted (mixed_tree is_verbatim) (parse_map json.object o) ≡ parse_map object (converted (λ ms. mixed_members is_verbatim ms no_members) o)
  object_is None = refl
  object_is (Some p) = twice object p.1 (mixed_members is_verbatim p.0 no_members)
    where
      twice : {A B : Type 0} (g : A → B) (r : List Token) (x : Option A) → option_map (λ b. (b, r)) (option_map g x) ≡ parse_map g (option_map (λ a. (a, r)) x)
      twice g r None = refl
      twice g r (Some a) = refl

  -- an array and an object, by their parts
  pub array_of : (whole : Option (json.Json × List Token)) (parts : Option (json.Items × List Token)) (ds : Items) (r : List Token) → whole ≡ parse_map json.array parts → converted (mixed_items is_verbatim) parts ≡ Some (ds, r)
      → converted (mixed_tree is_verbatim) whole ≡ Some (array ds, r)
  array_of whole parts ds r is made = ap (converted (mixed_tree is_verbatim)) is ∙ array_is parts ∙ ap (parse_map array) made

  pub object_of : (whole : Option (json.Json × List Token)) (parts : Option (json.Members × List Token)) (ms : Members) (r : List Token) → whole ≡ parse_map json.object parts
      → converted (λ found. mixed_members is_verbatim found no_members) parts ≡ Some (ms, r) → converted (mixed_tree is_verbatim) whole ≡ Some (object ms, r)
  object_of whole parts ms r is made = ap (converted (mixed_tree is_verbatim)) is ∙ object_is parts ∙ ap (parse_map object) made

  pub no_array : (whole : Option (json.Json × List Token)) (parts : Option (json.Items × List Token)) → whole ≡ parse_map json.array parts → converted (mixed_items is_verbatim) parts ≡ None → converted of_json whole ≡ None
  no_array whole parts is refused = no_value whole (ap (converted (mixed_tree is_verbatim)) is ∙ array_is parts ∙ ap (parse_map array) refused)

  pub no_object : (whole : Option (json.Json × List Token)) (parts : Option (json.Members × List Token)) → whole ≡ parse_map json.object parts → converted (λ found. mixed_members is_verbatim found no_members) parts ≡ None
      → converted of_json whole ≡ None
  no_object whole parts is refused = no_value whole (ap (converted (mixed_tree is_verbatim)) is ∙ object_is parts ∙ ap (parse_map object) refused)

  -- a skipped array or object
  pub passed_array : (whole : Option (json.Json × List Token)) (parts : Option (json.Items × List Token)) (ds : Items) (r : List Token) → whole ≡ parse_map json.array parts → converted of_items parts ≡ Some (ds, r)
      → (es : Items) × (converted (mixed_tree is_verbatim) whole ≡ Some (array es, r))
  passed_array whole parts ds r is made = let es = carried of_items (mixed_items is_verbatim) known_items parts ds r made in (es.0, array_of whole parts es.0 r is es.1)

  pub passed_object : (whole : Option (json.Json × List Token)) (parts : Option (json.Members × List Token)) (ms : Members) (r : List Token) → whole ≡ parse_map json.object parts
      → converted (λ found. of_members found no_members) parts ≡ Some (ms, r) → (es : Members) × (converted (mixed_tree is_verbatim) whole ≡ Some (object es, r))
  passed_object whole parts ms r is made =
      let es = carried (λ found. of_members found no_members) (λ found. mixed_members is_verbatim found no_members) (λ found. known_members found no_members no_members) parts ms r made in
      (es.0, object_of whole parts es.0 r is es.1)

  -- ---- bytes

  no_tree : (j : Option json.Json) → option_and_then of_json j ≡ None → option_and_then (mixed_tree is_verbatim) j ≡ None
  no_tree None e = refl
  no_tree (Some j) e = none (mixed_tree is_verbatim j) (known j ∙ ap is_some e)

  -- bytes without a tree have no mixed tree
  no_kept_tree_of : (bytes : List ℕ) → tree_of bytes ≡ None → mixed_tree_of is_verbatim bytes ≡ None
  no_kept_tree_of bytes e = ⊎_elim
      (λ (yes : is_utf8 bytes ≡ true). let none : option_and_then of_json (option_and_then (λ p. json.if_last p.0 p.1) (value max_depth (tokens bytes))) ≡ None = rw yes at e in rw yes (no_tree (option_and_then (λ p. json.if_last p.0 p.1) (value max_depth (tokens bytes))) none))
      (λ (no : is_utf8 bytes ≡ false). rw no refl)
      (cases_Bool (is_utf8 bytes))

  pub no_kept_tree : (most : ℕ) (fault : JsonFault) (bytes : List ℕ) → IsNoTree most fault bytes → IsNoMixedTree is_verbatim most fault bytes
  no_kept_tree most TooLarge bytes is = is
  no_kept_tree most NotJson bytes is = (is.0, no_kept_tree_of bytes is.1)
  no_kept_tree most Memory bytes is = is

-- ---- no member is verbatim

then_same : {A B : Type 0} (o : Option A) (f g : A → Option B) → ((a : A) → f a ≡ g a) → option_and_then f o ≡ option_and_then g o
then_same None f g same = refl
then_same (Some a) f g same = same a

mutual
  whole : (j : json.Json) → mixed_tree none_verbatim j ≡ of_json j
  whole json.null = refl
  whole (json.boolean b) = refl
  whole (json.number s) = refl
  whole (json.string s) = refl
  whole (json.array js) = ap (option_map array) (whole_items js)
  whole (json.object ms) = ap (option_map object) (whole_members ms no_members)

  whole_items : (js : json.Items) → mixed_items none_verbatim js ≡ of_items js
  whole_items json.no_items = refl
  whole_items (json.item j js) =
      ap (λ (o : Option Data). option_and_then (λ d. option_map (item d) (mixed_items none_verbatim js)) o) (whole j)
      ∙ ap (λ (o : Option Items). option_and_then (λ d. option_map (item d) o) (of_json j)) (whole_items js)

  whole_members : (ms : json.Members) (found : Members) → mixed_members none_verbatim ms found ≡ of_members ms found
  whole_members json.no_members found = refl
  whole_members (json.member k j ms) found =
      ap (λ (o : Option Data). option_and_then (λ d. mixed_members none_verbatim ms (put k d found)) o) (whole j)
      ∙ then_same (of_json j) (λ d. mixed_members none_verbatim ms (put k d found)) (λ d. of_members ms (put k d found)) (λ d. whole_members ms (put k d found))

whole_read : (o : Option (json.Json × List Token)) → converted (mixed_tree none_verbatim) o ≡ converted of_json o
whole_read None = refl
whole_read (Some p) = ap (option_map (λ d. (d, p.1))) (whole p.0)

module _ (depth : ℕ) (before : List Token) (d : Data) (rest : List Token) where
  pub as_whole : IsMixedRead none_verbatim depth before d rest → IsRead depth before d rest
  as_whole read = sym (whole_read (value depth before)) ∙ read

  pub as_item : IsRead depth before d rest → IsMixedRead none_verbatim depth before d rest
  as_item read = whole_read (value depth before) ∙ read

  pub as_member : (name : List ℕ) → IsRead depth before d rest → IsMixedMember none_verbatim name depth before d rest
  as_member name read = as_item read

pub whole_tree_of : (bytes : List ℕ) → mixed_tree_of none_verbatim bytes ≡ tree_of bytes
whole_tree_of bytes = ap (λ (o : Option Data). if is_utf8 bytes then o else None) (then_same (option_and_then (λ p. json.if_last p.0 p.1) (value max_depth (tokens bytes))) (mixed_tree none_verbatim) of_json whole)

pub is_no_tree : (most : ℕ) (fault : JsonFault) (bytes : List ℕ) → IsNoMixedTree none_verbatim most fault bytes → IsNoTree most fault bytes
is_no_tree most TooLarge bytes is = is
is_no_tree most NotJson bytes is = (is.0, sym (whole_tree_of bytes) ∙ is.1)
is_no_tree most Memory bytes is = is

-- ---- a scalar has neither members nor items

pub no_members_in : (d : Data) → IsScalar d → no_members ≡ members_in d
no_members_in null is = refl
no_members_in (boolean b) is = refl
no_members_in (number n) is = refl
no_members_in (string s) is = refl
no_members_in (array ds) is = absurd is
no_members_in (object ms) is = absurd is

pub no_items_in : (d : Data) → IsScalar d → [] ≡ list_of (items_in d)
no_items_in null is = refl
no_items_in (boolean b) is = refl
no_items_in (number n) is = refl
no_items_in (string s) is = refl
no_items_in (array ds) is = absurd is
no_items_in (object ms) is = absurd is

-- a scalar is not an array
pub absent_is : (d : Data) → IsScalar d → absent ≡ shallow_of (Some d) → kind.Absent ≡ array_presence d
absent_is null is e = refl
absent_is (boolean b) is e = absurd cc
absent_is (number n) is e = absurd cc
absent_is (string s) is e = absurd cc
absent_is (array ds) is e = absurd is
absent_is (object ms) is e = absurd is

pub other_is : (d : Data) (s : Shallow) → IsScalar d → (s ≡ shallow.Absent → ⊥) → shallow_view s ≡ shallow_of (Some d) → kind.Other ≡ array_presence d
other_is null shallow.Absent is not e = absurd (not refl)
other_is null (shallow.Bool b) is not e = absurd cc
other_is null (shallow.Number n) is not e = absurd cc
other_is null (shallow.Text t) is not e = absurd cc
other_is null shallow.Array is not e = absurd cc
other_is null shallow.Object is not e = absurd cc
other_is (boolean b) s is not e = refl
other_is (number n) s is not e = refl
other_is (string t) s is not e = refl
other_is (array ds) s is not e = absurd is
other_is (object ms) s is not e = absurd is
