-- The tree of a script, and the tree that a run reads of the same text. In the second, some members
-- are stored as their own texts. What the reader of a script looks at is the same in both.
use Rattle.std.proofs.Common.{◌≡◌, ℕ, List, [], ◌∷◌, Bool, true, false, ◌==◌, is_some, Option, Some, None, option_map, option_and_then, refl, sym, ap, subst, ◌∙◌, if◌then◌else◌, ⊎_elim, Ordering, Less, Equal, Greater}
use Rattle.std.specs.Prelude.{codes, slice_index}
use Rattle.std.specs.Ordering.{nat_cmp, match_ordering}
use Rattle.std.specs.Cmp.Lexicographic.{slice_cmp}
use Rattle.std.specs.Str.{bytes_eq, is_utf8}
use Rattle.std.proofs.lemmas.Bool.{cases_Bool, eqb-true}
use Rattle.std.proofs.lemmas.List.{append-nil}
use Rattle.std.proofs.lemmas.Map.Lookups.{exact_bytes}
use Rattle.std.proofs.lemmas.Slice.Eq.{bytes_eq-Decides}
use Rattle.json.specs.Json as json
use Rattle.json.specs.Json.{value}
use Rattle.json.specs.Lex.{tokens}
use Rattle.json.specs.Print.{print_from}
use Rattle.json.specs.Token.{Token}
use Rattle.json.specs.Tree.{HasNumbers, ItemsHaveNumbers, MembersHaveNumbers}
use Rattle.json.specs.Word.{after_number}
use Rattle.json.proofs.Numbered.{ArePrintableOrBad-tokens, value-HasNumbers}
use Rattle.serde_json.specs.Data.{Data, null, boolean, number, string, array, object, Items, no_items, item, Members, no_members, member, put}
use Rattle.serde_json.specs.Find.{as_bool, as_number, as_object, as_str, get, get_member}
use Rattle.serde_json.specs.Read.{max_depth, number_of, of_items, of_json, of_members, read}
use Rattle.apply_json.specs.Verbatim.{as_verbatim, mixed_tree, mixed_items, mixed_member, mixed_members, mixed_tree_of, verbatim}
use Rattle.apply_json.proofs.VerbatimValues.{no_item, no_value}
use Rattle.apply_json.specs.Tree.{◌>>=◌, member_of, tree_of, unless_null}
use Rattle.apply_plan.specs.Script.Entry.{is_verbatim_name, object_or_none, object_text}
use Rattle.input_validate.specs.declared.findings.expected.Expected.TheVariants as expected
use Rattle.input_validate.specs.Expectations.{is_met}

-- ---- the relation

-- the text is the text of an object if the value is an object, or absent if the value is
abbrev pub IsOwn : Data → Data → Type 0
IsOwn d e = is_met expected.ObjectOrAbsent (unless_null d) ≡ is_some (object_or_none (unless_null e))

abbrev mutual
  pub Alike : Data → Data → Type 0
  Alike null k = k ≡ null
  Alike (boolean b) k = k ≡ boolean b
  Alike (number n) k = k ≡ number n
  Alike (string s) k = k ≡ string s
  Alike (array ds) k = (es : Items) × (k ≡ array es) × AlikeItems ds es
  Alike (object ms) k = (ns : Members) × (k ≡ object ns) × AlikeMembers ms ns

  pub AlikeItems : Items → Items → Type 0
  AlikeItems no_items es = es ≡ no_items
  AlikeItems (item d ds) es = (e : Data) × (others : Items) × (es ≡ item e others) × Alike d e × AlikeItems ds others

  pub AlikeMembers : Members → Members → Type 0
  AlikeMembers no_members ns = ns ≡ no_members
  AlikeMembers (member l d ms) ns = (e : Data) × (others : Members) × (ns ≡ member l e others) × (is_verbatim_name l ≡ false → Alike d e) × (is_verbatim_name l ≡ true → IsOwn d e) × AlikeMembers ms others

-- the values of a member of that name
abbrev AlikeMember : List ℕ → Data → Data → Type 0
AlikeMember l d e = (is_verbatim_name l ≡ false → Alike d e) × (is_verbatim_name l ≡ true → IsOwn d e)

-- ---- members are put in

by_order : (o : Ordering) (k l : List ℕ) (d e x y : Data) (ms ns : Members) → (o ≡ Equal → k ≡ l) → AlikeMember k d e → AlikeMember l x y → AlikeMembers ms ns → AlikeMembers (put k d ms) (put k e ns)
    → AlikeMembers (match_ordering o (member k d (member l x ms)) (member l d ms) (member l x (put k d ms))) (match_ordering o (member k e (member l y ns)) (member l e ns) (member l y (put k e ns)))
by_order Less k l d e x y ms ns same one other rest behind = (e, member l y ns, refl, one.0, one.1, (y, ns, refl, other.0, other.1, rest))
by_order Equal k l d e x y ms ns same one other rest behind =
    let name : k ≡ l = same refl in
    (e, ns, refl, (λ not. one.0 (ap is_verbatim_name name ∙ not)), (λ is. one.1 (ap is_verbatim_name name ∙ is)), rest)
by_order Greater k l d e x y ms ns same one other rest behind = (y, put k e ns, refl, other.0, other.1, behind)

put_alike : (k : List ℕ) (d e : Data) (ms ns : Members) → AlikeMember k d e → AlikeMembers ms ns → AlikeMembers (put k d ms) (put k e ns)
put_alike k d e no_members ns one rest = (e, no_members, ap (put k e) rest, one.0, one.1, refl)
put_alike k d e (member l x ms) ns one rest =
    rw (rest.2)
    (by_order (slice_cmp nat_cmp k l) k l d e x rest.0 ms rest.1 (exact_bytes k l) one (rest.3, rest.4) rest.5 (put_alike k d e ms rest.1 one rest.5))

-- ---- the two trees of a text

some_is : {A : Type 0} (x y : A) → Some x ≡ Some y → x ≡ y
some_is x y e = cc

behind : {A B : Type 0} (o : Option A) (f : A → Option B) (y : B) → option_and_then f o ≡ Some y → (x : A) × (o ≡ Some x) × (f x ≡ Some y)
behind None f y e = absurd cc
behind (Some x) f y e = (x, refl, e)

mapped : {A B : Type 0} (f : A → B) (o : Option A) (y : B) → option_map f o ≡ Some y → (x : A) × (o ≡ Some x) × (y ≡ f x)
mapped f None y e = absurd cc
mapped f (Some x) y e = (x, refl, sym (some_is (f x) y e))

-- a text that begins with no bracket, and is not `null`
no_object : (text : List ℕ) → bytes_eq text (codes "null") ≡ false → (slice_index text 0 == 123) ≡ false → is_some (object_text text) ≡ false
no_object text word bracket = rw (word, bracket) refl

no_brace : (xs : List ℕ) → after_number (123 ∷ xs) ≡ Some [] → ⊥
unfolding after_number
no_brace xs is = absurd cc

begun : (s : List ℕ) → after_number s ≡ Some [] → (slice_index s 0 == 123) ≡ true → ⊥
begun [] is e = absurd cc
begun (x ∷ xs) is e = no_brace xs (let same : x ≡ 123 = eqb-true x 123 e in ap (λ (y : ℕ). after_number (y ∷ xs)) (sym same) ∙ is)

no_bracket : (s : List ℕ) → after_number s ≡ Some [] → (slice_index s 0 == 123) ≡ false
no_bracket s is =
    ⊎_elim (λ (yes : (slice_index s 0 == 123) ≡ true). absurd (begun s is yes)) (λ (no : (slice_index s 0 == 123) ≡ false). no) (cases_Bool (slice_index s 0 == 123))

no_word : (s : List ℕ) → after_number s ≡ Some [] → bytes_eq s (codes "null") ≡ false
unfolding after_number
no_word s is =
    ⊎_elim (λ (yes : bytes_eq s (codes "null") ≡ true). let same : s ≡ codes "null" = (bytes_eq-Decides s (codes "null")).0 yes in absurd (let never : after_number (codes "null") ≡ Some [] = ap after_number (sym same) ∙ is in cc))
    (λ (no : bytes_eq s (codes "null") ≡ false). no) (cases_Bool (bytes_eq s (codes "null")))

own : (j : json.Json) (d : Data) → HasNumbers j → of_json j ≡ Some d → IsOwn d (string (verbatim j))
unfolding print_from
own json.null d has is = rw (sym (some_is null d is)) refl
own (json.boolean true) d has is = rw (sym (some_is (boolean true) d is)) refl
own (json.boolean false) d has is = rw (sym (some_is (boolean false) d is)) refl
own (json.number s) d has is =
    let it = mapped number (number_of s) d is in
    rw it.2 (sym (ap (λ (text : List ℕ). is_some (object_text text)) (append-nil s) ∙ no_object s (no_word s has) (no_bracket s has)))
own (json.string s) d has is = rw (sym (some_is (string s) d is)) refl
own (json.array js) d has is = let it = mapped array (of_items js) d is in rw it.2 refl
own (json.object ms) d has is = let it = mapped object (of_members ms no_members) d is in rw it.2 refl

-- what a member of that name is read as
one_member : (l : List ℕ) (j : json.Json) (d e : Data) → HasNumbers j → of_json j ≡ Some d → mixed_member is_verbatim_name l j ≡ Some e → ((x : Data) → mixed_tree is_verbatim_name j ≡ Some x → Alike d x) → AlikeMember l d e
one_member l j d e has is read alike = (
  (λ not. alike e (let plain : mixed_member is_verbatim_name l j ≡ mixed_tree is_verbatim_name j = rw not refl in sym plain ∙ read)),
  (λ is_one.
      let text : as_verbatim j ≡ Some e = (let plain : mixed_member is_verbatim_name l j ≡ as_verbatim j = rw is_one refl in sym plain ∙ read) in
      let it = mapped (λ tree. string (verbatim j)) (of_json j) e text in
      rw it.2 (own j d has is)),
)

mutual
  trees_alike : (j : json.Json) (d k : Data) → HasNumbers j → of_json j ≡ Some d → mixed_tree is_verbatim_name j ≡ Some k → Alike d k
  trees_alike json.null d k has is read = rw (sym (some_is null d is)) (sym (some_is null k read))
  trees_alike (json.boolean b) d k has is read = rw (sym (some_is (boolean b) d is)) (sym (some_is (boolean b) k read))
  trees_alike (json.number s) d k has is read =
      let one = mapped number (number_of s) d is in
      rw one.2 (some_is k (number one.0) (sym read ∙ ap (option_map number) one.1))
  trees_alike (json.string s) d k has is read = rw (sym (some_is (string s) d is)) (sym (some_is (string s) k read))
  trees_alike (json.array js) d k has is read =
      let one = mapped array (of_items js) d is in
      let other = mapped array (mixed_items is_verbatim_name js) k read in
      rw one.2 (other.0, other.2, items_alike js one.0 other.0 has one.1 other.1)
  trees_alike (json.object ms) d k has is read =
      let one = mapped object (of_members ms no_members) d is in
      let other = mapped object (mixed_members is_verbatim_name ms no_members) k read in
      rw one.2 (other.0, other.2, members_alike ms no_members no_members one.0 other.0 has refl one.1 other.1)

  items_alike : (js : json.Items) (ds es : Items) → ItemsHaveNumbers js → of_items js ≡ Some ds → mixed_items is_verbatim_name js ≡ Some es → AlikeItems ds es
  items_alike json.no_items ds es has is read = rw (sym (some_is no_items ds is)) (sym (some_is no_items es read))
  items_alike (json.item j js) ds es has is read =
      let one = behind (of_json j) (λ d. option_map (item d) (of_items js)) ds is in
      let ones = mapped (item one.0) (of_items js) ds one.2 in
      let other = behind (mixed_tree is_verbatim_name j) (λ d. option_map (item d) (mixed_items is_verbatim_name js)) es read in
      let others = mapped (item other.0) (mixed_items is_verbatim_name js) es other.2 in
      rw ones.2 (other.0, others.0, others.2, trees_alike j one.0 other.0 has.0 one.1 other.1, items_alike js ones.0 others.0 has.1 ones.1 others.1)

  members_alike : (ms : json.Members) (f g x y : Members) → MembersHaveNumbers ms → AlikeMembers f g → of_members ms f ≡ Some x → mixed_members is_verbatim_name ms g ≡ Some y → AlikeMembers x y
  members_alike json.no_members f g x y has so_far is read = rw (sym (some_is f x is), sym (some_is g y read)) so_far
  members_alike (json.member l j ms) f g x y has so_far is read =
      let one = behind (of_json j) (λ d. of_members ms (put l d f)) x is in
      let other = behind (mixed_member is_verbatim_name l j) (λ d. mixed_members is_verbatim_name ms (put l d g)) y read in
      members_alike ms (put l one.0 f) (put l other.0 g) x y has.1
      (put_alike l one.0 other.0 f g (one_member l j one.0 other.0 has.0 one.1 other.1 (λ k verbatim_read. trees_alike j one.0 k has.0 one.1 verbatim_read)) so_far)
      one.2 other.2

-- what stands in a text
abbrev pub parsed : List ℕ → Option json.Json
parsed text = option_and_then (λ p. json.if_last p.0 p.1) (value max_depth (tokens text))

pub last_is : (x : json.Json) (rest : List Token) (j : json.Json) → json.if_last x rest ≡ Some j → x ≡ j
last_is x [] j e = some_is x j e
last_is x (t ∷ ts) j e = absurd cc

pub has_numbers : (text : List ℕ) (j : json.Json) → parsed text ≡ Some j → HasNumbers j
has_numbers text j e =
    let p = behind (value max_depth (tokens text)) (λ q. json.if_last q.0 q.1) j e in
    subst HasNumbers (last_is p.0.0 p.0.1 j p.2) (value-HasNumbers max_depth (tokens text) p.0.1 p.0.0 (ArePrintableOrBad-tokens text) p.1)

text_alike : (text : List ℕ) (d k : Data) → read text ≡ Some d → option_and_then (mixed_tree is_verbatim_name) (parsed text) ≡ Some k → Alike d k
text_alike text d k is raw_tree =
    let one = behind (parsed text) of_json d is in
    let other = behind (parsed text) (mixed_tree is_verbatim_name) k raw_tree in
    let same : one.0 ≡ other.0 = some_is one.0 other.0 (sym one.1 ∙ other.1) in
    trees_alike one.0 d k (has_numbers text one.0 one.1) one.2 (ap (mixed_tree is_verbatim_name) same ∙ other.2)

by_utf8 : (b : Bool) (text : List ℕ) (d k : Data) → (let o : Option Data = if b then read text else None in o) ≡ Some d
    → (let o : Option Data = if b then option_and_then (mixed_tree is_verbatim_name) (parsed text) else None in o) ≡ Some k → Alike d k
by_utf8 true text d k is raw_tree = text_alike text d k is raw_tree
by_utf8 false text d k is raw_tree = absurd cc

pub bytes_alike : (bytes : List ℕ) (d k : Data) → tree_of bytes ≡ Some d → mixed_tree_of is_verbatim_name bytes ≡ Some k → Alike d k
bytes_alike bytes d k is raw_tree = by_utf8 (is_utf8 bytes) bytes d k is raw_tree

-- of one text there are both, or neither
unmapped : {A B : Type 0} (f : A → B) (o : Option A) → option_map f o ≡ None → o ≡ None
unmapped f None e = refl
unmapped f (Some x) e = absurd cc

of_one_there : {A B : Type 0} (o : Option A) (p : Option B) → (o ≡ None → p ≡ None) → (p ≡ None → o ≡ None) → is_some o ≡ is_some p
of_one_there None p one other = rw (one refl) refl
of_one_there (Some x) None one other = absurd (let never : Some x ≡ None = other refl in cc)
of_one_there (Some x) (Some y) one other = refl

no_pair : {A : Type 0} (o : Option A) → o ≡ None → option_map (λ x. let q : A × List Token = (x, []) in q) o ≡ None
no_pair o e = rw e refl

both_of : (j : json.Json) → is_some (of_json j) ≡ is_some (mixed_tree is_verbatim_name j)
both_of j =
    of_one_there (of_json j) (mixed_tree is_verbatim_name j)
    (λ none. unmapped (λ x. let q : Data × List Token = (x, []) in q) (mixed_tree is_verbatim_name j) (no_item is_verbatim_name (Some (j, [])) (no_pair (of_json j) none)))
    (λ none. unmapped (λ x. let q : Data × List Token = (x, []) in q) (of_json j) (no_value is_verbatim_name (Some (j, [])) (no_pair (mixed_tree is_verbatim_name j) none)))

both_read : (o : Option json.Json) → is_some (option_and_then of_json o) ≡ is_some (option_and_then (mixed_tree is_verbatim_name) o)
both_read None = refl
both_read (Some j) = both_of j

both_by : (b : Bool) (o p : Option Data) → is_some o ≡ is_some p → is_some (let x : Option Data = if b then o else None in x) ≡ is_some (let y : Option Data = if b then p else None in y)
both_by true o p e = e
both_by false o p e = refl

pub both_trees : (bytes : List ℕ) → is_some (tree_of bytes) ≡ is_some (mixed_tree_of is_verbatim_name bytes)
both_trees bytes = both_by (is_utf8 bytes) (read bytes) (option_and_then (mixed_tree is_verbatim_name) (parsed bytes)) (both_read (parsed bytes))

-- ---- a member is looked up

-- nothing stands there, or values that are alike
abbrev pub AreAlike : Option Data → Option Data → Type 0
AreAlike None p = p ≡ None
AreAlike (Some d) p = (e : Data) × (p ≡ Some e) × Alike d e

-- the same for the values at a name
abbrev AreAlikeAt : List ℕ → Option Data → Option Data → Type 0
AreAlikeAt n None p = p ≡ None
AreAlikeAt n (Some d) p = (e : Data) × (p ≡ Some e) × AlikeMember n d e

ordered_names : (o : Ordering) (n l : List ℕ) (x y : Data) (p q : Option Data) → (o ≡ Equal → n ≡ l) → AlikeMember l x y → AreAlikeAt n p q
    → AreAlikeAt n (match_ordering o p (Some x) p) (match_ordering o q (Some y) q)
ordered_names Less n l x y p q same one rest = rest
ordered_names Equal n l x y p q same one rest =
    let name : n ≡ l = same refl in
    (y, refl, ((λ not. one.0 (sym (ap is_verbatim_name name) ∙ not)), (λ is. one.1 (sym (ap is_verbatim_name name) ∙ is))))
ordered_names Greater n l x y p q same one rest = rest

findings_of_one : (n : List ℕ) (ms ns : Members) → AlikeMembers ms ns → AreAlikeAt n (get_member n ms) (get_member n ns)
findings_of_one n no_members ns rest = rw rest refl
findings_of_one n (member l x ms) ns rest =
    rw (rest.2) (ordered_names (slice_cmp nat_cmp n l) n l x rest.0 (get_member n ms) (get_member n rest.1) (exact_bytes n l) (rest.3, rest.4) (findings_of_one n ms rest.1 rest.5))

findings : (n : List ℕ) (d k : Data) → Alike d k → AreAlikeAt n (get n d) (get n k)
findings n null k a = rw a refl
findings n (boolean b) k a = rw a refl
findings n (number z) k a = rw a refl
findings n (string s) k a = rw a refl
findings n (array ds) k a = rw (a.1) refl
findings n (object ms) k a = rw (a.1) (findings_of_one n ms a.0 a.2)

reported : (d k : Data) → Alike d k → AreAlike (unless_null d) (unless_null k)
reported null k a = rw a refl
reported (boolean b) k a = rw a (boolean b, refl, refl)
reported (number n) k a = rw a (number n, refl, refl)
reported (string s) k a = rw a (string s, refl, refl)
reported (array ds) k a = rw (a.1) (array a.0, refl, (a.0, refl, a.2))
reported (object ms) k a = rw (a.1) (object a.0, refl, (a.0, refl, a.2))

at_name : (n : List ℕ) → is_verbatim_name n ≡ false → (p q : Option Data) → AreAlikeAt n p q → AreAlike (p >>= unless_null) (q >>= unless_null)
at_name n not None q a = rw a refl
at_name n not (Some d) q a = rw (a.1) (reported d a.0 (a.2.0 not))

pub member_alike : (n : List ℕ) → is_verbatim_name n ≡ false → (d k : Data) → Alike d k → AreAlike (member_of n d) (member_of n k)
member_alike n not d k a = at_name n not (get n d) (get n k) (findings n d k a)

at_verbatim : (n : List ℕ) → is_verbatim_name n ≡ true → (p q : Option Data) → AreAlikeAt n p q → is_met expected.ObjectOrAbsent (p >>= unless_null) ≡ is_some (object_or_none (q >>= unless_null))
at_verbatim n is None q a = rw a refl
at_verbatim n is (Some d) q a = rw (a.1) (a.2.1 is)

-- an object that is stored as its own text
pub met_own : (n : List ℕ) → is_verbatim_name n ≡ true → (d k : Data) → Alike d k → is_met expected.ObjectOrAbsent (member_of n d) ≡ is_some (object_or_none (member_of n k))
met_own n is d k a = at_verbatim n is (get n d) (get n k) (findings n d k a)

-- ---- what values are

pub as_str_alike : (d k : Data) → Alike d k → as_str d ≡ as_str k
as_str_alike null k a = rw a refl
as_str_alike (boolean b) k a = rw a refl
as_str_alike (number n) k a = rw a refl
as_str_alike (string s) k a = rw a refl
as_str_alike (array ds) k a = rw (a.1) refl
as_str_alike (object ms) k a = rw (a.1) refl

pub as_bool_alike : (d k : Data) → Alike d k → as_bool d ≡ as_bool k
as_bool_alike null k a = rw a refl
as_bool_alike (boolean b) k a = rw a refl
as_bool_alike (number n) k a = rw a refl
as_bool_alike (string s) k a = rw a refl
as_bool_alike (array ds) k a = rw (a.1) refl
as_bool_alike (object ms) k a = rw (a.1) refl

pub as_number_alike : (d k : Data) → Alike d k → as_number d ≡ as_number k
as_number_alike null k a = rw a refl
as_number_alike (boolean b) k a = rw a refl
as_number_alike (number n) k a = rw a refl
as_number_alike (string s) k a = rw a refl
as_number_alike (array ds) k a = rw (a.1) refl
as_number_alike (object ms) k a = rw (a.1) refl

pub object_alike : (d k : Data) → Alike d k → is_some (as_object d) ≡ is_some (as_object k)
object_alike null k a = rw a refl
object_alike (boolean b) k a = rw a refl
object_alike (number n) k a = rw a refl
object_alike (string s) k a = rw a refl
object_alike (array ds) k a = rw (a.1) refl
object_alike (object ms) k a = rw (a.1) refl

-- what a run reads the same from alike values, it reads the same from optional members
pub same_read : {A : Type 0} (f : Data → A) → ((d k : Data) → Alike d k → f d ≡ f k) → (o p : Option Data) → AreAlike o p → option_map f o ≡ option_map f p
same_read {A} f same None p a = rw a refl
same_read {A} f same (Some d) p a = rw (a.1) (ap (λ (x : A). Some x) (same d a.0 a.2))
