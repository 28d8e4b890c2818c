-- Each text in the tree of some bytes is UTF-8, and each integer fits 64 bits.
use Rattle.std.proofs.Common.{◌≡◌, ℕ, zero, suc, List, [], ◌∷◌, ◌++◌, IsUtf8, cond, length, Bool, true, false, Option, Some, None, Ordering, Less, Equal, Greater, refl}
use Rattle.std.specs.Prelude.{⊤, IfSome, option_and_then, option_map}
use Rattle.std.specs.Ordering.{nat_cmp, match_ordering}
use Rattle.std.specs.Cmp.Lexicographic.{slice_cmp}
use Rattle.std.specs.Str.{is_utf8}
use Rattle.std.proofs.lemmas.Str.{IsUtf8-from_is_utf8}
use Rattle.json.specs.Json as j
use Rattle.json.specs.Json.{Json, Parse, after_end_array, if_last, items, items_step, members, members_step, parse_map, read_key, value, value_with}
use Rattle.json.specs.Token.{Token}
use Rattle.json.specs.Tree.{items_tokens, json_tokens, members_tokens}
use Rattle.json.specs.Lex.{tokens}
use Rattle.serde_json.specs.Data.{Data, null, boolean, number, string, array, object, Items, no_items, item, Members, no_members, member, put}
use Rattle.serde_json.specs.Read.{max_depth, number_of, of_items, of_json, of_members, read}
use Rattle.apply_json.specs.Verbatim.{as_verbatim, mixed_tree, mixed_items, mixed_members, mixed_tree_of, mixed_tree_of_text, verbatim}
use Rattle.apply_json.specs.Tree.{tree_of}
use Rattle.laws_check.proofs.Given.{any_given, gone_on, mapped}
use Rattle.laws_check.proofs.OwnTexts.{printed_utf8}
use Rattle.laws_check.proofs.ReadNumbers.{IsOfBits, number_fits}
use Rattle.laws_check.proofs.Tokens.{AreSpelt, tokens_spelt}

-- each text in the value is UTF-8, and each integer fits 64 bits; the names of members may be any
abbrev mutual
  pub IsLegible : Data → Type 0
  IsLegible null = ⊤
  IsLegible (boolean b) = ⊤
  IsLegible (number n) = IsOfBits n
  IsLegible (string s) = IsUtf8 s
  IsLegible (array ds) = AreLegible ds
  IsLegible (object ms) = HaveLegible ms

  pub AreLegible : Items → Type 0
  AreLegible no_items = ⊤
  AreLegible (item d ds) = IsLegible d × AreLegible ds

  pub HaveLegible : Members → Type 0
  HaveLegible no_members = ⊤
  HaveLegible (member k d ms) = IsLegible d × HaveLegible ms

-- a legible value of the grammar
abbrev mutual
  pub IsClear : Json → Type 0
  IsClear j.null = ⊤
  IsClear (j.boolean b) = ⊤
  IsClear (j.number s) = IsUtf8 s
  IsClear (j.string s) = IsUtf8 s
  IsClear (j.array js) = AreClear js
  IsClear (j.object ms) = HaveClear ms

  pub AreClear : j.Items → Type 0
  AreClear j.no_items = ⊤
  AreClear (j.item v js) = IsClear v × AreClear js

  pub HaveClear : j.Members → Type 0
  HaveClear j.no_members = ⊤
  HaveClear (j.member k v ms) = IsUtf8 k × IsClear v × HaveClear ms

-- ---- the grammar

-- what was read, and what is left
abbrev Leaves : {A : Type 0} → (A → Type 0) → A × List Token → Type 0
Leaves P p = P p.0 × AreSpelt p.1

-- such a part, from any tokens
abbrev Keeps : {A : Type 0} → (A → Type 0) → Parse A → Type 0
Keeps P part = (ts : List Token) → AreSpelt ts → IfSome (part ts) (Leaves P)

read_on : {A B : Type 0} (P : A → Type 0) (Q : B → Type 0) (f : A → B) (r : Option (A × List Token)) → ((x : A) → P x → Q (f x)) → IfSome r (Leaves P) → IfSome (parse_map f r) (Leaves Q)
read_on P Q f r step h = mapped (Leaves P) (Leaves Q) (λ p. (f p.0, p.1)) r (λ p h. (step p.0 h.0, h.1)) h

value_of : (a : Parse j.Items) (o : Parse j.Members) → Keeps AreClear a → Keeps HaveClear o → Keeps IsClear (value_with a o)
value_of a o list members [] h = tt
value_of a o list members (Token.begin_object ∷ ts) h = read_on HaveClear IsClear j.object (o ts) (λ ms clear. clear) (members ts h.1)
value_of a o list members (Token.end_object ∷ ts) h = tt
value_of a o list members (Token.begin_array ∷ ts) h = read_on AreClear IsClear j.array (a ts) (λ js clear. clear) (list ts h.1)
value_of a o list members (Token.end_array ∷ ts) h = tt
value_of a o list members (Token.key s ∷ ts) h = tt
value_of a o list members (Token.string s ∷ ts) h = h
value_of a o list members (Token.number s ∷ ts) h = h
value_of a o list members (Token.boolean b ∷ ts) h = h
value_of a o list members (Token.null ∷ ts) h = h
value_of a o list members (Token.bad ∷ ts) h = tt

after_end : (ts : List Token) → AreSpelt ts → IfSome (after_end_array ts) AreSpelt
after_end [] h = tt
after_end (Token.begin_object ∷ ts) h = tt
after_end (Token.end_object ∷ ts) h = tt
after_end (Token.begin_array ∷ ts) h = tt
after_end (Token.end_array ∷ ts) h = h.1
after_end (Token.key s ∷ ts) h = tt
after_end (Token.string s ∷ ts) h = tt
after_end (Token.number s ∷ ts) h = tt
after_end (Token.boolean b ∷ ts) h = tt
after_end (Token.null ∷ ts) h = tt
after_end (Token.bad ∷ ts) h = tt

-- the name of the next member, if there is one, and the rest after it
abbrev IsNamed : Option (List ℕ) × List Token → Type 0
IsNamed p = IfSome p.0 IsUtf8 × AreSpelt p.1

after_key : (ts : List Token) → AreSpelt ts → IfSome (read_key ts) IsNamed
after_key [] h = tt
after_key (Token.begin_object ∷ ts) h = tt
after_key (Token.end_object ∷ ts) h = (tt, h.1)
after_key (Token.begin_array ∷ ts) h = tt
after_key (Token.end_array ∷ ts) h = tt
after_key (Token.key s ∷ ts) h = h
after_key (Token.string s ∷ ts) h = tt
after_key (Token.number s ∷ ts) h = tt
after_key (Token.boolean b ∷ ts) h = tt
after_key (Token.null ∷ ts) h = tt
after_key (Token.bad ∷ ts) h = tt

module _ (part : Parse Json) (keeps : Keeps IsClear part) where
  list_step : (more : Parse j.Items) → Keeps AreClear more → (ts : List Token) → AreSpelt ts → (located : Option (List Token)) → IfSome located AreSpelt → IfSome (items_step part more ts located) (Leaves AreClear)
  list_step more rest ts h (Some left) located = (tt, located)
  list_step more rest ts h None located =
      gone_on (Leaves IsClear) (Leaves AreClear) (λ p. parse_map (j.item p.0) (more p.1)) (part ts)
      (λ p first. read_on AreClear AreClear (j.item p.0) (more p.1) (λ js clear. (first.0, clear)) (rest p.1 first.1)) (keeps ts h)

  list_of : (n : ℕ) → Keeps AreClear (items part n)
  unfolding items
  list_of zero ts h = tt
  list_of (suc n) ts h = list_step (items part n) (list_of n) ts h (after_end_array ts) (after_end ts h)

  member_step : (more : Parse j.Members) → Keeps HaveClear more → (located : Option (List ℕ)) (ts : List Token) → IfSome located IsUtf8 → AreSpelt ts → IfSome (members_step part more located ts) (Leaves HaveClear)
  member_step more rest None ts name h = (tt, h)
  member_step more rest (Some k) ts name h =
      gone_on (Leaves IsClear) (Leaves HaveClear) (λ p. parse_map (j.member k p.0) (more p.1)) (part ts)
      (λ p first. read_on HaveClear HaveClear (j.member k p.0) (more p.1) (λ ms clear. (name, first.0, clear)) (rest p.1 first.1)) (keeps ts h)

  members_of : (n : ℕ) → Keeps HaveClear (members part n)
  unfolding members
  members_of zero ts h = tt
  members_of (suc n) ts h =
      gone_on IsNamed (Leaves HaveClear) (λ p. members_step part (members part n) p.0 p.1) (read_key ts) (λ p left. member_step (members part n) (members_of n) p.0 p.1 left.0 left.1) (after_key ts h)

value_clear : (depth : ℕ) → Keeps IsClear (value depth)
unfolding value
value_clear zero = value_of (λ ts. None) (λ ts. None) (λ ts h. tt) (λ ts h. tt)
value_clear (suc depth) =
    value_of (λ ts. items (value depth) (length ts) ts) (λ ts. members (value depth) (length ts) ts)
    (λ ts h. list_of (value depth) (value_clear depth) (length ts) ts h) (λ ts h. members_of (value depth) (value_clear depth) (length ts) ts h)

last_clear : (v : Json) (ts : List Token) → IsClear v → IfSome (if_last v ts) IsClear
last_clear v [] h = h
last_clear v (t ∷ ts) h = tt

-- ---- the tree

put_legible : (k : List ℕ) (d : Data) (ms : Members) → IsLegible d → HaveLegible ms → HaveLegible (put k d ms)
put_legible k d no_members one others = (one, tt)
put_legible k d (member l e ms) one others =
    by_order (slice_cmp nat_cmp k l) (member k d (member l e ms)) (member l d ms) (member l e (put k d ms)) (one, others) (one, others.1) (others.0, put_legible k d ms one others.1)
  where
    by_order : (o : Ordering) (a b c : Members) → HaveLegible a → HaveLegible b → HaveLegible c → HaveLegible (match_ordering o a b c)
    by_order Less a b c first second third = first
    by_order Equal a b c first second third = second
    by_order Greater a b c first second third = third

mutual
  pub data_legible : (v : Json) → IsClear v → IfSome (of_json v) IsLegible
  data_legible j.null h = tt
  data_legible (j.boolean b) h = tt
  data_legible (j.number s) h = mapped IsOfBits IsLegible number (number_of s) (λ n fits. fits) (number_fits s)
  data_legible (j.string s) h = h
  data_legible (j.array js) h = mapped AreLegible IsLegible array (of_items js) (λ ds legible. legible) (items_legible js h)
  data_legible (j.object ms) h = mapped HaveLegible IsLegible object (of_members ms no_members) (λ located legible. legible) (members_legible ms no_members h tt)

  items_legible : (js : j.Items) → AreClear js → IfSome (of_items js) AreLegible
  items_legible j.no_items h = tt
  items_legible (j.item v js) h =
      gone_on IsLegible AreLegible (λ d. option_map (item d) (of_items js)) (of_json v) (λ d one. mapped AreLegible AreLegible (item d) (of_items js) (λ ds legible. (one, legible)) (items_legible js h.1)) (data_legible v h.0)

  members_legible : (ms : j.Members) (located : Members) → HaveClear ms → HaveLegible located → IfSome (of_members ms located) HaveLegible
  members_legible j.no_members located h legible = legible
  members_legible (j.member k v ms) located h legible =
      gone_on IsLegible HaveLegible (λ d. of_members ms (put k d located)) (of_json v) (λ d one. members_legible ms (put k d located) h.2 (put_legible k d located one legible)) (data_legible v h.1)

-- ---- values as verbatim texts

spelt_both : (ts us : List Token) → AreSpelt ts → AreSpelt us → AreSpelt (ts ++ us)
spelt_both [] us h k = k
spelt_both (t ∷ ts) us h k = (h.0, spelt_both ts us h.1 k)

mutual
  pub value_spelt : (v : Json) → IsClear v → AreSpelt (json_tokens v)
  value_spelt j.null h = (tt, tt)
  value_spelt (j.boolean b) h = (tt, tt)
  value_spelt (j.number s) h = (h, tt)
  value_spelt (j.string s) h = (h, tt)
  value_spelt (j.array js) h = (tt, items_spelt js h)
  value_spelt (j.object ms) h = (tt, members_spelt ms h)

  items_spelt : (js : j.Items) → AreClear js → AreSpelt (items_tokens js)
  items_spelt j.no_items h = (tt, tt)
  items_spelt (j.item v js) h = spelt_both (json_tokens v) (items_tokens js) (value_spelt v h.0) (items_spelt js h.1)

  members_spelt : (ms : j.Members) → HaveClear ms → AreSpelt (members_tokens ms)
  members_spelt j.no_members h = (tt, tt)
  members_spelt (j.member k v ms) h = (h.0, spelt_both (json_tokens v) (members_tokens ms) (value_spelt v h.1) (members_spelt ms h.2))

own_legible : (v : Json) → IsClear v → IfSome (as_verbatim v) IsLegible
own_legible v h = mapped (λ _. Unit {0}) IsLegible (λ tree. string (verbatim v)) (of_json v) (λ tree u. printed_utf8 (json_tokens v) (value_spelt v h)) (any_given (of_json v))

either_legible : (b : Bool) (o p : Option Data) → IfSome o IsLegible → IfSome p IsLegible → IfSome (cond b o p) IsLegible
either_legible true o p first second = first
either_legible false o p first second = second

mutual
  verbatim_legible : (raw_texts : List ℕ → Bool) (v : Json) → IsClear v → IfSome (mixed_tree raw_texts v) IsLegible
  verbatim_legible raw_texts j.null h = tt
  verbatim_legible raw_texts (j.boolean b) h = tt
  verbatim_legible raw_texts (j.number s) h = mapped IsOfBits IsLegible number (number_of s) (λ n fits. fits) (number_fits s)
  verbatim_legible raw_texts (j.string s) h = h
  verbatim_legible raw_texts (j.array js) h = mapped AreLegible IsLegible array (mixed_items raw_texts js) (λ ds legible. legible) (verbatim_items raw_texts js h)
  verbatim_legible raw_texts (j.object ms) h = mapped HaveLegible IsLegible object (mixed_members raw_texts ms no_members) (λ located legible. legible) (kept_members raw_texts ms no_members h tt)

  verbatim_items : (raw_texts : List ℕ → Bool) (js : j.Items) → AreClear js → IfSome (mixed_items raw_texts js) AreLegible
  verbatim_items raw_texts j.no_items h = tt
  verbatim_items raw_texts (j.item v js) h =
      gone_on IsLegible AreLegible (λ d. option_map (item d) (mixed_items raw_texts js)) (mixed_tree raw_texts v) (λ d one. mapped AreLegible AreLegible (item d) (mixed_items raw_texts js) (λ ds legible. (one, legible)) (verbatim_items raw_texts js h.1)) (verbatim_legible raw_texts v h.0)

  kept_members : (raw_texts : List ℕ → Bool) (ms : j.Members) (located : Members) → HaveClear ms → HaveLegible located → IfSome (mixed_members raw_texts ms located) HaveLegible
  kept_members raw_texts j.no_members located h legible = legible
  kept_members raw_texts (j.member k v ms) located h legible =
      gone_on IsLegible HaveLegible (λ d. mixed_members raw_texts ms (put k d located)) (cond (raw_texts k) (as_verbatim v) (mixed_tree raw_texts v)) (λ d one. kept_members raw_texts ms (put k d located) h.2 (put_legible k d located one legible))
      (either_legible (raw_texts k) (as_verbatim v) (mixed_tree raw_texts v) (own_legible v h.1) (verbatim_legible raw_texts v h.1))

-- ---- the value of a whole text

pub text_clear : (text : List ℕ) → IsUtf8 text → IfSome (option_and_then (λ p. if_last p.0 p.1) (value max_depth (tokens text))) IsClear
text_clear text utf8 = gone_on (Leaves IsClear) IsClear (λ p. if_last p.0 p.1) (value max_depth (tokens text)) (λ p left. last_clear p.0 p.1 left.0) (value_clear max_depth (tokens text) (tokens_spelt text utf8))

pub read_legible : (text : List ℕ) → IsUtf8 text → IfSome (read text) IsLegible
read_legible text utf8 = gone_on IsClear IsLegible of_json (option_and_then (λ p. if_last p.0 p.1) (value max_depth (tokens text))) data_legible (text_clear text utf8)

pub tree_legible : (bytes : List ℕ) → IfSome (tree_of bytes) IsLegible
tree_legible bytes = of_test (is_utf8 bytes) refl
  where
    of_test : (b : Bool) → is_utf8 bytes ≡ b → IfSome (cond b (read bytes) None) IsLegible
    of_test false is = tt
    of_test true is = read_legible bytes (IsUtf8-from_is_utf8 bytes is)

-- for a tree with verbatim texts for the members of some names
pub verbatim_tree_legible : (raw_texts : List ℕ → Bool) (bytes : List ℕ) → IfSome (mixed_tree_of raw_texts bytes) IsLegible
verbatim_tree_legible raw_texts bytes = of_test (is_utf8 bytes) refl
  where
    of_test : (b : Bool) → is_utf8 bytes ≡ b → IfSome (cond b (mixed_tree_of_text raw_texts bytes) None) IsLegible
    of_test false is = tt
    of_test true is = gone_on IsClear IsLegible (mixed_tree raw_texts) (option_and_then (λ p. if_last p.0 p.1) (value max_depth (tokens bytes))) (verbatim_legible raw_texts) (text_clear bytes (IsUtf8-from_is_utf8 bytes is))
