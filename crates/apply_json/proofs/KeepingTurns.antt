-- The loops of the grammar, one turn at a time, for mixed trees.
use Rattle.std.proofs.Common.{◌≡◌, ℕ, zero, suc, ◌-◌, ◌<◌, ◌≤◌, List, Bool, length, Option, Some, None, option_map, option_and_then, refl, ap, ◌∙◌}
use Rattle.json.specs.Token.{Token}
use Rattle.json.specs.Json as json
use Rattle.json.specs.Json.{Parse, parse_map, after_end_array, read_key, items_step, items, members}
use Rattle.json.proofs.Grammar.{items_end, items_more, members_end, members_no_key, members_more}
use Rattle.serde_json.specs.Data.{Data, Items, no_items, item, Members, put}
use Rattle.serde_json.specs.Read.{converted, of_json}
use Rattle.apply_json.specs.Verbatim.{mixed_tree, mixed_items, mixed_member, mixed_members}
use Rattle.apply_json.proofs.VerbatimValues as lemmas
use Rattle.apply_json.proofs.Turns.{converted_some, fused, refused}

twice : {A B : Type 0} (g : A → B) (r : List Token) (x : Option A) → option_map (λ b. (b, r)) (option_map g x) ≡ parse_map g (option_map (λ a. (a, r)) x)
twice g r None = refl
twice g r (Some a) = refl

module _ (is_verbatim : List ℕ → Bool) where
  with_item : (j : json.Json) (d : Data) → mixed_tree is_verbatim j ≡ Some d → (o : Option (json.Items × List Token)) → converted (mixed_items is_verbatim) (parse_map (json.item j) o) ≡ parse_map (item d) (converted (mixed_items is_verbatim) o)
  with_item j d e None = refl
  with_item j d e (Some p) = rw e (twice (item d) p.1 (mixed_items is_verbatim p.0))

  without_item : (j : json.Json) → mixed_tree is_verbatim j ≡ None → (o : Option (json.Items × List Token)) → converted (mixed_items is_verbatim) (parse_map (json.item j) o) ≡ None
  without_item j e None = refl
  without_item j e (Some p) = rw e

  with_member : (k : List ℕ) (j : json.Json) (d : Data) (old : Members) → mixed_member is_verbatim k j ≡ Some d → (o : Option (json.Members × List Token))
      → converted (λ ms. mixed_members is_verbatim ms old) (parse_map (json.member k j) o) ≡ converted (λ ms. mixed_members is_verbatim ms (put k d old)) o
  with_member k j d old e None = refl
  with_member k j d old e (Some p) = ap (λ (x : Option Data). option_map (λ b. (b, p.1)) (option_and_then (λ d. mixed_members is_verbatim p.0 (put k d old)) x)) e

  without_member : (k : List ℕ) (j : json.Json) (old : Members) → mixed_member is_verbatim k j ≡ None → (o : Option (json.Members × List Token))
      → converted (λ ms. mixed_members is_verbatim ms old) (parse_map (json.member k j) o) ≡ None
  without_member k j old e None = refl
  without_member k j old e (Some p) = ap (λ (x : Option Data). option_map (λ b. (b, p.1)) (option_and_then (λ d. mixed_members is_verbatim p.0 (put k d old)) x)) e

  -- ---- one turn

  module _ (p : Parse json.Json) where
    item_read : (n : ℕ) (ts r : List Token) (d : Data) → 0 < n → after_end_array ts ≡ None → converted (mixed_tree is_verbatim) (p ts) ≡ Some (d, r)
        → converted (mixed_items is_verbatim) (items p n ts) ≡ parse_map (item d) (converted (mixed_items is_verbatim) (items p (n - 1) r))
    item_read n ts r d some going e =
        let j = converted_some (mixed_tree is_verbatim) (p ts) d r e in ap (converted (mixed_items is_verbatim)) (items_more p n ts r j.0 some going j.1) ∙ with_item j.0 d j.2 _

    no_item : (more : Parse json.Items) (o : Option (json.Json × List Token)) → converted (mixed_tree is_verbatim) o ≡ None
        → converted (mixed_items is_verbatim) (option_and_then (λ q. parse_map (json.item q.0) (more q.1)) o) ≡ None
    no_item more None e = refl
    no_item more (Some q) e = without_item q.0 (refused q.1 (mixed_tree is_verbatim q.0) e) (more q.1)

    item_refused : (n : ℕ) (ts : List Token) → after_end_array ts ≡ None → converted of_json (p ts) ≡ None → converted (mixed_items is_verbatim) (items p n ts) ≡ None
    unfolding items
    item_refused zero ts going e = refl
    item_refused (suc n) ts going e =
        ap (λ o. converted (mixed_items is_verbatim) (items_step p (items p n) ts o)) going ∙ no_item (items p n) (p ts) (lemmas.no_item is_verbatim (p ts) e)

    items_over : (n : ℕ) (ts r : List Token) → length ts ≤ n → after_end_array ts ≡ Some r → converted (mixed_items is_verbatim) (items p n ts) ≡ Some (no_items, r)
    items_over n ts r enough e = ap (converted (mixed_items is_verbatim)) (items_end p n ts r enough e)

    -- one turn after the items that were read
    module _ (all : Option (Items × List Token)) (front : Items → Items) (n : ℕ) (ts : List Token) (so_far : all ≡ parse_map front (converted (mixed_items is_verbatim) (items p n ts))) where
      pub item_behind : (r : List Token) (d : Data) → 0 < n → after_end_array ts ≡ None → converted (mixed_tree is_verbatim) (p ts) ≡ Some (d, r)
          → all ≡ parse_map (λ ds. front (item d ds)) (converted (mixed_items is_verbatim) (items p (n - 1) r))
      item_behind r d some going e = so_far ∙ ap (parse_map front) (item_read n ts r d some going e) ∙ fused front (item d) _

      pub refused_behind : after_end_array ts ≡ None → converted of_json (p ts) ≡ None → all ≡ None
      refused_behind going e = so_far ∙ ap (parse_map front) (item_refused n ts going e)

      pub over_behind : (r : List Token) → length ts ≤ n → after_end_array ts ≡ Some r → all ≡ Some (front no_items, r)
      over_behind r enough e = so_far ∙ ap (parse_map front) (items_over n ts r enough e)

    module _ (old : Members) where
      pub member_read : (n : ℕ) (k : List ℕ) (ts s r : List Token) (d : Data) → 0 < n → read_key ts ≡ Some (Some k, s) → converted (mixed_member is_verbatim k) (p s) ≡ Some (d, r)
          → converted (λ ms. mixed_members is_verbatim ms old) (members p n ts) ≡ converted (λ ms. mixed_members is_verbatim ms (put k d old)) (members p (n - 1) r)
      member_read n k ts s r d some key e =
          let j = converted_some (mixed_member is_verbatim k) (p s) d r e in
          ap (converted (λ ms. mixed_members is_verbatim ms old)) (members_more p n k ts s r j.0 some key j.1) ∙ with_member k j.0 d old j.2 _

      no_member : (k : List ℕ) (more : Parse json.Members) (o : Option (json.Json × List Token)) → converted (mixed_member is_verbatim k) o ≡ None
          → converted (λ ms. mixed_members is_verbatim ms old) (option_and_then (λ q. parse_map (json.member k q.0) (more q.1)) o) ≡ None
      no_member k more None e = refl
      no_member k more (Some q) e = without_member k q.0 old (refused q.1 (mixed_member is_verbatim k q.0) e) (more q.1)

      pub member_refused : (n : ℕ) (k : List ℕ) (ts s : List Token) → read_key ts ≡ Some (Some k, s) → converted of_json (p s) ≡ None → converted (λ ms. mixed_members is_verbatim ms old) (members p n ts) ≡ None
      unfolding members
      member_refused zero k ts s key e = refl
      member_refused (suc n) k ts s key e = rw key (no_member k (members p n) (p s) (lemmas.no_member is_verbatim (p s) k e))

      pub key_refused : (n : ℕ) (ts : List Token) → read_key ts ≡ None → converted (λ ms. mixed_members is_verbatim ms old) (members p n ts) ≡ None
      key_refused n ts e = ap (converted (λ ms. mixed_members is_verbatim ms old)) (members_no_key p n ts e)

      pub members_over : (n : ℕ) (ts r : List Token) → length ts ≤ n → read_key ts ≡ Some (None, r) → converted (λ ms. mixed_members is_verbatim ms old) (members p n ts) ≡ Some (old, r)
      members_over n ts r enough e = ap (converted (λ ms. mixed_members is_verbatim ms old)) (members_end p n ts r enough e)
