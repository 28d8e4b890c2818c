-- Items of a trimmed tree, as a reader adds them one by one.
use Rattle.std.proofs.Common.{◌≡◌, ◌<◌, ◌≤◌, ◌+◌, ◌-◌, ℕ, zero, suc, Option, Some, None, option_map, true, false, List, [], ◌∷◌, ◌++◌, length, refl, sym, ap, ◌∙◌, arith, length-append}
use Rattle.std.proofs.lemmas.Bool.{ltb-false, ltb-true}
use Rattle.serde_json.specs.Data.{Data, Items, no_items, item}
use Rattle.serde_json.specs.View.{view, items_view}
use Rattle.serde_json.specs.declared.value.Value.{Value}
use Rattle.apply_json_tree.specs.Trimmed.{Selection, is_within, trimmed, trimmed_items}

-- the values, followed by the items
abbrev pub items_before : List Value → Items → Items
items_before [] ds = ds
items_before (v ∷ vs) ds = item (view v) (items_before vs ds)

pub items_before-no_items : (vs : List Value) → items_before vs no_items ≡ items_view vs
items_before-no_items [] = refl
items_before-no_items (v ∷ vs) = ap (item (view v)) (items_before-no_items vs)

one_more : (vs : List Value) (v : Value) (ds : Items) → items_before vs (item (view v) ds) ≡ items_before (vs ++ v ∷ []) ds
one_more [] v ds = refl
one_more (first ∷ vs) v ds = ap (item (view first)) (one_more vs v ds)

-- what is left of a limit after that many items
abbrev pub left : Option ℕ → ℕ → Option ℕ
left limit count = option_map (λ n. n - count) limit

module _ {S : Type 0} (selection : Selection S) where
  -- one more item is stored
  kept_at : (shape : S) (limit : Option ℕ) (count : ℕ) (d : Data) (ds : Items) → is_within limit count ≡ true
      → trimmed_items selection shape (left limit count) (item d ds) ≡ item (trimmed selection shape d) (trimmed_items selection shape (left limit (count + 1)) ds)
  kept_at shape None count d ds within = refl
  kept_at shape (Some limit) count d ds within =
      let below : count < limit = ltb-true count limit within in
      let more : limit - count ≡ suc (limit - (count + 1)) = omega (arith, below) in
      ap (λ n. trimmed_items selection shape (Some n) (item d ds)) more

  kept_last : (shape : S) (limit : Option ℕ) (vs : List Value) (v : Value) (d : Data) (ds : Items) → is_within limit (length vs) ≡ true → view v ≡ trimmed selection shape d
      → items_before vs (trimmed_items selection shape (left limit (length vs)) (item d ds)) ≡ items_before (vs ++ v ∷ []) (trimmed_items selection shape (left limit (length (vs ++ v ∷ []))) ds)
  kept_last shape limit vs v d ds within is =
      let longer : length vs + 1 ≡ length (vs ++ v ∷ []) = omega (arith, length-append vs (v ∷ [])) in
      ap (items_before vs) (kept_at shape limit (length vs) d ds within ∙ ap (λ e. item e (trimmed_items selection shape (left limit (length vs + 1)) ds)) (sym is))
      ∙ one_more vs v _ ∙ ap (λ n. items_before (vs ++ v ∷ []) (trimmed_items selection shape (left limit n) ds)) longer

  -- one more item is stored, pushed by a reader
  pub kept : (shape : S) (limit : Option ℕ) (vs all : List Value) (v : Value) (d : Data) (ds : Items) → is_within limit (length vs) ≡ true → view v ≡ trimmed selection shape d → all ≡ vs ++ v ∷ []
      → items_before vs (trimmed_items selection shape (left limit (length vs)) (item d ds)) ≡ items_before all (trimmed_items selection shape (left limit (length all)) ds)
  kept shape limit vs all v d ds within is pushed = rw pushed (kept_last shape limit vs v d ds within is)

  -- a skipped item
  passed_at : (shape : S) (count : ℕ) (d : Data) (ds : Items) → count ≡ 0 → trimmed_items selection shape (Some count) (item d ds) ≡ trimmed_items selection shape (Some count) ds
  passed_at shape zero d no_items none = refl
  passed_at shape zero d (item e ds) none = refl
  passed_at shape (suc count) d ds none = absurd (omega (arith, none))

  pub passed : (shape : S) (limit : Option ℕ) (vs : List Value) (d : Data) (ds : Items) → is_within limit (length vs) ≡ false
      → items_before vs (trimmed_items selection shape (left limit (length vs)) (item d ds)) ≡ items_before vs (trimmed_items selection shape (left limit (length vs)) ds)
  passed shape None vs d ds past = absurd cc
  passed shape (Some limit) vs d ds past =
      let beyond : limit ≤ length vs = ltb-false (length vs) limit past in
      ap (items_before vs) (passed_at shape (limit - length vs) d ds (omega (arith, beyond)))

  none_taken : (limit : Option ℕ) (count : ℕ) → count ≡ 0 → limit ≡ left limit count
  none_taken None count none = refl
  none_taken (Some limit) count none = let same : limit ≡ limit - count = omega (arith, none) in ap Some same

  pub none_found : (shape : S) (limit : Option ℕ) (vs : List Value) (ds : Items) → vs ≡ [] → trimmed_items selection shape limit ds ≡ items_before vs (trimmed_items selection shape (left limit (length vs)) ds)
  none_found shape limit vs ds none =
      ap (λ o. trimmed_items selection shape o ds) (none_taken limit (length vs) (ap length none)) ∙ ap (λ us. items_before us (trimmed_items selection shape (left limit (length vs)) ds)) (sym none)
