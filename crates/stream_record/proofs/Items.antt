-- Lists that are written item by item.
use Rattle.std.proofs.Common.{◌≡◌, ◌∙◌, ◌+◌, ◌<◌, ◌≤◌, ℕ, [], ◌∷◌, ◌++◌, List, Bool, true, Some, ap, drop, get_or, length, map, refl, sym}
use Rattle.std.specs.Prelude.{Option, None, filter_map, slice_get}
use Rattle.std.proofs.lemmas.List.{drop_all, drop_more}
use Rattle.std.proofs.lemmas.Option.{get_or_from_slice_get, slice_get_within}
use Rattle.term_words.specs.MessageTexts.{AppendsText}
use Rattle.term_words.specs.declared.message_text.MessageText.{MessageText}
use Rattle.term_words.proofs.Appended.{text_as}
use Rattle.stream_record.specs.Parts.{closing, list_text, opening}
use Rattle.stream_record.proofs.Remains.{Remains, remains_as, remains_more, remains_none}

-- ---- the items from one on

pub drop_item : {A : Type 0} (xs : List A) (i : ℕ) (x : A) → Some x ≡ slice_get xs i → drop i xs ≡ x ∷ drop (i + 1) xs
drop_item xs i x is =
    drop_more xs i x (slice_get_within xs i x (sym is))
    ∙ ap (λ y. y ∷ drop (i + 1) xs) (get_or_from_slice_get xs i x x (sym is))

pub drop_at : {A : Type 0} (xs : List A) (i : ℕ) (x : A) → i < length xs → x ≡ get_or xs i x → drop i xs ≡ x ∷ drop (i + 1) xs
drop_at xs i x below is = drop_more xs i x below ∙ ap (λ y. y ∷ drop (i + 1) xs) (sym is)

-- ---- any items

-- an item was written
pub item_pushed : (begin end : List ℕ) (later : Bool) (item : List ℕ) (items left : List (List ℕ)) (whole : List ℕ) (a b c d : MessageText)
    → left ≡ item ∷ items → Remains (list_text begin end later left) whole a b
    → AppendsText b c (opening begin later) → AppendsText c d item → Remains (list_text begin end true items) whole a d
item_pushed begin end later item items left whole a b c d is before opened added =
    let rest = list_text begin end true items in
    let all = remains_as _ (opening begin later ++ (item ++ rest)) whole a b (sym (ap (list_text begin end later) is)) before in
    remains_more item rest whole a c d (remains_more (opening begin later) (item ++ rest) whole a b c all opened) added

-- no item is left
pub items_ended : (begin end : List ℕ) (later : Bool) (left : List (List ℕ)) (whole : List ℕ) (a b c : MessageText)
    → left ≡ [] → Remains (list_text begin end later left) whole a b → AppendsText b c (closing end later) → AppendsText a c whole
items_ended begin end later left whole a b c none before closed =
    remains_none _ whole a b c before (text_as b c _ _ (sym (ap (list_text begin end later) none)) closed)

-- ---- the texts of items

module _ {A : Type 0} (begin end : List ℕ) (text_of : A → List ℕ) (xs : List A) (i : ℕ) (later : Bool) (whole : List ℕ) (a : MessageText) where
  pub list_pushed : (x : A) (b c d : MessageText) → drop i xs ≡ x ∷ drop (i + 1) xs
      → Remains (list_text begin end later (map text_of (drop i xs))) whole a b
      → AppendsText b c (opening begin later) → AppendsText c d (text_of x)
      → Remains (list_text begin end true (map text_of (drop (i + 1) xs))) whole a d
  list_pushed x b c d is before opened added =
      item_pushed begin end later (text_of x) _ _ whole a b c d (ap (map text_of) is) before opened added

  pub list_ended : (b c : MessageText) → length xs ≤ i → Remains (list_text begin end later (map text_of (drop i xs))) whole a b
      → AppendsText b c (closing end later) → AppendsText a c whole
  list_ended b c ends before closed =
      items_ended begin end later _ whole a b c (ap (map text_of) (drop_all i xs ends)) before closed

-- ---- what is found for items

module _ {A B : Type 0} (found : A → Option B) (xs : List A) (i : ℕ) (x : A) (is : drop i xs ≡ x ∷ drop (i + 1) xs) where
  pub filter_map-more : (y : B) → found x ≡ Some y → filter_map found (drop i xs) ≡ y ∷ filter_map found (drop (i + 1) xs)
  filter_map-more y has = ap (filter_map found) is ∙ rw has refl

  pub filter_map-less : found x ≡ None → filter_map found (drop i xs) ≡ filter_map found (drop (i + 1) xs)
  filter_map-less none = ap (filter_map found) is ∙ rw none refl
