-- Items of `planning` as they are read, one after the other.
use Rattle.std.proofs.Common.{◌≡◌, ℕ, ◌<◌, ◌≤◌, true, false, List, [], ◌∷◌, ◌++◌, length, map, Option, Some, None, refl, sym, ap, ◌∙◌, arith}
use Rattle.std.specs.Prelude.{is_some, nat_le}
use Rattle.std.proofs.lemmas.Bool.Decides.{nat_tests}
use Rattle.std.proofs.lemmas.List.{map-append}
use Rattle.std.proofs.lemmas.List.Sums.{fold-append}
use Rattle.serde_json.specs.Data.{Data}
use Rattle.apply_plan.specs.declared.script.planning_error.PlanningError.{PlanningError}
use Rattle.apply_plan.specs.declared.script.planning_error.PlanningError.TheVariants.{TooMany, Malformed}
use Rattle.apply_plan.specs.Script.EntriesView.{entries_in}
use Rattle.apply_planning_script.specs.declared.raw_item.RawItem.{RawItem}
use Rattle.apply_planning_script.specs.Items.{Item, item_of}
use Rattle.apply_planning_script.specs.ItemSlots.{item_view}
use Rattle.apply_planning_script.specs.Planning.{ReadItems, and_element, items_in, max_items, nothing_read}

abbrev read_with : List Item → Option PlanningError → ReadItems
read_with items fault = record { items = items; fault = fault }

one_more : (ds : List Data) (d : Data) → items_in (ds ++ d ∷ []) ≡ and_element (items_in ds) d
one_more ds d = fold-append and_element nothing_read ds (d ∷ [])

-- what is read of one element more
pub after : (old new : ReadItems) (ds : List Data) (d : Data) → new ≡ and_element old d → old ≡ items_in ds → new ≡ items_in (ds ++ d ∷ [])
after old new ds d is holds = is ∙ ap (λ (r : ReadItems). and_element r d) holds ∙ sym (one_more ds d)

module _ (items : List Item) (d : Data) where
  pub past : (fault : Option PlanningError) → is_some fault ≡ true → read_with items fault ≡ and_element (read_with items fault) d
  unfolding and_element
  past None none = absurd cc
  past (Some f) some = refl

  pub full : (fault : Option PlanningError) → is_some fault ≡ false → max_items ≤ length items → read_with items (Some TooMany) ≡ and_element (read_with items fault) d
  unfolding and_element
  full None none many = let test : nat_le max_items (length items) ≡ true = grind (arith, nat_tests) in rw test refl
  full (Some f) some many = absurd cc

  pub malformed : (fault : Option PlanningError) → is_some fault ≡ false → length items < max_items → item_of d ≡ None → read_with items (Some (Malformed (length items))) ≡ and_element (read_with items fault) d
  unfolding and_element
  malformed None none few is = let test : nat_le max_items (length items) ≡ false = grind (arith, nat_tests) in rw (test, is) refl
  malformed (Some f) some few is = absurd cc

  pub more : (fault : Option PlanningError) (item : Item) → is_some fault ≡ false → length items < max_items → item_of d ≡ Some item → read_with (items ++ item ∷ []) fault ≡ and_element (read_with items fault) d
  unfolding and_element
  more None item none few is = let test : nat_le max_items (length items) ≡ false = grind (arith, nat_tests) in rw (test, is) refl
  more (Some f) item some few is = absurd cc

-- one borrowed item more
pub grown : (old new : List RawItem) (item : RawItem) (fault : Option PlanningError) → new ≡ old ++ item ∷ [] → read_with (map item_view new) fault ≡ read_with (map item_view old ++ item_view item ∷ []) fault
grown old new item fault is = ap (λ (items : List Item). read_with items fault) (ap (map item_view) is ∙ map-append item_view old (item ∷ []))

pub same_place : (items : List Item) (n m : ℕ) → n ≡ m → read_with items (Some (Malformed n)) ≡ read_with items (Some (Malformed m))
same_place items n m is = ap (λ (k : ℕ). read_with items (Some (Malformed k))) is

-- the items of the array of a script
abbrev pub said_items : Option Data → ReadItems
said_items elements = items_in (entries_in elements)
