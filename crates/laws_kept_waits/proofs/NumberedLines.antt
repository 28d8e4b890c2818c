-- Items with their numbers.
use Rattle.std.proofs.Common.{◌≡◌, ◌∙◌, ◌+◌, ◌<◌, ◌≤◌, ℕ, List, [], ◌∷◌, ◌++◌, sym, ap, arith, subst, ⊎_elim}
use Rattle.std.specs.List.{Contains, enumerate_from}
use Rattle.apply_events.proofs.Waits.Members.{in_cases, in_head, in_tail, not_in_none}
use Rattle.laws_kept_waits.proofs.Lists.{none_there}

-- a numbered item is one of the items
pub item_of : {X : Type 0} (first : ℕ) (xs : List X) (item : ℕ × X) → Contains (enumerate_from first xs) item → Contains xs item.1
item_of first [] item has = absurd (not_in_none item has)
item_of {X = X} first (x ∷ xs) item has = ⊎_elim
    (λ (here : (first, x) ≡ item). subst (Contains (x ∷ xs)) (ap (λ (i : ℕ × X). i.1) here) (in_head x xs))
    (λ (there : Contains (enumerate_from (first + 1) xs) item). in_tail x xs item.1 (item_of (first + 1) xs item there))
    (in_cases (first, x) (enumerate_from (first + 1) xs) item has)

-- where a numbered item stands: those before it have lower numbers, and the numbers go on after it
pub record IsSplit {X : Type 0} (first : ℕ) (xs : List X) (before after : List (ℕ × X)) (item : ℕ × X) : Type 0 where
  pub front : List X
  pub back : List X
  pub are : xs ≡ front ++ item.1 ∷ back
  pub no_lower : first ≤ item.0
  pub lower : (other : ℕ × X) → Contains before other → other.0 < item.0
  pub on : after ≡ enumerate_from (item.0 + 1) back

one_more : {X : Type 0} (first : ℕ) (x : X) (xs : List X) (one : ℕ × X) (before after : List (ℕ × X)) (item : ℕ × X) → first ≡ one.0 → IsSplit (first + 1) xs before after item
    → IsSplit first (x ∷ xs) (one ∷ before) after item
one_more {X = X} first x xs one before after item number later =
    let above = later.no_lower in record {
      front = x ∷ later.front;
      back = later.back;
      are = ap (λ (ys : List X). x ∷ ys) later.are;
      no_lower = omega (arith, above);
      lower = λ other has. ⊎_elim
          (λ (here : one ≡ other). let same : one.0 ≡ other.0 = ap (λ (i : ℕ × X). i.0) here in omega (arith, above, number, same))
          (λ (there : Contains before other). later.lower other there)
          (in_cases one before other has);
      on = later.on;
    }

pub split_at : {X : Type 0} (first : ℕ) (xs : List X) (before after : List (ℕ × X)) (item : ℕ × X) → enumerate_from first xs ≡ before ++ item ∷ after → IsSplit first xs before after item
split_at first [] before after item is = absurd (none_there before after item is)
split_at {X = X} first (x ∷ xs) [] after item is =
    let here : (first, x) ≡ item = cc in
    let rest : enumerate_from (first + 1) xs ≡ after = cc in
    let number : first ≡ item.0 = ap (λ (i : ℕ × X). i.0) here in record {
      front = [];
      back = xs;
      are = ap (λ (y : X). y ∷ xs) (ap (λ (i : ℕ × X). i.1) here);
      no_lower = omega (arith, number);
      lower = λ other has. absurd (not_in_none other has);
      on = sym rest ∙ ap (λ (m : ℕ). enumerate_from (m + 1) xs) number;
    }
split_at {X = X} first (x ∷ xs) (one ∷ before) after item is =
    let here : (first, x) ≡ one = cc in
    let rest : enumerate_from (first + 1) xs ≡ before ++ item ∷ after = cc in
    one_more first x xs one before after item (ap (λ (i : ℕ × X). i.0) here) (split_at (first + 1) xs before after item rest)
