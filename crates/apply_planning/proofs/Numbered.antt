-- The numbers of names, from the last told object to the first.
use Rattle.std.proofs.Common.{◌≡◌, ◌<◌, ◌≤◌, ◌+◌, ◌-◌, ℕ, zero, suc, List, [], ◌∷◌, length, drop, get_or, Option, Some, cond, true, false, Bool, refl, sym, ap, ◌∙◌, ⊎_elim, arith, drop-cons}
use Rattle.std.specs.List.{position_from}
use Rattle.std.specs.Str.{bytes_eq}
use Rattle.std.proofs.lemmas.Bool.{cases_Bool, true≢false}
use Rattle.std.proofs.lemmas.List.{get_or-map, length-map}
use Rattle.std.proofs.lemmas.Slice.Eq.{bytes_eq-Decides}
use Rattle.apply_planning.specs.declared.told.Told.{Told}
use Rattle.apply_planning.specs.Names.{first_named, names_of}

pub bytes_same : (a b : List ℕ) → bytes_eq a b ≡ true → a ≡ b
bytes_same a b same = (bytes_eq-Decides a b).0 same

pub same_bytes : (a b : List ℕ) → a ≡ b → bytes_eq a b ≡ true
same_bytes a b is = (bytes_eq-Decides a b).1 is

pub other_bytes : (a b : List ℕ) → (a ≡ b → ⊥) → bytes_eq a b ≡ false
other_bytes a b ne = ⊎_elim
    (λ (same : bytes_eq a b ≡ true). absurd (ne (bytes_same a b same)))
    (λ (differ : bytes_eq a b ≡ false). differ)
    (cases_Bool (bytes_eq a b))

same_either_way : (a b : List ℕ) → bytes_eq a b ≡ bytes_eq b a
same_either_way a b = ⊎_elim
    (λ (same : bytes_eq a b ≡ true). same ∙ sym (same_bytes b a (sym (bytes_same a b same))))
    (λ (differ : bytes_eq a b ≡ false). differ ∙ sym (other_bytes b a (λ is. true≢false (sym (same_bytes a b (sym is)) ∙ differ))))
    (cases_Bool (bytes_eq a b))

-- one object more, before the others
pub number_more : (told : List Told) (n : ℕ) (one : Told) (key name : List ℕ) (before after : Option ℕ) → 0 < n → n ≤ length told → one ≡ get_or told (n - 1) one → key ≡ one.name
    → before ≡ position_from (bytes_eq name) n (drop n (names_of told)) → after ≡ cond (bytes_eq key name) (Some (n - 1)) before
    → after ≡ position_from (bytes_eq name) (n - 1) (drop (n - 1) (names_of told))
number_more told n one key name before after some within is same had has =
    let names = names_of told in
    let size = length-map told (λ (x : Told). x.name) in
    let below : n - 1 < length names = omega arith in
    let next : n - 1 + 1 ≡ n = omega arith in
    let follows : suc (n - 1) ≡ n = omega arith in
    let there : key ≡ get_or names (n - 1) key =
    same ∙ ap (λ (x : Told). x.name) is ∙ sym (get_or-map (λ (x : Told). x.name) told (n - 1) one key (omega arith)) in
    has
    ∙ ap (λ (o : Option ℕ). cond (bytes_eq key name) (Some (n - 1)) o) had
    ∙ ap (λ (b : Bool). cond b (Some (n - 1)) (position_from (bytes_eq name) n (drop n names))) (same_either_way key name)
    ∙ sym (ap (position_from (bytes_eq name) (n - 1)) (drop-cons names (n - 1) key below)
    ∙ ap (λ (y : List ℕ). cond (bytes_eq name y) (Some (n - 1)) (position_from (bytes_eq name) (n - 1 + 1) (drop (suc (n - 1)) names))) (sym there)
    ∙ ap (λ (m : ℕ). cond (bytes_eq name key) (Some (n - 1)) (position_from (bytes_eq name) m (drop (suc (n - 1)) names))) next
    ∙ ap (λ (m : ℕ). cond (bytes_eq name key) (Some (n - 1)) (position_from (bytes_eq name) n (drop m names))) follows)

-- ---- what a number stands for

found_at : (name : List ℕ) (i : ℕ) (names : List (List ℕ)) (n : ℕ) → position_from (bytes_eq name) i names ≡ Some n
    → (i ≤ n) × (n - i < length names) × (get_or names (n - i) [] ≡ name)
found_at name i [] n is = absurd cc
found_at name i (x ∷ xs) n is = ⊎_elim
    (λ (same : bytes_eq name x ≡ true).
    let it : Some i ≡ Some n = ap (λ (b : Bool). cond b (Some i) (position_from (bytes_eq name) (i + 1) xs)) (sym same) ∙ is in
    let here : i ≡ n = cc in
    let none : n - i ≡ 0 = omega (arith, here) in
    (omega (arith, here), omega (arith, none), ap (λ k. get_or (x ∷ xs) k []) none ∙ sym (bytes_same name x same)))
    (λ (differs : bytes_eq name x ≡ false).
    let rest = found_at name (i + 1) xs n (ap (λ (b : Bool). cond b (Some i) (position_from (bytes_eq name) (i + 1) xs)) (sym differs) ∙ is) in
    let low : i + 1 ≤ n = rest.0 in
    let high : n - (i + 1) < length xs = rest.1 in
    let next : n - i ≡ suc (n - (i + 1)) = omega (arith, low) in
    (omega (arith, low), omega (arith, next, high), ap (λ k. get_or (x ∷ xs) k []) next ∙ rest.2))
    (cases_Bool (bytes_eq name x))

found_for : (name : List ℕ) (i : ℕ) (names : List (List ℕ)) (k : ℕ) → k < length names → get_or names k [] ≡ name → (n : ℕ) × (position_from (bytes_eq name) i names ≡ Some n)
found_for name i [] k lt is = absurd (omega arith)
found_for name i (x ∷ xs) zero lt is = (i, ap (λ (b : Bool). cond b (Some i) (position_from (bytes_eq name) (i + 1) xs)) (same_bytes name x (sym is)))
found_for name i (x ∷ xs) (suc k) lt is = ⊎_elim
    (λ (same : bytes_eq name x ≡ true). (i, ap (λ (b : Bool). cond b (Some i) (position_from (bytes_eq name) (i + 1) xs)) same))
    (λ (differs : bytes_eq name x ≡ false).
    let rest = found_for name (i + 1) xs k (omega arith) is in
    (rest.0, ap (λ (b : Bool). cond b (Some i) (position_from (bytes_eq name) (i + 1) xs)) differs ∙ rest.1))
    (cases_Bool (bytes_eq name x))

-- the name of object c
abbrev pub named_at : List Told → ℕ → List ℕ
named_at told c = get_or (names_of told) c []

-- the number of a name is that of an object with it
pub first_is : (told : List Told) (name : List ℕ) (n : ℕ) → first_named told name ≡ Some n → (n < length told) × (named_at told n ≡ name)
first_is told name n is =
    let found = found_at name 0 (names_of told) n is in
    let size = length-map told (λ (x : Told). x.name) in
    let low = found.1 in
    let same : n - 0 ≡ n = omega arith in
    (omega arith, ap (named_at told) (sym same) ∙ found.2)

-- each object has a number for its name
pub first_exists : (told : List Told) (c : ℕ) → c < length told → (n : ℕ) × (first_named told (named_at told c) ≡ Some n)
first_exists told c lt =
    let size = length-map told (λ (x : Told). x.name) in
    found_for (named_at told c) 0 (names_of told) c (omega arith) refl

pub name_read : (told : List Told) (c : ℕ) (one : Told) (name : List ℕ) → c < length told → one ≡ get_or told c one → name ≡ one.name → name ≡ named_at told c
name_read told c one name lt is same = same ∙ ap (λ (x : Told). x.name) is ∙ sym (get_or-map (λ (x : Told). x.name) told c one [] lt)
