-- Two lists side by side, one pair more.
use Rattle.std.proofs.Common.{◌≡◌, ℕ, ◌+◌, ◌<◌, List, [], ◌∷◌, ◌++◌, get_or, length, take, refl, sym, ap, ◌∙◌, append_assoc, arith}
use Rattle.std.specs.List.{flat_map, zip}
use Rattle.std.proofs.lemmas.Grind.{flat_map-append}
use Rattle.std.proofs.lemmas.List.{append-nil, length-take-le, take_more}

zip_more : {X Y : Type 0} (xs : List X) (ys : List Y) (x : X) (y : Y) → length xs ≡ length ys → zip (xs ++ x ∷ []) (ys ++ y ∷ []) ≡ zip xs ys ++ (x, y) ∷ []
zip_more [] [] x y same = refl
zip_more [] (b ∷ ys) x y same = absurd (omega (arith, same))
zip_more (a ∷ xs) [] x y same = absurd (omega (arith, same))
zip_more (a ∷ xs) (b ∷ ys) x y same = ap (λ ps. (a, b) ∷ ps) (zip_more xs ys x y (omega (arith, same)))

-- what is made of the first pairs, with one pair more
pub made_more : {X Y A : Type 0} (f : X × Y → List A) (xs : List X) (ys : List Y) (n : ℕ) (x : X) (d : Y) (before old new : List A) → n < length xs → length ys ≡ length xs → x ≡ get_or xs n x
    → old ≡ before ++ flat_map f (zip (take n xs) (take n ys)) → new ≡ old ++ f (x, get_or ys n d) → new ≡ before ++ flat_map f (zip (take (n + 1) xs) (take (n + 1) ys))
made_more {X} {Y} {A} f xs ys n x d before old new few long x_is so_far grown =
    let y : Y = get_or ys n d in
    let first : take (n + 1) xs ≡ take n xs ++ x ∷ [] = take_more xs n x few ∙ ap (λ (v : X). take n xs ++ v ∷ []) (sym x_is) in
    let second : take (n + 1) ys ≡ take n ys ++ y ∷ [] = take_more ys n d (omega arith) in
    let same : length (take n xs) ≡ length (take n ys) = omega (arith, length-take-le n xs (omega arith), length-take-le n ys (omega arith)) in
    let pairs : zip (take (n + 1) xs) (take (n + 1) ys) ≡ zip (take n xs) (take n ys) ++ (x, y) ∷ [] = rw (first, second) (zip_more (take n xs) (take n ys) x y same) in
    let last : flat_map f (zip (take (n + 1) xs) (take (n + 1) ys)) ≡ flat_map f (zip (take n xs) (take n ys)) ++ f (x, y) =
    ap (flat_map f) pairs ∙ flat_map-append f (zip (take n xs) (take n ys)) ((x, y) ∷ []) ∙ ap (λ (l : List A). flat_map f (zip (take n xs) (take n ys)) ++ l) (append-nil (f (x, y))) in
    grown ∙ ap (λ (l : List A). l ++ f (x, y)) so_far ∙ append_assoc before (flat_map f (zip (take n xs) (take n ys))) (f (x, y)) ∙ ap (λ (l : List A). before ++ l) (sym last)
