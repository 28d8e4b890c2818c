-- Sums in loops that add up one after another.
use Rattle.std.proofs.Common.{◌≡◌, ℕ, ◌+◌, ◌<◌, ◌≤◌, List, [], ◌∷◌, true, false, cond, take, length, get_or, ⊎_elim, arith}
use Rattle.std.specs.List.{sum_by}
use Rattle.std.proofs.lemmas.Bool.{cases_Bool}
use Rattle.std.proofs.lemmas.List.{get_or_past}
use Rattle.std.proofs.lemmas.List.Sums.{get_or-le-sum_by, sum_by-cons, sum_by_more, sum_by-take-le}
use Rattle.stream_timeline.specs.declared.numbers.stretch.Stretch.{Stretch}
use Rattle.stream_timeline.specs.Numbers.{alone_in, is_alone, stretch_length}

-- what a part of a sum has, and one more, are no more than the whole
pub one_more_le : {X : Type 0} (f : X → ℕ) (xs : List X) (i : ℕ) (d : X) (n : ℕ) → i < length xs → n ≤ sum_by f (take i xs)
    → n + f (get_or xs i d) ≤ sum_by f xs
one_more_le f xs i d n l h = omega (arith, sum_by_more f xs i d l, sum_by-take-le f xs (i + 1))

-- how long a step was alone is part of all lengths
alone_le : (place : ℕ) (ss : List Stretch) → alone_in place ss ≤ sum_by stretch_length ss
alone_le place [] = omega arith
alone_le place (s ∷ ss) =
    let rest = alone_le place ss in
    let here : cond (is_alone place s) (stretch_length s) 0 ≤ stretch_length s =
    ⊎_elim (λ (yes : is_alone place s ≡ true). rw yes (omega arith)) (λ (no : is_alone place s ≡ false). rw no (omega arith)) (cases_Bool (is_alone place s)) in
    omega (arith, rest, here, sum_by-cons stretch_length s ss, sum_by-cons (λ (s : Stretch). cond (is_alone place s) (stretch_length s) 0) s ss)

pub alone_fits : (ss : List Stretch) (i : ℕ) (d : Stretch) (place : ℕ) → i < length ss
    → alone_in place (take i ss) + stretch_length (get_or ss i d) ≤ sum_by stretch_length ss
alone_fits ss i d place l = one_more_le stretch_length ss i d (alone_in place (take i ss)) l (alone_le place (take i ss))

pub past_fits : (xs : List ℕ) (ss : List Stretch) (i : ℕ) (d : Stretch) (place : ℕ) → length xs ≤ place → i < length ss
    → get_or xs place 0 + stretch_length (get_or ss i d) ≤ sum_by stretch_length ss
past_fits xs ss i d place past l = rw (get_or_past xs place 0 past) (omega (arith, get_or-le-sum_by stretch_length ss i d l))
