-- Numbers that rise below a limit.
use Rattle.std.proofs.Common.{◌≡◌, ℕ, ◌<◌, ◌≤◌, ◌+◌, List, [], ◌∷◌, ◌++◌, All, length, length-append, subst, sym, arith}
use Rattle.std.proofs.lemmas.List.Elements.{All-append, All-cons, All-nil}
use Rattle.std.specs.List.Sorted.{IsStrictlyIncreasing}
use Rattle.apply_run.specs.Worker.Drawn.{IsDrawn}

abbrev pub RisesOn : Type 0
RisesOn = (list : List ℕ) (number : ℕ) → IsStrictlyIncreasing list → All (λ earlier. earlier < number) list → IsStrictlyIncreasing (list ++ number ∷ [])

abbrev pub FitsBelow : Type 0
FitsBelow = (limit : ℕ) (list : List ℕ) → IsStrictlyIncreasing list → All (λ number. number < limit) list → length list ≤ limit

pub none_drawn : (limit : ℕ) → IsDrawn limit []
none_drawn limit = record { rising = λ k low. absurd (omega arith); below = All-nil (λ number. number < limit) }

-- a number more was drawn
pub drawn_on : RisesOn → (limit number : ℕ) (numbers numbers' : List ℕ) → IsDrawn limit numbers → numbers' ≡ numbers ++ number ∷ [] → number < limit → All (λ earlier. earlier < number) numbers → IsDrawn limit numbers'
drawn_on rises limit number numbers numbers' h is low above =
    subst (IsDrawn limit) (sym is)
    (record {
      rising = rises numbers number h.rising above;
      below = All-append (λ n. n < limit) numbers (number ∷ []) h.below (All-cons (λ n. n < limit) number [] low (All-nil (λ n. n < limit)));
    })

-- so one fewer is left
pub room_left : FitsBelow → (limit number : ℕ) (numbers numbers' : List ℕ) → IsDrawn limit numbers' → numbers' ≡ numbers ++ number ∷ [] → length numbers + 1 ≤ limit
room_left fits limit number numbers numbers' h is = let few = subst (λ l. length l ≤ limit) is (fits limit numbers' h.rising h.below) in omega (arith, few, length-append numbers (number ∷ []))
