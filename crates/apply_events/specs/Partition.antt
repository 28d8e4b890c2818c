-- Numbers that are dealt to lists, each once.
use Rattle.std.specs.Prelude.{◌≡◌, ℕ, zero, suc, ◌<◌, ◌==◌, List, [], ◌∷◌, ◌++◌, All, count_by, length, nat_lt, sum_by, if◌then◌else◌}
use Rattle.std.specs.List.Sorted.{IsStrictlyIncreasing}

-- How often the number stands in a list.
abbrev pub count_of : ℕ → List ℕ → ℕ
count_of number list = count_by (λ other. other == number) list

-- How often the number stands in some lists together.
abbrev pub places : ℕ → List (List ℕ) → ℕ
places number lists = sum_by (count_of number) lists

-- A strictly increasing list for each worker. Each number below the limit stands once in one list,
-- and no other number stands in any.
pub record IsPartition (workers limit : ℕ) (lists : List (List ℕ)) : Type 0 where
  pub count : length lists ≡ workers
  pub rising : All IsStrictlyIncreasing lists
  pub once : (number : ℕ) → places number lists ≡ (if nat_lt number limit then 1 else 0)

-- Each worker is named once, and nobody else is.
pub record NamesEachWorkerOnce (workers : ℕ) (named : List ℕ) : Type 0 where
  pub count : length named ≡ workers
  pub once : (worker : ℕ) → worker < workers → count_of worker named ≡ 1

-- The numbers below m that a worker gets, in order. `falls_to` names the worker who gets each
-- number.
abbrev pub numbers_of : (falls_to : ℕ → ℕ) → (worker m : ℕ) → List ℕ
numbers_of falls_to worker zero = []
numbers_of falls_to worker (suc m) =
    if falls_to m == worker
    then numbers_of falls_to worker m ++ m ∷ []
    else numbers_of falls_to worker m
