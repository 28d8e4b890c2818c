-- Entries with a step that can never begin.
use Rattle.std.specs.Prelude.{ℕ, List, Bool, not, filter, map}
use Rattle.std.specs.List.{enumerate_from, list_any, range_with_len}
use Rattle.apply_model.specs.Script.OutcomeMap.{OutcomeMap}
use Rattle.apply_model.specs.Script.Waits.{could_begin}

-- One of the first steps of the change can never begin. An entry is the number of the change and
-- how many of its steps count.
abbrev pub is_unreachable_at : OutcomeMap → ℕ × ℕ → Bool
is_unreachable_at script entry = list_any (λ step. not (could_begin script entry.0 step)) (range_with_len 0 entry.1)

-- The positions of the items that pass a test, where the first item has the position `first`.
abbrev pub numbers_from : {X : Type 0} → ℕ → (X → Bool) → List X → List ℕ
numbers_from first test xs = map (λ p. p.0) (filter (λ p. test p.1) (enumerate_from first xs))
