-- The greatest number in a cell, of stretches that are looked through once.
use Rattle.std.proofs.Common.{◌≡◌, ℕ, ◌+◌, ◌*◌, ◌<◌, ◌≤◌, List, [], ◌∷◌, ◌++◌, map, Bool, true, false, ltb, length, get_or, drop, max, suc, zero, refl, sym, ap, ap₂, ◌∙◌, ⊎_elim, arith}
use Rattle.std.specs.Prelude.{◌&&◌}
use Rattle.std.specs.List.{range_with_len}
use Rattle.std.proofs.lemmas.Bool.{cases_lt, le-ltb}
use Rattle.std.proofs.lemmas.List.FromFn.{map-range_with_len_more}
use Rattle.stream_timeline.specs.Bars.{cell_begin, level_in, level_of, reaches_into}
use Rattle.stream_timeline.specs.Stretches.{AreInOrder}
use Rattle.stream_timeline.specs.declared.numbers.stretch.Stretch.{Stretch}
use Rattle.stream_timeline.proofs.BarLaws.{div_le, times_le}

-- ---- where cells begin

pub cells_rise : (cells span sooner later : ℕ) → 1 ≤ cells → sooner ≤ later → cell_begin cells span sooner ≤ cell_begin cells span later
cells_rise cells span sooner later some l = div_le (sooner * max 1 span) (later * max 1 span) cells (omega arith) (times_le sooner later (max 1 span) l)

-- ---- those that end too soon

out_at_end : (begin end : ℕ) (s : Stretch) → s.end ≤ begin → reaches_into begin end s ≡ false
out_at_end begin end s l = rw (le-ltb begin s.end l) (off (ltb s.begin end)) where
  off : (b : Bool) → (b && false) ≡ false
  off true = refl
  off false = refl

pub past_left : (begin end : ℕ) (ss : List Stretch) (n : ℕ) → n ≤ length ss → ((k : ℕ) (d : Stretch) → k < n → (get_or ss k d).end ≤ begin)
    → level_in begin end (drop n ss) ≡ level_in begin end ss
past_left begin end ss zero l past = refl
past_left begin end [] (suc n) l past = refl
past_left begin end (s ∷ ss) (suc n) l past =
    rw (out_at_end begin end s (past 0 s (omega arith)))
    (let rest = past_left begin end ss n (omega arith) (λ k d h. past (suc k) d (omega arith)) in omega (arith, rest))

-- ---- those that begin too late

out_at_begin : (begin end : ℕ) (s : Stretch) → end ≤ s.begin → reaches_into begin end s ≡ false
out_at_begin begin end s l = rw (le-ltb s.begin end l) refl

none_reaches : (begin end : ℕ) (ss : List Stretch) → ((k : ℕ) (d : Stretch) → k < length ss → end ≤ (get_or ss k d).begin) → level_in begin end ss ≡ 0
none_reaches begin end [] late = refl
none_reaches begin end (s ∷ ss) late =
    rw (out_at_begin begin end s (late 0 s (omega arith))) (let rest = none_reaches begin end ss (λ k d l. late (suc k) d (omega arith)) in omega (arith, rest))

late_from : (begin end : ℕ) (ss : List Stretch) (i : ℕ) (d : Stretch) → AreInOrder ss → i < length ss → end ≤ (get_or ss i d).begin → level_in begin end (drop i ss) ≡ 0
late_from begin end [] i d order l late = absurd (omega arith)
late_from begin end (s ∷ ss) zero d order l late = none_reaches begin end (s ∷ ss) (λ k e h. let rises = order 0 k e (omega arith) h in omega (arith, rises, late))
late_from begin end (s ∷ ss) (suc i) d order l late = late_from begin end ss i d (λ j k e le h. order (suc j) (suc k) e (omega arith) (omega arith)) (omega arith) late

-- ---- a look through those that reach into a cell

max_zero : (n : ℕ) → max n 0 ≡ n
max_zero n = omega arith

-- the first stretch that begins later, or the end of the list
pub level_late : (begin end : ℕ) (ss : List Stretch) (i n : ℕ) (d : Stretch) → AreInOrder ss → i < length ss → end ≤ (get_or ss i d).begin → max n (level_in begin end (drop i ss)) ≡ n
level_late begin end ss i n d order l late = ap (max n) (late_from begin end ss i d order l late) ∙ max_zero n

-- ---- one cell more

-- those passed before end no later, and neither do those passed now
pub past_more : (ss : List Stretch) (before now begin : ℕ) → ((k : ℕ) (d : Stretch) → k < before → (get_or ss k d).end ≤ begin)
    → ((k : ℕ) (d : Stretch) → before ≤ k → k < now → (get_or ss k d).end ≤ begin) → (k : ℕ) (d : Stretch) → k < now → (get_or ss k d).end ≤ begin
past_more ss before now begin past more k d l =
    ⊎_elim (λ (early : k < before). past k d early) (λ (late : before ≤ k). more k d late l) (cases_lt k before)

pub level_pushed : (ss : List Stretch) (cells span cell passed_over begin next end level : ℕ) (levels new : List ℕ)
    → begin ≡ cell_begin cells span cell → next ≡ cell_begin cells span (cell + 1) → end ≡ max next (begin + 1)
    → passed_over ≤ length ss → ((k : ℕ) (d : Stretch) → k < passed_over → (get_or ss k d).end ≤ begin) → level ≡ level_in begin end (drop passed_over ss)
    → levels ≡ map (level_of ss cells span) (range_with_len 0 cell) → new ≡ levels ++ level ∷ []
    → new ≡ map (level_of ss cells span) (range_with_len 0 (cell + 1))
level_pushed ss cells span cell passed_over begin next end level levels new at_begin at_next at_end within past is before more =
    let here : level ≡ level_of ss cells span cell =
    is ∙ (past_left begin end ss passed_over within past
    ∙ ap₂ (λ (b e : ℕ). level_in b e ss) at_begin (at_end ∙ ap₂ (λ (n b : ℕ). max n (b + 1)) at_next at_begin)) in
    more ∙ (ap₂ (λ (ls : List ℕ) (l : ℕ). ls ++ l ∷ []) before here ∙ sym (map-range_with_len_more (level_of ss cells span) 0 cell cell (omega arith)))
