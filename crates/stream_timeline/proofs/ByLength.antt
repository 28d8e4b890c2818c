-- Rows in the order of their lengths.
use Rattle.std.proofs.Common.{◌≡◌, ℕ, ◌-◌, ◌∙◌, List, IsPermutation, Option, arith, ap, drop, false, length, map, take, true}
use Rattle.std.specs.Cmp.{IsStrictWeakOrder}
use Rattle.std.proofs.lemmas.Bool.Decides.{nat_tests}
use Rattle.stream_timeline.specs.declared.reading.time_range.TimeRange.{TimeRange}
use Rattle.stream_timeline.specs.declared.rows.choosing.Candidate.{Candidate}
use Rattle.stream_timeline.specs.declared.rows.choosing.Rows.{Rows}
use Rattle.stream_timeline.specs.Rows.{candidates_of, longest, total_length}
use Rattle.stream_timeline.specs.RowsByLength.{AreLongestFirst, AreRowsByLength, is_longer, row_count}
use Rattle.stream_timeline.specs.Steps.{StepRead}
use Rattle.stream_timeline.proofs.Ranking.{before_alike, chain_alike}

one_way_alike : (k l p q : ℕ) → before_alike k l p q ≡ true → before_alike l k q p ≡ false
one_way_alike k l p q first = grind (arith, nat_tests)

pub longer_is_order : IsStrictWeakOrder is_longer
longer_is_order = record {
  one_way = λ a b. one_way_alike a.length b.length a.place b.place;
  chain = λ a b c. chain_alike a.length b.length c.length a.place b.place c.place;
}

-- the first `n` have a row, and `n` is how many get one
pub rows_are : (m : TimeRange) (steps : List StepRead) (limit : Option ℕ) (xs : List Candidate) (n : ℕ) (rows : Rows)
    → IsPermutation (candidates_of m steps) xs → AreLongestFirst xs → n ≡ row_count limit (length xs)
    → rows.places.items ≡ map (λ (c : Candidate). c.place) (take n xs)
    → rows.left_out ≡ length xs - n → rows.longest ≡ longest (drop n xs) → rows.total_length ≡ total_length (drop n xs) → AreRowsByLength m steps limit rows
rows_are m steps limit xs n rows perm ordered is shown number greatest sum = record {
  ranked = xs;
  all = perm;
  ordered = ordered;
  shown = shown ∙ ap (λ (k : ℕ). map (λ (c : Candidate). c.place) (take k xs)) is;
  number_left = number ∙ ap (λ (k : ℕ). length xs - k) is;
  longest_left = greatest ∙ ap (λ (k : ℕ). longest (drop k xs)) is;
  total_length_left = sum ∙ ap (λ (k : ℕ). total_length (drop k xs)) is;
}
