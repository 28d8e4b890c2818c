-- Ranges of a list.
use Rattle.std.proofs.Common.{◌≡◌, ℕ, ◌+◌, ◌-◌, ◌≤◌, List, take, drop, slice_range, arith, ap, sym, ◌∙◌}
use Rattle.std.proofs.lemmas.List.{drop-drop, drop-take}

-- what is left of a range without its first n elements
pub slice_range-drop : (xs : List ℕ) (start n end : ℕ) → start + n ≤ end → slice_range xs (start + n) end ≡ drop n (slice_range xs start end)
slice_range-drop xs start n end within =
    let e : n + (end - (start + n)) ≡ end - start = omega arith in
    sym (
    ap (λ k. drop n (take k (drop start xs))) (sym e)
    ∙ drop-take n (end - (start + n)) (drop start xs)
    ∙ ap (take (end - (start + n))) (drop-drop n start xs))
