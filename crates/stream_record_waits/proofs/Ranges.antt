-- Lists that are made for one number after the other.
use Rattle.std.proofs.Common.{◌≡◌, ◌∙◌, ◌+◌, ℕ, List, [], ◌∷◌, ◌++◌, Global, Vec, sym, ap, arith}
use Rattle.std.specs.Prelude.{map}
use Rattle.std.specs.List.{range_with_len}
use Rattle.std.proofs.lemmas.List.{map_push}
use Rattle.std.proofs.lemmas.List.FromFn.{map-range_with_len_more}
use Rattle.stream_record_waits.specs.Steps.{lists_in}

-- one item more
pub pushed : {X : Type 0} (f : ℕ → X) (n : ℕ) (old new : List X) (x : X) → old ≡ map f (range_with_len 0 n) → x ≡ f n → new ≡ old ++ x ∷ [] → new ≡ map f (range_with_len 0 (n + 1))
pushed f n old new x was is grown =
    grown ∙ ap (λ list. list ++ x ∷ []) was ∙ ap (λ y. map f (range_with_len 0 n) ++ y ∷ []) is ∙ sym (map-range_with_len_more f 0 n n (omega arith))

-- one vector more
pub pushed_row : (f : ℕ → List ℕ) (n : ℕ) (old new : List (Vec ℕ Global)) (row : Vec ℕ Global) → lists_in old ≡ map f (range_with_len 0 n) → row.items ≡ f n → new ≡ old ++ row ∷ []
    → lists_in new ≡ map f (range_with_len 0 (n + 1))
pushed_row f n old new row was is grown =
    pushed f n (lists_in old) (lists_in new) row.items was is (ap lists_in grown ∙ map_push (λ (vector : Vec ℕ Global). vector.items) old row)
