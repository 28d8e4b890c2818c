-- The rows of a panel, and how many lines it has.
use Rattle.std.proofs.Common.{⊎_elim, false, true, ltb, ◌≡◌, ◌∙◌, ◌+◌, ◌-◌, ◌≤◌, ◌∷◌, ℕ, List, ap, arith, length, map, min, sym, take}
use Rattle.std.specs.List.{take-map}
use Rattle.std.proofs.lemmas.Simd.{map-map}
use Rattle.std.proofs.lemmas.List.{length-append, length-map, length-take-le}
use Rattle.std.proofs.lemmas.Bool.{cases_Bool, ltb-false, ltb-true}
use Rattle.std.proofs.lemmas.Bool.Decides.{nat_tests}
use Rattle.stream_watch.specs.State.{State}
use Rattle.stream_panel.specs.Panel.{panel_lines, row_lines, shown_rows}
use Rattle.stream_panel.specs.Rows.{more_lines, row_line}
use Rattle.stream_panel.specs.Sizes.{most_lines}
use Rattle.stream_panel.specs.Status.{status_line}
use Rattle.stream_panel.specs.declared.size.Size.{Size}
use Rattle.stream_panel.specs.declared.view.View.{View}

pub rows_map : {A B L : Type 0} (row : B → L) (view : A → B) (n : ℕ) (xs : List A) (ys : List B) → map view xs ≡ ys
    → map (λ x. row (view x)) (take n xs) ≡ map row (take n ys)
rows_map row view n xs ys same =
    sym (map-map row view (take n xs))
    ∙ ap (map row) (sym (take-map view n xs) ∙ ap (take n) same)

more_count : (view : View) (n : ℕ) → length (more_lines view n) ≡ min n 1
more_count view n =
    ⊎_elim
    (λ (some : ltb 0 n ≡ true). let least = ltb-true 0 n some in rw some (omega (arith, least)))
    (λ (none : ltb 0 n ≡ false). let most = ltb-false 0 n none in rw none (omega (arith, most)))
    (cases_Bool (ltb 0 n))

shown_within : (size : Size) (n : ℕ) → shown_rows size n ≤ n
shown_within size n = grind (arith, nat_tests)

pub lines_count : (view : View) (state : State) → length (panel_lines view state)
    ≡ 1 + shown_rows view.size (length state.steps) + min (length state.steps - shown_rows view.size (length state.steps)) 1
unfolding panel_lines
lines_count view state =
    let n = length state.steps in
    let shown = shown_rows view.size n in
    let rows = row_lines view state in
    let within = shown_within view.size n in
    let count : length rows ≡ shown = length-map (take shown state.steps) (row_line view state) ∙ length-take-le shown state.steps within in
    let more = more_count view (n - shown) in
    omega (arith, length-append (status_line view state ∷ rows) (more_lines view (n - shown)), count, more)

few_shown : (size : Size) (n : ℕ) → 1 + shown_rows size n + min (n - shown_rows size n) 1 ≤ most_lines size
few_shown size n = grind (arith, nat_tests)

pub few_lines : (view : View) (state : State) → length (panel_lines view state) ≤ most_lines view.size
few_lines view state = omega (arith, lines_count view state, few_shown view.size (length state.steps))

pub some_lines : (view : View) (state : State) → 1 ≤ length (panel_lines view state)
some_lines view state = omega (arith, lines_count view state)
