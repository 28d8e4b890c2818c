-- The runs of a stream, by its time line.
use Rattle.std.proofs.Common.{◌≡◌, ◌≤◌, ◌+◌, ◌∙◌, ℕ, Bool, true, false, cond, List, [], ◌∷◌, length, Option, Some, None, Ok, refl, ap, sym, arith}
use Rattle.std.specs.Prelude.{IfSome, count_by, nat_lt}
use Rattle.std.specs.List.{AllByRecursion}
use Rattle.std.proofs.lemmas.List.Sums.{sum_by-cons}
use Rattle.std.proofs.lemmas.List.Elements.{recursion_from_All}
use Rattle.stream_lines.specs.Cut.{cut_lines}
use Rattle.stream_lines.specs.Limits.{max_bytes}
use Rattle.stream_message.specs.Runs.{begins_run}
use Rattle.stream_runs.specs.Counted.{runs_in}
use Rattle.stream_timeline.specs.Lines.{IsReadOf}
use Rattle.stream_timeline.specs.TimelineRead.{TimelineRead}

not_long : (most n : ℕ) → n ≤ most → nat_lt most n ≡ false
not_long most n few = grind (arith, few)

one_more : (begins : Bool) (n : ℕ) → cond begins (n + 1) n ≡ cond begins 1 0 + n
one_more true n = omega arith
one_more false n = omega arith

-- where no line is too long, the count goes on to the last one
all_counted : (find : Bool) (lines : List (List ℕ)) → AllByRecursion (λ (line : List ℕ). length line ≤ max_bytes) lines → runs_in find lines ≡ count_by (begins_run find) lines
all_counted find [] short = refl
all_counted find (line ∷ lines) short =
    rw (not_long max_bytes (length line) short.0)
    (one_more (begins_run find line) (runs_in find lines)
    ∙ (ap (λ (n : ℕ). cond (begins_run find line) 1 0 + n) (all_counted find lines short.1)
    ∙ sym (sum_by-cons (λ (line : List ℕ). cond (begins_run find line) 1 0) line lines)))

-- the runs of a time line are those of the bytes
pub runs_counted : (find : Bool) (given : Option (List ℕ)) (timeline : TimelineRead) → IfSome given (λ bytes. IsReadOf find bytes (Ok timeline))
    → IfSome given (λ bytes. timeline.runs ≡ runs_in find (cut_lines bytes))
runs_counted find None timeline is = tt
runs_counted find (Some bytes) timeline is =
    is.runs ∙ sym (all_counted find (cut_lines bytes) (recursion_from_All (λ (line : List ℕ). length line ≤ max_bytes) (cut_lines bytes) is.lengths))
