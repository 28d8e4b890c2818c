-- Runs that are counted line by line.
use Rattle.std.proofs.Common.{◌≡◌, ◌≢◌, ◌+◌, ◌<◌, ◌≤◌, ℕ, Bool, true, false, cond, List, [], ◌∷◌, length, Option, Some, None, refl, sym, ap, ◌∙◌, subst, arith}
use Rattle.std.specs.Prelude.{IfSome, nat_lt}
use Rattle.std.specs.Io.BufRead.{drop_through}
use Rattle.stream_lines.specs.Cut.{cut_lines, first_line}
use Rattle.stream_lines.specs.Limits.{max_bytes}
use Rattle.stream_lines.specs.Reading.{Gives}
use Rattle.stream_lines.specs.declared.line.LineEnd.{LineEnd}
use Rattle.stream_lines.specs.declared.line.LineEnd.TheVariants as next
use Rattle.stream_lines.proofs.FirstLine.{cut_first}
use Rattle.stream_runs.specs.Counted.{runs_in}
use Rattle.stream_message.specs.Runs.{begins_run}

-- the runs so far, and those in the rest of the input, are all
abbrev pub Counts : Bool → (all left : Option (List ℕ)) → ℕ → Type 0
Counts find all left runs = IfSome all (λ bytes. (rest : List ℕ) × (left ≡ Some rest) × (runs + runs_in find (cut_lines rest) ≡ runs_in find (cut_lines bytes)))

pub counts_none : (find : Bool) (all : Option (List ℕ)) → Counts find all all 0
counts_none find None = tt
counts_none find (Some bytes) = (bytes, refl, omega arith)

given : (left rest : Option (List ℕ)) (which : LineEnd) (line xs : List ℕ) → left ≡ Some xs → IfSome left (Gives which line rest) → Gives which line rest xs
given left rest which line xs is gives = subst (λ (o : Option (List ℕ)). IfSome o (Gives which line rest)) is gives

-- the runs of a line that is not too long, and of the lines after it
one_line : (find : Bool) (line : List ℕ) (lines : List (List ℕ)) → length line ≤ max_bytes → runs_in find (line ∷ lines) ≡ cond (begins_run find line) (runs_in find lines + 1) (runs_in find lines)
one_line find line lines few = rw (not_less max_bytes (length line) few) refl
  where
    not_less : (a b : ℕ) → b ≤ a → nat_lt a b ≡ false
    not_less a b few = grind (arith, few)

one_more : (find begins : Bool) (n runs : ℕ) (line : List ℕ) (lines : List (List ℕ)) (total : ℕ) → length line ≤ max_bytes → begins ≡ begins_run find line → runs ≡ cond begins (n + 1) n
    → n + runs_in find (line ∷ lines) ≡ total → runs + runs_in find lines ≡ total
one_more find true n runs line lines total few begin more is =
    let e = one_line find line lines few ∙ ap (λ b. cond b (runs_in find lines + 1) (runs_in find lines)) (sym begin) in omega (arith, e, more, is)
one_more find false n runs line lines total few begin more is =
    let e = one_line find line lines few ∙ ap (λ b. cond b (runs_in find lines + 1) (runs_in find lines)) (sym begin) in omega (arith, e, more, is)

counted : (find begins : Bool) (bytes xs line : List ℕ) (n runs : ℕ) → xs ≢ [] → line ≡ first_line xs → length line ≤ max_bytes → begins ≡ begins_run find line → runs ≡ cond begins (n + 1) n
    → n + runs_in find (cut_lines xs) ≡ runs_in find (cut_lines bytes) → runs + runs_in find (cut_lines (drop_through 10 xs)) ≡ runs_in find (cut_lines bytes)
counted find begins bytes [] line n runs some is few begin more h = absurd (some refl)
counted find begins bytes (x ∷ xs) line n runs some is few begin more h =
    one_more find begins n runs line (cut_lines (drop_through 10 (x ∷ xs))) (runs_in find (cut_lines bytes)) few begin more
    (ap (λ (l : List ℕ). n + runs_in find (l ∷ cut_lines (drop_through 10 (x ∷ xs)))) is ∙ sym (ap (λ (ls : List (List ℕ)). n + runs_in find ls) (cut_first x xs)) ∙ h)

pub counts_on : (find begins : Bool) (all left rest : Option (List ℕ)) (line : List ℕ) (feed : Bool) (n runs : ℕ) → Counts find all left n → IfSome left (Gives (next.Line feed) line rest)
    → begins ≡ begins_run find line → runs ≡ cond begins (n + 1) n → Counts find all rest runs
counts_on find begins None left rest line feed n runs h gives begin more = tt
counts_on find begins (Some bytes) left rest line feed n runs h gives begin more =
    let k = given left rest (next.Line feed) line h.0 h.1 gives in
    (drop_through 10 h.0, k.2, counted find begins bytes h.0 line n runs k.0 k.1 k.4 begin more h.2)

pub counts_out : (find : Bool) (all left rest : Option (List ℕ)) (line : List ℕ) (runs : ℕ) → Counts find all left runs → IfSome left (Gives next.End line rest) → IfSome all (λ bytes. runs ≡ runs_in find (cut_lines bytes))
counts_out find None left rest line runs h gives = tt
counts_out find (Some bytes) left rest line runs h gives =
    let none = (given left rest next.End line h.0 h.1 gives).0 in
    let e = ap (λ (xs : List ℕ). runs + runs_in find (cut_lines xs)) (sym none) ∙ h.2 in omega (arith, e)

-- a line that is too long has no runs, and none come after it
ends_count : (find : Bool) (xs : List ℕ) → xs ≢ [] → max_bytes < length (first_line xs) → runs_in find (cut_lines xs) ≡ 0
ends_count find [] some long = absurd (some refl)
ends_count find (x ∷ xs) some long = ap (runs_in find) (cut_first x xs) ∙ rw (less max_bytes (length (first_line (x ∷ xs))) long) refl
  where
    less : (a b : ℕ) → a < b → nat_lt a b ≡ true
    less a b many = grind (arith, many)

pub counts_too_long : (find : Bool) (all left rest : Option (List ℕ)) (line : List ℕ) (runs : ℕ) → Counts find all left runs → IfSome left (Gives next.TooLong line rest) → IfSome all (λ bytes. runs ≡ runs_in find (cut_lines bytes))
counts_too_long find None left rest line runs h gives = tt
counts_too_long find (Some bytes) left rest line runs h gives =
    let k = given left rest next.TooLong line h.0 h.1 gives in
    omega (arith, ends_count find h.0 k.0 k.1, h.2)
