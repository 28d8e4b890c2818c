-- Messages that are kept line by line.
use Rattle.std.proofs.Common.{◌≡◌, ◌≢◌, ◌++◌, ◌<◌, ◌≤◌, ◌∙◌, ℕ, Bool, true, false, List, [], ◌∷◌, length, Option, Some, None, refl, sym, ap, ap₂, subst, arith, append_assoc, append-nil}
use Rattle.std.specs.Prelude.{nat_lt}
use Rattle.std.specs.Io.BufRead.{drop_through}
use Rattle.stream_lines.specs.Cut.{cut_lines, first_line}
use Rattle.stream_lines.specs.Limits.{max_bytes}
use Rattle.stream_lines.specs.Reading.{Gives}
use Rattle.stream_lines.specs.declared.line.LineEnd.TheVariants as next
use Rattle.stream_lines.proofs.FirstLine.{cut_first}
use Rattle.stream_message.specs.Located.{found_line}
use Rattle.stream_check.specs.Kept.{kept_lines}

-- the messages so far, and those in the rest of the bytes, are all
abbrev pub AreKept : (bytes rest messages : List ℕ) → Type 0
AreKept bytes rest messages = kept_lines (cut_lines bytes) ≡ messages ++ kept_lines (cut_lines rest)

-- a line that is not too long, and the lines after it
one_line : (line : List ℕ) (lines : List (List ℕ)) → length line ≤ max_bytes → kept_lines (line ∷ lines) ≡ found_line line ++ kept_lines lines
one_line line lines few = rw (not_less max_bytes (length line) few) refl
  where
    not_less : (a b : ℕ) → b ≤ a → nat_lt a b ≡ false
    not_less a b few = grind (arith, few)

-- a line that is too long, and what comes after it
no_line : (line : List ℕ) (lines : List (List ℕ)) → max_bytes < length line → kept_lines (line ∷ lines) ≡ []
no_line line lines many = rw (less max_bytes (length line) many) refl
  where
    less : (a b : ℕ) → a < b → nat_lt a b ≡ true
    less a b many = grind (arith, many)

-- the messages of the first line and of the others
first_kept : (xs : List ℕ) → xs ≢ [] → length (first_line xs) ≤ max_bytes → kept_lines (cut_lines xs) ≡ found_line (first_line xs) ++ kept_lines (cut_lines (drop_through 10 xs))
first_kept [] some few = absurd (some refl)
first_kept (x ∷ xs) some few = ap kept_lines (cut_first x xs) ∙ one_line (first_line (x ∷ xs)) (cut_lines (drop_through 10 (x ∷ xs))) few

none_kept : (xs : List ℕ) → xs ≢ [] → max_bytes < length (first_line xs) → kept_lines (cut_lines xs) ≡ []
none_kept [] some many = absurd (some refl)
none_kept (x ∷ xs) some many = ap kept_lines (cut_first x xs) ∙ no_line (first_line (x ∷ xs)) (cut_lines (drop_through 10 (x ∷ xs))) many

abbrev bytes_in : Option (List ℕ) → List ℕ
bytes_in None = []
bytes_in (Some xs) = xs

pub kept_on : (bytes xs rest line messages more : List ℕ) (feed : Bool) → AreKept bytes xs messages → Gives (next.Line feed) line (Some rest) xs → more ≡ messages ++ found_line line → AreKept bytes rest more
kept_on bytes xs rest line messages more feed h gives is =
    let few = subst (λ (l : List ℕ). length l ≤ max_bytes) gives.1 gives.4 in
    h ∙ ap (λ (l : List ℕ). messages ++ l) (first_kept xs gives.0 few)
    ∙ sym (append_assoc messages (found_line (first_line xs)) (kept_lines (cut_lines (drop_through 10 xs))))
    ∙ ap₂ (λ (m l : List ℕ). m ++ kept_lines (cut_lines l)) (ap (λ (l : List ℕ). messages ++ found_line l) (sym gives.1) ∙ sym is) (sym (ap bytes_in gives.2))

pub kept_out : (bytes xs line messages : List ℕ) (rest : Option (List ℕ)) → AreKept bytes xs messages → Gives next.End line rest xs → messages ≡ kept_lines (cut_lines bytes)
kept_out bytes xs line messages rest h gives =
    sym (h ∙ ap (λ (l : List ℕ). messages ++ kept_lines (cut_lines l)) gives.0 ∙ append-nil messages)

pub kept_too_long : (bytes xs line messages : List ℕ) (rest : Option (List ℕ)) → AreKept bytes xs messages → Gives next.TooLong line rest xs → messages ≡ kept_lines (cut_lines bytes)
kept_too_long bytes xs line messages rest h gives =
    sym (h ∙ ap (λ (l : List ℕ). messages ++ l) (none_kept xs gives.0 gives.1) ∙ append-nil messages)
