-- The start of a message is searched line by line.
use Rattle.std.proofs.Common.{◌≡◌, ◌≢◌, ◌<◌, ◌≤◌, ℕ, Bool, true, false, List, [], ◌∷◌, length, Option, Some, None, refl, sym, ap, ◌∙◌, subst, arith}
use Rattle.std.specs.Prelude.{IfSome, is_some, nat_lt}
use Rattle.std.specs.Io.BufRead.{drop_through}
use Rattle.stream_lines.specs.Cut.{cut_lines, first_line}
use Rattle.stream_lines.specs.Limits.{max_bytes}
use Rattle.stream_lines.specs.Reading.{Gives}
use Rattle.stream_lines.specs.declared.line.LineEnd.{LineEnd}
use Rattle.stream_lines.specs.declared.line.LineEnd.TheVariants as next
use Rattle.stream_lines.proofs.FirstLine.{cut_first}
use Rattle.stream_message.specs.Located.{from_mark}
use Rattle.stream_check.specs.Marks.{has_mark}

-- a message starts in the rest of the input if and only if one starts in all of it
abbrev pub Searches : (all left : Option (List ℕ)) → Type 0
Searches all left = IfSome all (λ bytes. (rest : List ℕ) × (left ≡ Some rest) × (has_mark (cut_lines rest) ≡ has_mark (cut_lines bytes)))

pub searches_all : (all : Option (List ℕ)) → Searches all all
searches_all None = tt
searches_all (Some bytes) = (bytes, refl, refl)

given : (left rest : Option (List ℕ)) (which : LineEnd) (line xs : List ℕ) → left ≡ Some xs → IfSome left (Gives which line rest) → Gives which line rest xs
given left rest which line xs is gives = subst (λ (o : Option (List ℕ)). IfSome o (Gives which line rest)) is gives

within : (a b : ℕ) → b ≤ a → nat_lt a b ≡ false
within a b few = grind (arith, few)

beyond : (a b : ℕ) → a < b → nat_lt a b ≡ true
beyond a b many = grind (arith, many)

no_mark : (line : List ℕ) (lines : List (List ℕ)) → length line ≤ max_bytes → is_some (from_mark line) ≡ false → has_mark (line ∷ lines) ≡ has_mark lines
no_mark line lines few none = rw (within max_bytes (length line) few, none) refl

some_mark : (line : List ℕ) (lines : List (List ℕ)) → length line ≤ max_bytes → is_some (from_mark line) ≡ true → has_mark (line ∷ lines) ≡ true
some_mark line lines few some = rw (within max_bytes (length line) few, some) refl

long_mark : (line : List ℕ) (lines : List (List ℕ)) → max_bytes < length line → has_mark (line ∷ lines) ≡ false
long_mark line lines many = rw (beyond max_bytes (length line) many) refl

-- the lines of what is left, of which the first was read
lines_of : (xs line : List ℕ) → xs ≢ [] → line ≡ first_line xs → has_mark (cut_lines xs) ≡ has_mark (line ∷ cut_lines (drop_through 10 xs))
lines_of [] line some is = absurd (some refl)
lines_of (x ∷ xs) line some is = ap has_mark (cut_first x xs) ∙ sym (ap (λ (l : List ℕ). has_mark (l ∷ cut_lines (drop_through 10 (x ∷ xs)))) is)

pub searches_on : (all left rest : Option (List ℕ)) (line : List ℕ) (feed : Bool) → Searches all left → IfSome left (Gives (next.Line feed) line rest) → is_some (from_mark line) ≡ false → Searches all rest
searches_on None left rest line feed h gives none = tt
searches_on (Some bytes) left rest line feed h gives none =
    let k = given left rest (next.Line feed) line h.0 h.1 gives in
    (drop_through 10 h.0, k.2, sym (no_mark line (cut_lines (drop_through 10 h.0)) k.4 none) ∙ sym (lines_of h.0 line k.0 k.1) ∙ h.2)

pub searches_found : (all left rest : Option (List ℕ)) (line : List ℕ) (feed : Bool) → Searches all left → IfSome left (Gives (next.Line feed) line rest) → is_some (from_mark line) ≡ true → IfSome all (λ bytes. true ≡ has_mark (cut_lines bytes))
searches_found None left rest line feed h gives some = tt
searches_found (Some bytes) left rest line feed h gives some =
    let k = given left rest (next.Line feed) line h.0 h.1 gives in
    sym (some_mark line (cut_lines (drop_through 10 h.0)) k.4 some) ∙ sym (lines_of h.0 line k.0 k.1) ∙ h.2

pub searches_out : (all left rest : Option (List ℕ)) (line : List ℕ) → Searches all left → IfSome left (Gives next.End line rest) → IfSome all (λ bytes. false ≡ has_mark (cut_lines bytes))
searches_out None left rest line h gives = tt
searches_out (Some bytes) left rest line h gives =
    let none = (given left rest next.End line h.0 h.1 gives).0 in
    ap (λ (xs : List ℕ). has_mark (cut_lines xs)) (sym none) ∙ h.2

pub searches_too_long : (all left rest : Option (List ℕ)) (line : List ℕ) → Searches all left → IfSome left (Gives next.TooLong line rest) → IfSome all (λ bytes. false ≡ has_mark (cut_lines bytes))
searches_too_long None left rest line h gives = tt
searches_too_long (Some bytes) left rest line h gives =
    let k = given left rest next.TooLong line h.0 h.1 gives in
    sym (long_mark (first_line h.0) (cut_lines (drop_through 10 h.0)) k.1) ∙ sym (lines_of h.0 (first_line h.0) k.0 refl) ∙ h.2
