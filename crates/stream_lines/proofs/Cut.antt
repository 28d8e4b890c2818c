-- Cutting bytes into lines.
use Rattle.std.proofs.Common.{◌≡◌, ◌≢◌, ◌<◌, ◌≤◌, ◌++◌, ℕ, List, [], ◌∷◌, All, length, cond, true, false, Option, Some, None, refl, sym, ap, ◌∙◌, arith, subst, ne_eqb, append_assoc, append-nil, length-append}
use Rattle.std.specs.Prelude.{IfSome, OnSome}
use Rattle.std.specs.Io.BufRead.{drop_through}
use Rattle.std.specs.Io.KnownBytes.{Consumes, IsAtEnd}
use Rattle.std.proofs.BufReadLemmas.{drop_through-append}
use Rattle.std.proofs.KnownBytes.{Consumes-nil}
use Rattle.std.proofs.lemmas.List.Elements.{All-append, All-head, All-nil, All-tail}
use Rattle.stream_lines.specs.Cut.{first_line, has_feed}
use Rattle.stream_lines.specs.Limits.{max_bytes}
use Rattle.stream_lines.specs.Reading.{Gives, Supplies}
use Rattle.stream_lines.specs.declared.line.LineEnd.TheVariants as next
use Rattle.stream_lines.specs.declared.line_reader.Piece.{Piece}
use Rattle.stream_lines.specs.declared.line_reader.Piece.TheVariants as shown

-- ---- one line read in parts

-- bytes read one after another
consumes_on : (a b c : Option (List ℕ)) (xs ys : List ℕ) → Consumes a b xs → Consumes b c ys → Consumes a c (xs ++ ys)
consumes_on None b c xs ys h k = tt
consumes_on (Some all) None c xs ys h k = absurd h
consumes_on (Some all) (Some more) None xs ys h k = absurd k
consumes_on (Some all) (Some more) (Some left) xs ys h k = h ∙ ap (λ (zs : List ℕ). xs ++ zs) k ∙ sym (append_assoc xs ys left)

-- a front without a line feed is the front of the first line
first_line-append : (xs ys : List ℕ) → All (λ byte. byte ≢ 10) xs → first_line (xs ++ ys) ≡ xs ++ first_line ys
first_line-append [] ys h = refl
first_line-append (x ∷ xs) ys h =
    ap (λ b. cond b [] (x ∷ first_line (xs ++ ys))) (ne_eqb x 10 (All-head (λ y. y ≢ 10) x xs h))
    ∙ ap (λ (l : List ℕ). x ∷ l) (first_line-append xs ys (All-tail (λ y. y ≢ 10) x xs h))

-- the first line feed after such a front
feed-append : (xs ys : List ℕ) → All (λ byte. byte ≢ 10) xs → has_feed (xs ++ ys) ≡ has_feed ys
feed-append [] ys h = refl
feed-append (x ∷ xs) ys h =
    ap (λ b. cond b true (has_feed (xs ++ ys))) (ne_eqb x 10 (All-head (λ y. y ≢ 10) x xs h))
    ∙ feed-append xs ys (All-tail (λ y. y ≢ 10) x xs h)

not_nothing : (xs ys : List ℕ) → 0 < length xs → (xs ++ ys) ≢ []
not_nothing [] ys some = omega arith
not_nothing (x ∷ xs) ys some = λ e. cc

-- the parts of a line and its line feed
line_given : (old new : Option (List ℕ)) (line : List ℕ) → All (λ byte. byte ≢ 10) line → length line ≤ max_bytes → Consumes old new (line ++ 10 ∷ []) → IfSome old (Gives (next.Line true) line new)
line_given None new line free few h = tt
line_given (Some xs) None line free few h = absurd h
line_given (Some xs) (Some ys) line free few h =
    let is : xs ≡ line ++ 10 ∷ ys = h ∙ append_assoc line (10 ∷ []) ys in (
      λ e. not_nothing (line ++ 10 ∷ []) ys (omega (arith, length-append line (10 ∷ []))) (sym h ∙ e),
      sym (ap first_line is ∙ first_line-append line (10 ∷ ys) free ∙ append-nil line),
      ap Some (sym (ap (drop_through 10) is ∙ drop_through-append 10 line (10 ∷ ys) free)),
      sym (ap has_feed is ∙ feed-append line (10 ∷ ys) free),
      few,
    )

-- no byte is left
left_none : (a b c : Option (List ℕ)) (xs : List ℕ) → Consumes a b xs → OnSome b (IsAtEnd c) → OnSome a (IsAtEnd c)
left_none None b c xs h end = tt
left_none (Some all) None c xs h end = absurd h
left_none (Some all) (Some more) c xs h end = end

-- the parts of a last line without a line feed
rest_given : (old new : Option (List ℕ)) (line : List ℕ) → All (λ byte. byte ≢ 10) line → length line ≤ max_bytes → Consumes old new line → OnSome old (IsAtEnd new) → 0 < length line → IfSome old (Gives (next.Line false) line new)
rest_given None new line free few h end some = tt
rest_given (Some xs) None line free few h end some = absurd h
rest_given (Some xs) (Some ys) line free few h end some =
    let is : xs ≡ line ++ [] = h ∙ ap (λ (zs : List ℕ). line ++ zs) end in (
      λ e. not_nothing line ys some (sym h ∙ e),
      sym (ap first_line is ∙ first_line-append line [] free ∙ append-nil line),
      ap Some (end ∙ sym (ap (drop_through 10) is ∙ drop_through-append 10 line [] free)),
      sym (ap has_feed is ∙ feed-append line [] free),
      few,
    )

-- no part at all
end_given : (old new : Option (List ℕ)) (line : List ℕ) → Consumes old new line → OnSome old (IsAtEnd new) → length line ≡ 0 → IfSome old (Gives next.End line new)
end_given None new line h end none = tt
end_given (Some xs) None line h end none = absurd h
end_given (Some xs) (Some ys) [] h end none = (h ∙ end, end)
end_given (Some xs) (Some ys) (x ∷ line) h end none = absurd (omega arith)

-- more than a line may have, whatever follows
too_long_given : (old new : Option (List ℕ)) (line more : List ℕ) → All (λ byte. byte ≢ 10) line → Consumes old new (line ++ more) → max_bytes < length line → IfSome old (Gives next.TooLong line new)
too_long_given None new line more free h long = tt
too_long_given (Some xs) None line more free h long = absurd h
too_long_given (Some xs) (Some ys) line more free h long =
    let is : xs ≡ line ++ (more ++ ys) = h ∙ append_assoc line more ys in (
      λ e. not_nothing line (more ++ ys) (omega (arith, long)) (sym is ∙ e),
      let size = ap length (ap first_line is ∙ first_line-append line (more ++ ys) free) in let both = length-append line (first_line (more ++ ys)) in omega arith,
    )

-- ---- one part more

-- what was read so far, and a part of it more
pub record Parts (a b c : Option (List ℕ)) (old piece new : List ℕ) : Type 0 where
  pub no_feed : All (λ byte. byte ≢ 10) old
  pub taken : Consumes a b old
  pub grown : new ≡ old ++ piece
  pub more : All (λ byte. byte ≢ 10) piece

still_no_feed : (a b c : Option (List ℕ)) (old piece new : List ℕ) → Parts a b c old piece new → All (λ byte. byte ≢ 10) new
still_no_feed a b c old piece new p = subst (All (λ byte. byte ≢ 10)) (sym p.grown) (All-append (λ byte. byte ≢ 10) old piece p.no_feed p.more)

still_taken : (a b c : Option (List ℕ)) (old piece new : List ℕ) → Parts a b c old piece new → Consumes b c piece → Consumes a c new
still_taken a b c old piece new p k = subst (Consumes a c) (sym p.grown) (consumes_on a b c old piece p.taken k)

-- with the line feed after them
with_feed : (a b c : Option (List ℕ)) (old piece new : List ℕ) → Parts a b c old piece new → Consumes b c (piece ++ 10 ∷ []) → Consumes a c (new ++ 10 ∷ [])
with_feed a b c old piece new p k =
    let joined : old ++ (piece ++ 10 ∷ []) ≡ new ++ 10 ∷ [] = sym (append_assoc old piece (10 ∷ [])) ∙ ap (λ (l : List ℕ). l ++ 10 ∷ []) (sym p.grown) in
    subst (Consumes a c) joined (consumes_on a b c old (piece ++ 10 ∷ []) p.taken k)

-- before the first part
pub starts : (a : Option (List ℕ)) (new : List ℕ) → new ≡ [] → All (λ byte. byte ≢ 10) new × Consumes a a new
starts a new none = subst (λ (l : List ℕ). All (λ byte. byte ≢ 10) l × Consumes a a l) (sym none) (All-nil (λ byte. byte ≢ 10), Consumes-nil a)

pub goes_further : (a b c : Option (List ℕ)) (old piece new : List ℕ) → Parts a b c old piece new → Consumes b c piece → All (λ byte. byte ≢ 10) new × Consumes a c new
goes_further a b c old piece new p k = (still_no_feed a b c old piece new p, still_taken a b c old piece new p k)

pub ends_line : (a b c : Option (List ℕ)) (old piece new : List ℕ) → Parts a b c old piece new → length new ≤ max_bytes → Consumes b c (piece ++ 10 ∷ []) → IfSome a (Gives (next.Line true) new c)
ends_line a b c old piece new p few k = line_given a c new (still_no_feed a b c old piece new p) few (with_feed a b c old piece new p k)

pub ends_last_line : (a b c : Option (List ℕ)) (old piece new : List ℕ) → Parts a b c old piece new → length new ≤ max_bytes → Consumes b c piece → OnSome b (IsAtEnd c) → 0 < length new → IfSome a (Gives (next.Line false) new c)
ends_last_line a b c old piece new p few k end some = rest_given a c new (still_no_feed a b c old piece new p) few (still_taken a b c old piece new p k) (left_none a b c old p.taken end) some

pub ends_stream : (a b c : Option (List ℕ)) (old piece new : List ℕ) → Parts a b c old piece new → Consumes b c piece → OnSome b (IsAtEnd c) → length new ≡ 0 → IfSome a (Gives next.End new c)
ends_stream a b c old piece new p k end none = end_given a c new (still_taken a b c old piece new p k) (left_none a b c old p.taken end) none

-- more than a line may have, where no line feed was shown
part_too_long : (a b c : Option (List ℕ)) (old piece new : List ℕ) → Parts a b c old piece new → Consumes b c piece → max_bytes < length new → IfSome a (Gives next.TooLong new c)
part_too_long a b c old piece new p k long = too_long_given a c new [] (still_no_feed a b c old piece new p) (subst (Consumes a c) (sym (append-nil new)) (still_taken a b c old piece new p k)) long

-- whatever was shown
pub gets_too_long : (which : Piece) (a b c : Option (List ℕ)) (old piece new : List ℕ) → Parts a b c old piece new → Supplies which piece b c → max_bytes < length new → IfSome a (Gives next.TooLong new c)
gets_too_long shown.Part a b c old piece new p k long = part_too_long a b c old piece new p k long
gets_too_long shown.Line a b c old piece new p k long = too_long_given a c new (10 ∷ []) (still_no_feed a b c old piece new p) (with_feed a b c old piece new p k) long
gets_too_long shown.End a b c old piece new p k long = part_too_long a b c old piece new p k.0 long
