-- What is written of a line, and line by line of a stream.
use Rattle.std.proofs.Common.{◌≡◌, ◌≢◌, ◌+◌, ◌-◌, ◌^◌, ◌<◌, ◌++◌, ℕ, suc, List, [], ◌∷◌, length, take, take-add, drop, take-append-drop, append_assoc, append-nil, Bool, true, false, eqb, Option, Some, None, Ok, Err, refl, sym, ap, ap₂, ◌∙◌, ⊎_elim, subst, arith}
use Rattle.std.specs.Prelude.{IfSome, OnSome}
use Rattle.std.specs.Io.BufRead.{drop_through}
use Rattle.std.specs.Io.KnownBytes.{Appends, IsAtEnd, Keeps}
use Rattle.std.proofs.KnownBytes.{Appends-kept, Appends-nil, Appends-trans}
use Rattle.std.proofs.lemmas.Bool.{cases_Bool}
use Rattle.std.proofs.lemmas.List.{take_rest}
use Rattle.std.proofs.lemmas.Map.Views.{exact_unsigned_eq}
use Rattle.stream_lines.specs.Cut.{after_lines, first_line, has_feed}
use Rattle.stream_lines.proofs.FirstLine.{cut_first}
use Rattle.stream_lines.specs.Limits.{max_bytes}
use Rattle.stream_lines.specs.Reading.{Gives}
use Rattle.stream_lines.specs.declared.line.LineEnd.TheVariants as next
use Rattle.stream_play.specs.Played.{FrontWritten, IsLineWritten, IsPlayed, IsReadFault, LinesWritten, found_lines, output_of, written_of}
use Rattle.stream_play.specs.declared.play_fault.PlayFault.{PlayFault}
use Rattle.stream_play.specs.declared.play_fault.PlayFault.TheVariants as play

-- ---- one write more

pub written_more : (a b c : Option (List ℕ)) (bytes : List ℕ) (i n : ℕ) → Appends a b (take i bytes) → Appends b c (take n (take (length bytes - i) (drop i bytes))) → Appends a c (take (i + n) bytes)
written_more a b c bytes i n before more =
    subst (Appends a c) (sym (take-add i n bytes))
    (Appends-trans a b c (take i bytes) (take n (drop i bytes)) before (subst (λ (xs : List ℕ). Appends b c (take n xs)) (take_rest bytes i) more))

-- ---- line by line

-- that many lines were written, and the reader has the bytes after them
pub record HavePlayed (find : Bool) (bytes : List ℕ) (left : Option (List ℕ)) (count : ℕ) (before after : Option (List ℕ)) : Type 0 where
  pub lines : LinesWritten find bytes count before after
  pub place : left ≡ Some (after_lines count bytes)
  pub last : 0 < count → after_lines (count - 1) bytes ≢ []

abbrev pub Played : (find : Bool) → (all left : Option (List ℕ)) → (count : ℕ) → (before after : Option (List ℕ)) → Type 0
Played find all left count before after = IfSome all (λ bytes. HavePlayed find bytes left count before after)

pub starts : (find : Bool) (all a : Option (List ℕ)) → Played find all all 0 a a
starts find None a = tt
starts find (Some bytes) a = record { lines = record { lines = []; cut = refl; written = Appends-nil a }; place = refl; last = λ none. absurd (omega (arith, none)) }

-- ---- one line more

-- bytes are their first line and the bytes after it
first_and_rest : (xs : List ℕ) → xs ≡ written_of false (first_line xs) (has_feed xs) ++ drop_through 10 xs
first_and_rest [] = refl
first_and_rest (x ∷ xs) =
    ⊎_elim (λ (yes : eqb x 10 ≡ true). rw yes (ap (λ (n : ℕ). n ∷ xs) (exact_unsigned_eq x 10 yes)))
    (λ (no : eqb x 10 ≡ false). rw no (ap (λ (l : List ℕ). x ∷ l) (first_and_rest xs)))
    (cases_Bool (eqb x 10))

-- the output is that of the first line and that of the bytes after it
output_and_rest : (find : Bool) (xs : List ℕ) → output_of find xs ≡ written_of find (first_line xs) (has_feed xs) ++ output_of find (drop_through 10 xs)
output_and_rest false xs = first_and_rest xs
output_and_rest true [] = refl
output_and_rest true (x ∷ xs) = ap found_lines (cut_first x xs)

output_of_nothing : (find : Bool) → output_of find [] ≡ []
output_of_nothing true = refl
output_of_nothing false = refl

-- the bytes after that many lines
placed : (bytes : List ℕ) (left rest : Option (List ℕ)) (n : ℕ) (P : List ℕ → Type 0) → left ≡ Some (after_lines n bytes) → IfSome left P → P (after_lines n bytes)
placed bytes left rest n P place holds = subst (λ (o : Option (List ℕ)). IfSome o P) place holds

lines_more : (find : Bool) (bytes line : List ℕ) (feed : Bool) (n : ℕ) (before mid after : Option (List ℕ)) → line ≡ first_line (after_lines n bytes) → feed ≡ has_feed (after_lines n bytes)
    → LinesWritten find bytes n before mid → Appends mid after (written_of find line feed) → LinesWritten find bytes (n + 1) before after
lines_more find bytes line feed n before mid after is feeds h more =
    let behind : List ℕ = after_lines n bytes in
    let whole : written_of find line feed ≡ written_of find (first_line behind) (has_feed behind) = ap₂ (written_of find) is feeds in
    let next : drop_through 10 behind ≡ after_lines (n + 1) bytes = ap (λ (m : ℕ). after_lines m bytes) (let e : suc n ≡ n + 1 = omega arith in e) in
    record {
      lines = h.lines ++ written_of find line feed;
      cut = h.cut
          ∙ ap (λ (l : List ℕ). h.lines ++ l) (output_and_rest find behind ∙ ap₂ (λ (l r : List ℕ). l ++ output_of find r) (sym whole) next)
          ∙ sym (append_assoc h.lines (written_of find line feed) (output_of find (after_lines (n + 1) bytes)));
      written = Appends-trans before mid after h.lines (written_of find line feed) h.written more;
    }

pub one_more : (find : Bool) (all left rest : Option (List ℕ)) (n : ℕ) (before mid after : Option (List ℕ)) (line : List ℕ) (feed : Bool)
    → Played find all left n before mid → IfSome left (Gives (next.Line feed) line rest) → Appends mid after (written_of find line feed) → Played find all rest (n + 1) before after
one_more find None left rest n before mid after line feed h gives more = tt
one_more find (Some bytes) left rest n before mid after line feed h gives more =
    let k = placed bytes left rest n (Gives (next.Line feed) line rest) h.place gives in
    let next : drop_through 10 (after_lines n bytes) ≡ after_lines (n + 1) bytes = ap (λ (m : ℕ). after_lines m bytes) (let e : suc n ≡ n + 1 = omega arith in e) in
    let number : n ≡ n + 1 - 1 = omega arith in
    record {
      lines = lines_more find bytes line feed n before mid after k.1 k.3 h.lines more;
      place = k.2 ∙ ap Some next;
      last = λ some. subst (λ (m : ℕ). after_lines m bytes ≢ []) number k.0;
    }

-- ---- what is the same with a flush

pub lines_kept : (find : Bool) (bytes : List ℕ) (n : ℕ) (a b c : Option (List ℕ)) → LinesWritten find bytes n a b → Keeps b c → LinesWritten find bytes n a c
lines_kept find bytes n a b c h keeps = record { lines = h.lines; cut = h.cut; written = Appends-kept a b c h.lines h.written keeps }

pub kept : (find : Bool) (all left : Option (List ℕ)) (n : ℕ) (a b c : Option (List ℕ)) → Played find all left n a b → Keeps b c → Played find all left n a c
kept find None left n a b c h keeps = tt
kept find (Some bytes) left n a b c h keeps = record { lines = lines_kept find bytes n a b c h.lines keeps; place = h.place; last = h.last }

-- ---- how it ends

pub ends : (find : Bool) (all left rest : Option (List ℕ)) (n : ℕ) (a b : Option (List ℕ)) (line : List ℕ) → Played find all left n a b → IfSome left (Gives next.End line rest) → IfSome all (λ bytes. IsPlayed find bytes a b (Ok tt))
ends find None left rest n a b line h gives = tt
ends find (Some bytes) left rest n a b line h gives =
    let k = placed bytes left rest n (Gives next.End line rest) h.place gives in
    let none : output_of find (after_lines n bytes) ≡ [] = ap (output_of find) k.0 ∙ output_of_nothing find in
    let all_lines : h.lines.lines ≡ output_of find bytes = sym (append-nil h.lines.lines) ∙ ap (λ (l : List ℕ). h.lines.lines ++ l) (sym none) ∙ sym h.lines.cut in
    subst (Appends a b) all_lines h.lines.written

pub ends_there : (find : Bool) (all left rest : Option (List ℕ)) (n : ℕ) (a b : Option (List ℕ)) (line : List ℕ) → Played find all left n a b → IfSome left (Gives next.End line rest) → OnSome all (IsAtEnd rest)
ends_there find None left rest n a b line h gives = tt
ends_there find (Some bytes) left rest n a b line h gives = (placed bytes left rest n (Gives next.End line rest) h.place gives).1

pub too_long : (find : Bool) (all left rest : Option (List ℕ)) (n : ℕ) (a b : Option (List ℕ)) (line : List ℕ) → Played find all left n a b → IfSome left (Gives next.TooLong line rest) → IfSome all (λ bytes. IsPlayed find bytes a b (Err (play.TooLong (n + 1))))
too_long find None left rest n a b line h gives = tt
too_long find (Some bytes) left rest n a b line h gives =
    let k = placed bytes left rest n (Gives next.TooLong line rest) h.place gives in
    let number : n ≡ n + 1 - 1 = omega arith in (
      subst (λ (m : ℕ). LinesWritten find bytes m a b) number h.lines,
      subst (λ (m : ℕ). max_bytes < length (first_line (after_lines m bytes))) number k.1,
    )

pub too_many : (find : Bool) (all left : Option (List ℕ)) (n : ℕ) (a b : Option (List ℕ)) → n ≡ 2 ^ 64 - 1 → Played find all left n a b → IfSome all (λ bytes. IsPlayed find bytes a b (Err play.TooMany))
too_many find None left n a b most h = tt
too_many find (Some bytes) left n a b most h =
    let some : 0 < n = omega (arith, most) in
    record { count = n; most = most; last = h.last some; written = h.lines }

-- where nothing of the next line was written
pub unread : (find : Bool) (fault : PlayFault) (all left : Option (List ℕ)) (n : ℕ) (a b c : Option (List ℕ)) → Played find all left n a b → Keeps b c → IsReadFault fault → IfSome all (λ bytes. IsPlayed find bytes a c (Err fault))
unread find fault None left n a b c h keeps is = tt
unread find (play.TooLong number) (Some bytes) left n a b c h keeps is = absurd is
unread find play.TooMany (Some bytes) left n a b c h keeps is = absurd is
unread find (play.NoRun missing) (Some bytes) left n a b c h keeps is = absurd is
unread find (play.Unread failed) (Some bytes) left n a b c h keeps is = (n, lines_kept find bytes n a b c h.lines keeps)
unread find play.Memory (Some bytes) left n a b c h keeps is = (n, lines_kept find bytes n a b c h.lines keeps)
unread find play.Gone (Some bytes) left n a b c h keeps is =
    record { front = h.lines.lines; rest = output_of find (after_lines n bytes); cut = h.lines.cut; written = Appends-kept a b c h.lines.lines h.lines.written keeps }
unread find play.Unwritten (Some bytes) left n a b c h keeps is =
    record { front = h.lines.lines; rest = output_of find (after_lines n bytes); cut = h.lines.cut; written = Appends-kept a b c h.lines.lines h.lines.written keeps }

-- where a part of it was
part_of_line : (find : Bool) (bytes whole : List ℕ) (n k : ℕ) (a b c : Option (List ℕ)) → output_of find (after_lines n bytes) ≡ whole ++ output_of find (drop_through 10 (after_lines n bytes)) → LinesWritten find bytes n a b → Appends b c (take k whole) → FrontWritten find bytes a c
part_of_line find bytes whole n k a b c is h part =
    let rest : List ℕ = output_of find (drop_through 10 (after_lines n bytes)) in
    record {
      front = h.lines ++ take k whole;
      rest = drop k whole ++ rest;
      cut = h.cut
          ∙ ap (λ (l : List ℕ). h.lines ++ l) (is ∙ ap (λ (l : List ℕ). l ++ rest) (sym (take-append-drop k whole)) ∙ append_assoc (take k whole) (drop k whole) rest)
          ∙ sym (append_assoc h.lines (take k whole) (drop k whole ++ rest));
      written = Appends-trans a b c h.lines (take k whole) h.written part;
    }

line_fault : (find : Bool) (fault : PlayFault) (bytes whole : List ℕ) (n : ℕ) (a b c : Option (List ℕ)) → output_of find (after_lines n bytes) ≡ whole ++ output_of find (drop_through 10 (after_lines n bytes)) → LinesWritten find bytes n a b → IsLineWritten whole b c (Err fault) → IsPlayed find bytes a c (Err fault)
line_fault find (play.TooLong number) bytes whole n a b c is h played = absurd played
line_fault find play.TooMany bytes whole n a b c is h played = absurd played
line_fault find (play.NoRun missing) bytes whole n a b c is h played = absurd played
line_fault find (play.Unread failed) bytes whole n a b c is h played = absurd played
line_fault find play.Memory bytes whole n a b c is h played = (n, lines_kept find bytes n a b c h played)
line_fault find play.Gone bytes whole n a b c is h played = part_of_line find bytes whole n played.0 a b c is h played.1
line_fault find play.Unwritten bytes whole n a b c is h played = part_of_line find bytes whole n played.0 a b c is h played.1

pub line_failed : (find : Bool) (fault : PlayFault) (all left rest : Option (List ℕ)) (n : ℕ) (a b c : Option (List ℕ)) (line : List ℕ) (feed : Bool)
    → Played find all left n a b → IfSome left (Gives (next.Line feed) line rest) → IsLineWritten (written_of find line feed) b c (Err fault) → IfSome all (λ bytes. IsPlayed find bytes a c (Err fault))
line_failed find fault None left rest n a b c line feed h gives played = tt
line_failed find fault (Some bytes) left rest n a b c line feed h gives played =
    let k = placed bytes left rest n (Gives (next.Line feed) line rest) h.place gives in
    let behind : List ℕ = after_lines n bytes in
    let whole : written_of find (first_line behind) (has_feed behind) ≡ written_of find line feed = ap₂ (written_of find) (sym k.1) (sym k.3) in
    line_fault find fault bytes (written_of find line feed) n a b c (output_and_rest find behind ∙ ap (λ (l : List ℕ). l ++ output_of find (drop_through 10 behind)) whole) h.lines played
