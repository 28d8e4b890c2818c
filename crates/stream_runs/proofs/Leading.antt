-- A run that is selected line by line.
use Rattle.std.proofs.Common.{◌≡◌, ◌≢◌, ◌+◌, ◌-◌, ◌<◌, ◌≤◌, ℕ, suc, Bool, true, false, cond, eqb, List, [], ◌∷◌, ◌++◌, length, Option, Some, None, Ok, Err, refl, sym, ap, ◌∙◌, subst, ⊎_elim, arith}
use Rattle.std.specs.Prelude.{IfSome, OnSome, Result}
use Rattle.std.specs.Io.BufRead.{drop_through}
use Rattle.std.specs.Io.KnownBytes.{IsAtEnd}
use Rattle.std.proofs.lemmas.Bool.{cases_Bool}
use Rattle.stream_lines.specs.Cut.{after_lines, cut_lines, first_line, has_feed, line_at, onto_first}
use Rattle.stream_lines.specs.Limits.{max_bytes}
use Rattle.stream_lines.specs.Reading.{Gives}
use Rattle.stream_lines.specs.declared.line.LineEnd.{LineEnd}
use Rattle.stream_lines.specs.declared.line.LineEnd.TheVariants as next
use Rattle.stream_lines.proofs.FirstLine.{cut_first}
use Rattle.stream_runs.specs.Collected.{Lines, collected_after, cut_pieces, no_lines, piece_of, place_of, run_of, with_begun, with_line, with_place}
use Rattle.stream_message.specs.Runs.{begins_run}
use Rattle.stream_runs.specs.Selected.{HasEnded, IsNoRun, IsRunOf, IsSelected}
use Rattle.stream_runs.specs.declared.choice.RunChoice.{RunChoice}
use Rattle.stream_runs.specs.declared.collecting.Place.{Place}
use Rattle.stream_runs.specs.declared.collecting.Place.TheVariants as place
use Rattle.stream_runs.specs.declared.fault.RunFault.{RunFault}
use Rattle.stream_runs.specs.declared.fault.RunFault.TheVariants as fault
use Rattle.stream_runs.specs.declared.selecting.Run.{Run}

-- ---- the first piece

cut_first_piece : (x : ℕ) (xs : List ℕ) → cut_pieces (x ∷ xs) ≡ piece_of (first_line (x ∷ xs)) (has_feed (x ∷ xs)) ∷ cut_pieces (drop_through 10 (x ∷ xs))
cut_first_piece x [] = ⊎_elim (λ (yes : eqb x 10 ≡ true). rw yes refl) (λ (no : eqb x 10 ≡ false). rw no refl) (cases_Bool (eqb x 10))
cut_first_piece x (y ∷ ys) =
    ⊎_elim (λ (yes : eqb x 10 ≡ true). rw yes refl)
    (λ (no : eqb x 10 ≡ false).
    let put = ap (onto_first x) (cut_first_piece y ys) in
    rw no put)
    (cases_Bool (eqb x 10))

-- its line
line_of_piece : (xs : List ℕ) → first_line (piece_of (first_line xs) (has_feed xs)) ≡ first_line xs
line_of_piece [] = refl
line_of_piece (x ∷ xs) =
    ⊎_elim (λ (yes : eqb x 10 ≡ true). rw yes refl)
    (λ (no : eqb x 10 ≡ false). rw no (rw no (ap (λ (l : List ℕ). x ∷ l) (line_of_piece xs))))
    (cases_Bool (eqb x 10))

-- ---- one line more

placed_lines : (p : Place) (piece : List ℕ) (s : Lines) → (with_place p piece s).lines ≡ s.lines + 1
placed_lines place.Before piece s = refl
placed_lines place.Inside piece s = refl
placed_lines place.Anew piece s = refl
placed_lines place.After piece s = refl

begun_lines : (begins : Bool) (s : Lines) → (with_begun begins s).lines ≡ s.lines
begun_lines true s = refl
begun_lines false s = refl

one_line : (choice : RunChoice) (begins : Bool) (piece : List ℕ) (s : Lines) → (with_line choice begins piece s).lines ≡ s.lines + 1
one_line choice begins piece s =
    placed_lines (place_of choice begins (with_begun begins s).begun) piece (with_begun begins s) ∙ ap (λ (n : ℕ). n + 1) (begun_lines begins s)

placed_begun : (p : Place) (piece : List ℕ) (s : Lines) → (with_place p piece s).begun ≡ s.begun
placed_begun place.Before piece s = refl
placed_begun place.Inside piece s = refl
placed_begun place.Anew piece s = refl
placed_begun place.After piece s = refl

begun_more : (begins : Bool) (s : Lines) → (with_begun begins s).begun ≤ s.begun + 1
begun_more true s = omega arith
begun_more false s = omega arith

one_run : (choice : RunChoice) (begins : Bool) (piece : List ℕ) (s : Lines) → (with_line choice begins piece s).begun ≤ s.begun + 1
one_run choice begins piece s =
    let same = placed_begun (place_of choice begins (with_begun begins s).begun) piece (with_begun begins s) in
    omega (arith, begun_more begins s, same)

pub lines_more : (choice : RunChoice) (begins : Bool) (piece : List ℕ) (s new : Lines) (n : ℕ) → new ≡ with_line choice begins piece s → s.lines ≡ n → new.lines ≡ n + 1
lines_more choice begins piece s new n more is = ap (λ (t : Lines). t.lines) more ∙ one_line choice begins piece s ∙ ap (λ (m : ℕ). m + 1) is

pub runs_within : (choice : RunChoice) (begins : Bool) (piece : List ℕ) (s new : Lines) → new ≡ with_line choice begins piece s → s.begun ≤ s.lines → new.begun ≤ new.lines
runs_within choice begins piece s new more few =
    subst (λ (t : Lines). t.begun ≤ t.lines) (sym more)
    (omega (arith, few, one_line choice begins piece s, one_run choice begins piece s))

-- ---- the rest of the input leads to the whole of it

pub record LeadsTo (find : Bool) (choice : RunChoice) (bytes rest : List ℕ) (s : Lines) : Type 0 where
  pub after : collected_after find choice s (cut_pieces rest) ≡ run_of find choice bytes
  pub count : length (cut_lines bytes) ≡ s.lines + length (cut_lines rest)
  pub place : rest ≡ after_lines s.lines bytes

abbrev pub Leads : Bool → RunChoice → (all left : Option (List ℕ)) → Lines → Type 0
Leads find choice all left s = IfSome all (λ bytes. (rest : List ℕ) × (left ≡ Some rest) × LeadsTo find choice bytes rest s)

leads_first : (find : Bool) (choice : RunChoice) (bytes : List ℕ) → LeadsTo find choice bytes bytes no_lines
unfolding run_of
leads_first find choice bytes = record { after = refl; count = omega arith; place = refl }

pub starts : (find : Bool) (choice : RunChoice) (all : Option (List ℕ)) → Leads find choice all all no_lines
starts find choice None = tt
starts find choice (Some bytes) = (bytes, refl, leads_first find choice bytes)

given : (left rest : Option (List ℕ)) (which : LineEnd) (line xs : List ℕ) → left ≡ Some xs → IfSome left (Gives which line rest) → Gives which line rest xs
given left rest which line xs is gives = subst (λ (o : Option (List ℕ)). IfSome o (Gives which line rest)) is gives

one_more : (find : Bool) (choice : RunChoice) (bytes xs : List ℕ) (s new : Lines) (line : List ℕ) (feed begins : Bool) → xs ≢ [] → line ≡ first_line xs → feed ≡ has_feed xs → begins ≡ begins_run find line
    → new ≡ with_line choice begins (piece_of line feed) s → LeadsTo find choice bytes xs s → LeadsTo find choice bytes (drop_through 10 xs) new
one_more find choice bytes [] s new line feed begins some is feeds begin more h = absurd (some refl)
one_more find choice bytes (x ∷ xs) s new line feed begins some is feeds begin more h =
    let all : List ℕ = x ∷ xs in
    let piece : piece_of line feed ≡ piece_of (first_line all) (has_feed all) = ap (λ (l : List ℕ). piece_of l feed) is ∙ ap (piece_of (first_line all)) feeds in
    let first : begins ≡ begins_run find (first_line (piece_of (first_line all) (has_feed all))) = begin ∙ ap (begins_run find) (is ∙ sym (line_of_piece all)) in
    let next : new ≡ with_line choice (begins_run find (first_line (piece_of (first_line all) (has_feed all)))) (piece_of (first_line all) (has_feed all)) s =
    more ∙ ap (λ (p : List ℕ). with_line choice begins p s) piece ∙ ap (λ (b : Bool). with_line choice b (piece_of (first_line all) (has_feed all)) s) first in
    let lines : new.lines ≡ s.lines + 1 = ap (λ (t : Lines). t.lines) more ∙ one_line choice begins (piece_of line feed) s in
    let counted : length (cut_lines all) ≡ length (cut_lines (drop_through 10 all)) + 1 = ap length (cut_first x xs) ∙ omega arith in
    record {
      after = ap (λ (t : Lines). collected_after find choice t (cut_pieces (drop_through 10 all))) next ∙ sym (ap (collected_after find choice s) (cut_first_piece x xs)) ∙ h.after;
      count = omega (arith, h.count, lines, counted);
      place = ap (drop_through 10) h.place ∙ ap (λ (n : ℕ). after_lines n bytes) (let e : suc s.lines ≡ new.lines = omega (arith, lines) in e);
    }

pub leads_on : (find : Bool) (choice : RunChoice) (all left rest : Option (List ℕ)) (s new : Lines) (line : List ℕ) (feed begins : Bool) → Leads find choice all left s → IfSome left (Gives (next.Line feed) line rest)
    → begins ≡ begins_run find line → new ≡ with_line choice begins (piece_of line feed) s → Leads find choice all rest new
leads_on find choice None left rest s new line feed begins h gives begin more = tt
leads_on find choice (Some bytes) left rest s new line feed begins h gives begin more =
    let k = given left rest (next.Line feed) line h.0 h.1 gives in
    (drop_through 10 h.0, k.2, one_more find choice bytes h.0 s new line feed begins k.0 k.1 k.3 begin more h.2)

-- ---- where it ends

all_known : (find : Bool) (choice : RunChoice) (bytes xs : List ℕ) (s : Lines) → xs ≡ [] → LeadsTo find choice bytes xs s → s ≡ run_of find choice bytes
all_known find choice bytes xs s none h = sym (ap (λ (l : List ℕ). collected_after find choice s (cut_pieces l)) none) ∙ h.after

as_selected : (find : Bool) (choice : RunChoice) (bytes : List ℕ) (s : Lines) (r : Result Run RunFault) → s ≡ run_of find choice bytes → IsRunOf choice s r → IsSelected find choice bytes r
as_selected find choice bytes s (Ok run) is run_is = subst (λ (t : Lines). IsRunOf choice t (Ok run)) is run_is
as_selected find choice bytes s (Err (fault.Missing missing)) is run_is = subst (λ (t : Lines). IsRunOf choice t (Err (fault.Missing missing))) is run_is
as_selected find choice bytes s (Err (fault.TooLong line)) is run_is = absurd run_is
as_selected find choice bytes s (Err fault.TooMany) is run_is = absurd run_is
as_selected find choice bytes s (Err (fault.Unread failed)) is run_is = absurd run_is
as_selected find choice bytes s (Err fault.Memory) is run_is = absurd run_is

pub leads_out : (find : Bool) (choice : RunChoice) (all left rest : Option (List ℕ)) (s : Lines) (line : List ℕ) (r : Result Run RunFault) → Leads find choice all left s → IfSome left (Gives next.End line rest) → IsRunOf choice s r
    → IfSome all (λ bytes. IsSelected find choice bytes r)
leads_out find choice None left rest s line r h gives run = tt
leads_out find choice (Some bytes) left rest s line r h gives run =
    as_selected find choice bytes s r (all_known find choice bytes h.0 s (given left rest next.End line h.0 h.1 gives).0 h.2) run

pub ends_there : (find : Bool) (choice : RunChoice) (all left rest : Option (List ℕ)) (s : Lines) (line : List ℕ) → Leads find choice all left s → IfSome left (Gives next.End line rest) → OnSome all (IsAtEnd rest)
ends_there find choice None left rest s line h gives = tt
ends_there find choice (Some bytes) left rest s line h gives = (given left rest next.End line h.0 h.1 gives).1

pub leads_too_long : (find : Bool) (choice : RunChoice) (all left rest : Option (List ℕ)) (s : Lines) (line : List ℕ) (n : ℕ) → s.lines ≡ n → Leads find choice all left s → IfSome left (Gives next.TooLong line rest)
    → IfSome all (λ bytes. IsSelected find choice bytes (Err (fault.TooLong (n + 1))))
leads_too_long find choice None left rest s line n is h gives = tt
leads_too_long find choice (Some bytes) left rest s line n is h gives =
    let k = given left rest next.TooLong line h.0 h.1 gives in
    subst (λ (xs : List ℕ). max_bytes < length (first_line xs)) (h.2.place ∙ ap (λ (m : ℕ). after_lines m bytes) (let e : s.lines ≡ n + 1 - 1 = omega (arith, is) in e)) k.1

pub leads_too_far : (find : Bool) (choice : RunChoice) (all left : Option (List ℕ)) (s : Lines) → 4294967297 ≤ s.lines → Leads find choice all left s → IfSome all (λ bytes. IsSelected find choice bytes (Err fault.TooMany))
leads_too_far find choice None left s many h = tt
leads_too_far find choice (Some bytes) left s many h = omega (arith, many, h.2.count)

pub leads_nowhere : (find : Bool) (choice : RunChoice) (all : Option (List ℕ)) (r : RunFault) → IsNoRun r → IfSome all (λ bytes. IsSelected find choice bytes (Err r))
leads_nowhere find choice None r none = tt
leads_nowhere find choice (Some bytes) (fault.Missing missing) none = absurd none
leads_nowhere find choice (Some bytes) (fault.TooLong line) none = absurd none
leads_nowhere find choice (Some bytes) fault.TooMany none = absurd none
leads_nowhere find choice (Some bytes) (fault.Unread failed) none = tt
leads_nowhere find choice (Some bytes) fault.Memory none = tt
