-- Bytes that are rows.
use Rattle.std.proofs.Common.{◌≡◌, ◌∙◌, ℕ, List, [], ◌∷◌, ◌++◌, true, All, ap, append-nil, map, refl, subst, sym}
use Rattle.std.specs.List.{flat_map}
use Rattle.std.proofs.lemmas.Grind.{flat_map-append}
use Rattle.std.proofs.lemmas.List.Elements.{All-append, All-cons, All-nil, filter_map-append}
use Rattle.stream_watch.specs.Clock.{elapsed}
use Rattle.stream_watch.specs.FurtherLines.{further_lines}
use Rattle.stream_watch.specs.State.{State, further_line, line_at}
use Rattle.stream_watch.specs.declared.looks.Looks.{Looks}
use Rattle.stream_watch.specs.declared.mark.Mark.{Mark}
use Rattle.laws_watch.specs.Rows.{AreRows, IsAt, Row, further, row_bytes, rows_bytes, starts_timed, timed, timed_mark, timed_marks}

-- the bytes are rows at this time, with these marks
pub record HasRows (looks : Looks) (time : ℕ) (marks : List Mark) (told : List ℕ) : Type 0 where
  pub rows : List Row
  pub are : AreRows time marks rows
  pub bytes : told ≡ rows_bytes looks rows

pub rows_append : (looks : Looks) (xs ys : List Row) → rows_bytes looks (xs ++ ys) ≡ rows_bytes looks xs ++ rows_bytes looks ys
rows_append looks xs ys = flat_map-append (row_bytes looks) xs ys

-- ---- rows in general

pub no_rows : (looks : Looks) (time : ℕ) → HasRows looks time [] []
no_rows looks time = record {
  rows = [];
  are = record { marks = refl; start = refl; times = All-nil (IsAt time) };
  bytes = refl;
}

start_append : (xs ys : List Row) → starts_timed xs ≡ true → starts_timed ys ≡ true → starts_timed (xs ++ ys) ≡ true
start_append [] ys first second = second
start_append (timed time mark text ∷ xs) ys first second = first
start_append (further mark text ∷ xs) ys first second = first

pub rows_then : (looks : Looks) (time : ℕ) (m n : List Mark) (v w : List ℕ) → HasRows looks time m v → HasRows looks time n w
    → HasRows looks time (m ++ n) (v ++ w)
rows_then looks time m n v w first second = record {
  rows = first.rows ++ second.rows;
  are = record {
    marks = filter_map-append timed_mark first.rows second.rows
        ∙ ap (λ (x : List Mark). x ++ timed_marks second.rows) first.are.marks ∙ ap (λ (x : List Mark). m ++ x) second.are.marks;
    start = start_append first.rows second.rows first.are.start second.are.start;
    times = All-append (IsAt time) first.rows second.rows first.are.times second.are.times;
  };
  bytes = ap (λ (x : List ℕ). x ++ w) first.bytes ∙ ap (λ (x : List ℕ). rows_bytes looks first.rows ++ x) second.bytes
      ∙ sym (rows_append looks first.rows second.rows);
}

pub rows_at : (looks : Looks) (t u : ℕ) (m : List Mark) (v : List ℕ) → t ≡ u → HasRows looks t m v → HasRows looks u m v
rows_at looks t u m v same rows = subst (λ (time : ℕ). HasRows looks time m v) same rows

pub rows_as : (looks : Looks) (time : ℕ) (m : List Mark) (v w : List ℕ) → v ≡ w → HasRows looks time m v → HasRows looks time m w
rows_as looks time m v w same rows = subst (λ (bytes : List ℕ). HasRows looks time m bytes) same rows

-- ---- one row

-- a line is a row
pub line_row : (looks : Looks) (state : State) (mark : Mark) (text : List ℕ)
    → line_at looks state mark text ≡ row_bytes looks (timed (elapsed state.clock) mark text)
unfolding line_at
line_row looks state mark text = refl

-- further lines are further rows
further_rows : (mark : Mark) → (texts : List (List ℕ)) → List Row
further_rows mark texts = map (further mark) texts

further_bytes_are : (looks : Looks) (mark : Mark) (texts : List (List ℕ)) → further_lines looks mark texts ≡ rows_bytes looks (further_rows mark texts)
unfolding further_rows
further_bytes_are looks mark [] = refl
further_bytes_are looks mark (text ∷ texts) = ap (λ (more : List ℕ). further_line looks mark text ++ more) (further_bytes_are looks mark texts)

further_marks : (mark : Mark) (texts : List (List ℕ)) → timed_marks (further_rows mark texts) ≡ []
unfolding further_rows
further_marks mark [] = refl
further_marks mark (text ∷ texts) = further_marks mark texts

further_times : (time : ℕ) (mark : Mark) (texts : List (List ℕ)) → All (IsAt time) (further_rows mark texts)
unfolding further_rows
further_times time mark [] = All-nil (IsAt time)
further_times time mark (text ∷ texts) = All-cons (IsAt time) (further mark text) (further_rows mark texts) tt (further_times time mark texts)

-- a line, with further lines
pub line_and_further_bytes : (looks : Looks) (state : State) (mark other : Mark) (text : List ℕ) (texts : List (List ℕ))
    → line_at looks state mark text ++ further_lines looks other texts
    ≡ rows_bytes looks (timed (elapsed state.clock) mark text ∷ map (further other) texts)
unfolding further_rows
line_and_further_bytes looks state mark other text texts =
    ap (λ (line : List ℕ). line ++ further_lines looks other texts) (line_row looks state mark text)
    ∙ ap (λ (more : List ℕ). row_bytes looks (timed (elapsed state.clock) mark text) ++ more) (further_bytes_are looks other texts)

pub line_and_further : (looks : Looks) (state : State) (mark other : Mark) (text : List ℕ) (texts : List (List ℕ))
    → HasRows looks (elapsed state.clock) (mark ∷ []) (line_at looks state mark text ++ further_lines looks other texts)
unfolding further_rows
line_and_further looks state mark other text texts = record {
  rows = timed (elapsed state.clock) mark text ∷ map (further other) texts;
  are = record {
    marks = ap (λ (more : List Mark). mark ∷ more) (further_marks other texts);
    start = refl;
    times = All-cons (IsAt (elapsed state.clock)) (timed (elapsed state.clock) mark text) (map (further other) texts) refl
        (further_times (elapsed state.clock) other texts);
  };
  bytes = line_and_further_bytes looks state mark other text texts;
}

-- one line
pub one_line : (looks : Looks) (state : State) (mark : Mark) (text : List ℕ)
    → HasRows looks (elapsed state.clock) (mark ∷ []) (line_at looks state mark text)
one_line looks state mark text =
    rows_as looks (elapsed state.clock) (mark ∷ []) (line_at looks state mark text ++ []) (line_at looks state mark text)
    (append-nil (line_at looks state mark text)) (line_and_further looks state mark mark text [])

-- ---- rows of the items of a list

pub rows_of_each : {X : Type 0} (looks : Looks) (time : ℕ) (marks : X → List Mark) (bytes : X → List ℕ)
    → ((x : X) → HasRows looks time (marks x) (bytes x)) → (xs : List X) → HasRows looks time (flat_map marks xs) (flat_map bytes xs)
rows_of_each looks time marks bytes each [] = no_rows looks time
rows_of_each looks time marks bytes each (x ∷ xs) =
    rows_then looks time (marks x) (flat_map marks xs) (bytes x) (flat_map bytes xs) (each x) (rows_of_each looks time marks bytes each xs)
