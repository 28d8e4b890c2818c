-- The lines of a run.
use Rattle.std.specs.Prelude.{ℕ, ◌+◌, ◌==◌, List, [], ◌∷◌, ◌++◌, Bool, ◌&&◌, nat_lt, if◌then◌else◌, max}
use Rattle.stream_lines.specs.Cut.{first_line, onto_first}
use Rattle.stream_message.specs.Runs.{begins_run}
use Rattle.stream_runs.specs.declared.choice.RunChoice.{RunChoice}
use Rattle.stream_runs.specs.declared.choice.RunChoice.TheVariants.{Last, Number}
use Rattle.stream_runs.specs.declared.collecting.Place.{Place}
use Rattle.stream_runs.specs.declared.collecting.Place.TheVariants as place

-- a line with its line feed, which the last one may lack
abbrev pub piece_of : (text : List ℕ) → (has_feed : Bool) → List ℕ
piece_of text has_feed = text ++ (if has_feed then 10 ∷ [] else [])

-- bytes as lines, each with its line feed
abbrev pub cut_pieces : List ℕ → List (List ℕ)
cut_pieces [] = []
cut_pieces (byte ∷ bytes) = if byte == 10 then (10 ∷ []) ∷ cut_pieces bytes else onto_first byte (cut_pieces bytes)

-- What is known of some lines: how many runs begin in them, how many they are, how many of them
-- stand before the chosen run, and the bytes of that run.
pub record Lines : Type 0 where
  pub begun : ℕ
  pub lines : ℕ
  pub before : ℕ
  pub bytes : List ℕ

abbrev pub no_lines : Lines
no_lines = record { begun = 0; lines = 0; before = 0; bytes = [] }

-- Where a line stands, up to which that many runs have begun. Lines before the first `version`
-- belong to run 1. The last run so far starts anew where another one begins.
abbrev pub place_of : RunChoice → (begins : Bool) → (begun : ℕ) → Place
place_of Last begins begun = if begins && nat_lt 1 begun then place.Anew else place.Inside
place_of (Number n) begins begun =
    if max begun 1 == n then place.Inside else (if nat_lt (max begun 1) n then place.Before else place.After)

-- one line more, of that place
abbrev pub with_place : Place → (piece : List ℕ) → Lines → Lines
with_place place.Before piece s = record s { lines = s.lines + 1; before = s.lines + 1 }
with_place place.Inside piece s = record s { lines = s.lines + 1; bytes = s.bytes ++ piece }
with_place place.Anew piece s = record s { lines = s.lines + 1; before = s.lines; bytes = piece }
with_place place.After piece s = record s { lines = s.lines + 1 }

-- one line more, with which a run begins or not
abbrev pub with_begun : (begins : Bool) → Lines → Lines
with_begun begins s = if begins then record s { begun = s.begun + 1 } else s

abbrev pub with_line : RunChoice → (begins : Bool) → (piece : List ℕ) → Lines → Lines
with_line choice begins piece s =
    with_place (place_of choice begins (with_begun begins s).begun) piece (with_begun begins s)

-- more lines after those that are known
abbrev pub collected_after : (find : Bool) → RunChoice → Lines → List (List ℕ) → Lines
collected_after find choice s [] = s
collected_after find choice s (piece ∷ pieces) =
    collected_after find choice (with_line choice (begins_run find (first_line piece)) piece s) pieces

-- the lines of an input, with the chosen run
unfoldable pub run_of : (find : Bool) → RunChoice → List ℕ → Lines
run_of find choice bytes = collected_after find choice no_lines (cut_pieces bytes)
