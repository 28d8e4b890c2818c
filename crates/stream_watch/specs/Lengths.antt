-- How long the steps of an action and a type took that ended well.
use Rattle.std.specs.Prelude.{ℕ, ◌+◌, ◌++◌, ◌∷◌, ◌&&◌, [], Bool, List, find, if◌then◌else◌, length, map, max, min, nat_le, nat_lt, string_bytes}
use Rattle.std.specs.Option.{option_map_or}
use Rattle.std.specs.Str.{bytes_eq}
use Rattle.stream_watch.specs.Steps.{without_first}
use Rattle.stream_watch.specs.declared.lengths.KindLengths.{KindLengths}
use Rattle.stream_watch.specs.declared.lengths.Lengths.{Lengths}

-- the shortest and the longest time of the steps of an action and a type, in microseconds
pub record KindLength : Type 0 where
  pub action : List ℕ
  pub kind : List ℕ
  pub shortest : ℕ
  pub longest : ℕ

abbrev pub lengths_view : KindLengths → KindLength
lengths_view kept = record {
  action = string_bytes kept.action;
  kind = string_bytes kept.kind;
  shortest = kept.shortest;
  longest = kept.longest;
}

abbrev pub lengths_of : Lengths → List KindLength
lengths_of lengths = map lengths_view lengths.list.items

abbrev pub is_kind : (action kind : List ℕ) → KindLength → Bool
is_kind action kind kept = bytes_eq kept.action action && bytes_eq kept.kind kind

abbrev pub one_length : (action kind : List ℕ) → ℕ → KindLength
one_length action kind took = record { action = action; kind = kind; shortest = took; longest = took }

-- a further step took so long
abbrev pub longer_by : ℕ → KindLength → KindLength
longer_by took kept = record kept { shortest = min kept.shortest took; longest = max kept.longest took }

-- at most a thousand of them are kept, and none with long names
abbrev pub has_room : (action kind : List ℕ) → List KindLength → Bool
has_room action kind lengths = nat_lt (length lengths) 1000 && nat_le (length action + length kind) 256

-- a step of an action and a type of which none is kept
abbrev pub with_first : (action kind : List ℕ) → ℕ → List KindLength → List KindLength
with_first action kind took lengths = if has_room action kind lengths then lengths ++ one_length action kind took ∷ [] else lengths

-- A step of this action and type took so long. What changes stands last.
unfoldable pub with_length : (action kind : List ℕ) → ℕ → List KindLength → List KindLength
with_length action kind took lengths = option_map_or
    (λ kept. without_first (is_kind action kind) lengths ++ longer_by took kept ∷ [])
    (find (is_kind action kind) lengths) (with_first action kind took lengths)
