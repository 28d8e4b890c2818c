-- The places of times on an axis, and how many steps run in each of its cells.
use Rattle.std.specs.Prelude.{ℕ, ◌+◌, ◌-◌, ◌*◌, ◌/◌, max, min, nat_lt, map, List, [], ◌∷◌, Bool, ◌&&◌, if◌then◌else◌}
use Rattle.std.specs.List.{range_with_len}
use Rattle.stream_timeline.specs.declared.numbers.stretch.Stretch.{Stretch}

-- The place of a time on an axis of `width` places, rounded down. `offset` is the time since the
-- start of the stream.
abbrev pub place_on : (width span offset : ℕ) → ℕ
place_on width span offset = offset * width / max 1 span

-- as `place_on`, but rounded up
abbrev pub place_above : (width span offset : ℕ) → ℕ
place_above width span offset = (offset * width + (max 1 span - 1)) / max 1 span

-- ---- bars, in halves of cells

-- the first half that a bar covers, at most the last half of the row
abbrev pub first_half : (cells span begin : ℕ) → ℕ
first_half cells span begin = min (place_on (2 * cells) span begin) (2 * cells - 1)

-- the half after the last one that a bar covers; a bar covers at least one
abbrev pub end_half : (cells span begin end : ℕ) → ℕ
end_half cells span begin end = max (place_above (2 * cells) span end) (first_half cells span begin + 1)

-- ---- how many steps run, cell by cell

-- Where the part of a cell begins and ends, in microseconds. Each cell has at least one
-- microsecond.
abbrev pub cell_begin : (cells span cell : ℕ) → ℕ
cell_begin cells span cell = cell * max 1 span / cells

abbrev pub cell_end : (cells span cell : ℕ) → ℕ
cell_end cells span cell = max (cell_begin cells span (cell + 1)) (cell_begin cells span cell + 1)

abbrev pub reaches_into : (begin end : ℕ) → Stretch → Bool
reaches_into begin end s = nat_lt s.begin end && nat_lt begin s.end

-- the greatest number of steps in a stretch that reaches into this range
abbrev pub level_in : (begin end : ℕ) → List Stretch → ℕ
level_in begin end [] = 0
level_in begin end (s ∷ ss) = max (if reaches_into begin end s then s.number else 0) (level_in begin end ss)

abbrev pub level_of : List Stretch → (cells span cell : ℕ) → ℕ
level_of stretches cells span cell = level_in (cell_begin cells span cell) (cell_end cells span cell) stretches

-- the greatest number of steps that run at once, for each of the cells
abbrev pub levels_of : List Stretch → (cells span : ℕ) → List ℕ
levels_of stretches cells span = map (level_of stretches cells span) (range_with_len 0 cells)
