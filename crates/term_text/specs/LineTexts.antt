-- Lines of what a program writes for a terminal, as text without colours and tabs.
use Rattle.std.specs.Prelude.{ℕ, zero, suc, ◌+◌, ◌-◌, ◌%◌, ◌==◌, ◌&&◌, ◌||◌, ◌∷◌, ◌++◌, [], List, Bool, drop, if◌then◌else◌, length, map, nat_eq, replicate, take}
use Rattle.std.specs.Int.{is_in_range}
use Rattle.std.specs.List.{slice_split, starts_with, suffix_len}
use Rattle.std.specs.Str.{chars}
use Rattle.term_text.specs.Columns.{columns_of}
use Rattle.term_text.specs.Shown.{shown_text}

-- ---- sequences of colours: ESC, `[`, digits, colons and semicolons, and `m` (ECMA-48, section
-- 8.3.117)

abbrev pub is_parameter : ℕ → Bool
is_parameter byte = is_in_range 0x30 0x3B byte

-- the size of a sequence of which `size` bytes stand before these bytes, or 0 if these do not end
-- it
abbrev pub size_through : (size : ℕ) → List ℕ → ℕ
size_through size [] = 0
size_through size (byte ∷ bytes) =
    if byte == 109 then size + 1 else if is_parameter byte then size_through (size + 1) bytes else 0

-- the size of the sequence in front of the bytes, or 0 if none stands there
unfoldable pub colour_size : List ℕ → ℕ
colour_size bytes = if starts_with nat_eq bytes (27 ∷ 91 ∷ []) then size_through 2 (drop 2 bytes) else 0

-- the bytes without sequences, where the first `passed` bytes belong to a sequence before them
unfoldable pub uncoloured_after : (passed : ℕ) → List ℕ → List ℕ
uncoloured_after passed [] = []
uncoloured_after (suc passed) (byte ∷ bytes) = uncoloured_after passed bytes
uncoloured_after zero (byte ∷ bytes) =
    if colour_size (byte ∷ bytes) == 0 then byte ∷ uncoloured_after 0 bytes
    else uncoloured_after (colour_size (byte ∷ bytes) - 1) bytes

abbrev pub uncoloured : List ℕ → List ℕ
uncoloured bytes = uncoloured_after 0 bytes

-- ---- a line

-- blanks, tabs and carriage returns
abbrev pub is_spacing : ℕ → Bool
is_spacing byte = byte == 32 || byte == 9 || byte == 13

-- the bytes without blanks, tabs and carriage returns at their end
abbrev pub without_spacing : List ℕ → List ℕ
without_spacing bytes = take (length bytes - suffix_len is_spacing bytes) bytes

-- the text, and one to eight blanks up to the next column of eight
abbrev pub to_tab_stop : List ℕ → List ℕ
to_tab_stop text = text ++ replicate (8 - columns_of (chars text) % 8) 32

-- The escaped bytes, with a tab as blanks up to the next column of eight. `part` stands before the
-- bytes and after the last tab: it starts at such a column.
unfoldable pub tabbed_after : (part : List ℕ) → List ℕ → List ℕ
tabbed_after part [] = shown_text part
tabbed_after part (byte ∷ bytes) =
    if byte == 9 then to_tab_stop (shown_text part) ++ tabbed_after [] bytes else tabbed_after (part ++ byte ∷ []) bytes

-- one line: without colours, without what has no ink at its end, and with blanks for tabs
unfoldable pub line_text : List ℕ → List ℕ
line_text bytes = tabbed_after [] (without_spacing (uncoloured bytes))

-- ---- lines

abbrev pub is_line_feed : ℕ → Bool
is_line_feed byte = byte == 10

abbrev pub is_empty_line : List ℕ → Bool
is_empty_line line = length line == 0

-- the lines from the first that is not empty
abbrev pub without_empty_front : List (List ℕ) → List (List ℕ)
without_empty_front [] = []
without_empty_front (line ∷ lines) = if is_empty_line line then without_empty_front lines else line ∷ lines

-- lines and one more, unless it is empty and would be the first
abbrev pub with_line : List (List ℕ) → List ℕ → List (List ℕ)
with_line lines line = if length lines == 0 && is_empty_line line then [] else lines ++ line ∷ []

-- the lines up to the last that is not empty
abbrev pub without_empty_end : List (List ℕ) → List (List ℕ)
without_empty_end lines = take (length lines - suffix_len is_empty_line lines) lines

-- the text of each line, from the first to the last that is not empty
unfoldable pub text_lines : List ℕ → List (List ℕ)
text_lines bytes = without_empty_end (without_empty_front (map line_text (slice_split is_line_feed bytes)))
