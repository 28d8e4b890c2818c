-- Texts that are broken into pieces of a limited number of columns.
use Rattle.std.specs.Prelude.{ℕ, zero, suc, ◌+◌, ◌/◌, ◌==◌, ◌∷◌, [], List, Option, None, Some, Bool, drop, if◌then◌else◌, length, max, nat_le, nat_lt, slice_index, take, unwrap_or}
use Rattle.std.specs.List.{prefix_len}
use Rattle.term_text.specs.Columns.{columns_of}
use Rattle.term_text.specs.Fitting.{front_within, is_blank, without_blanks}

-- the text without blanks at its front
abbrev pub without_front_blanks : List ℕ → List ℕ
without_front_blanks text = drop (prefix_len is_blank text) text

-- the last blank before the place `end` that stands at the place `least` or after it
abbrev pub last_blank : (least end : ℕ) → List ℕ → Option ℕ
last_blank least zero text = None
last_blank least (suc place) text =
    if nat_lt place least then None else if is_blank (slice_index text place) then Some place else last_blank least place text

-- how many characters fit into `columns`, and 1 where none fits
abbrev pub count_within : (columns : ℕ) → List ℕ → ℕ
count_within columns text = max (length (front_within columns text)) 1

-- Where a text is broken of which the first `count` characters fit: at the last blank of these that
-- stands after their first third, else after them.
abbrev pub break_place : (count : ℕ) → List ℕ → ℕ
break_place count text = unwrap_or (last_blank (count / 3 + 1) count text) count

-- the length of the first piece
abbrev pub piece_len : (columns : ℕ) → List ℕ → ℕ
piece_len columns text =
    if nat_le (columns_of text) columns then length text else break_place (count_within columns text) text

-- what is left after the first piece
abbrev pub behind_piece : (columns : ℕ) → List ℕ → List ℕ
behind_piece columns text = without_front_blanks (drop (piece_len columns text) text)

-- The pieces, at most `turns` of them, of a text that is not empty. Blanks where the text is broken
-- are dropped.
abbrev pub pieces_within : (turns columns : ℕ) → List ℕ → List (List ℕ)
pieces_within zero columns text = []
pieces_within (suc turns) columns text =
    without_blanks (take (piece_len columns text) text)
    ∷ (if length (behind_piece columns text) == 0 then [] else pieces_within turns columns (behind_piece columns text))

-- All pieces, one at least. Each but the last is as long as it can be, so there are no more of them
-- than characters.
unfoldable pub broken : (columns : ℕ) → List ℕ → List (List ℕ)
broken columns text = pieces_within (length text + 1) columns text
