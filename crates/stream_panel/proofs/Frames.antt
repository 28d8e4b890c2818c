-- What frames do to a terminal.
use Rattle.std.proofs.Common.{◌≡◌, ◌≢◌, ◌∙◌, ◌-◌, ◌*◌, ◌<◌, ◌≤◌, ◌∷◌, ◌++◌, [], ℕ, List, ap, append-nil, append_assoc, arith, drop, length, map, max, refl, replicate, subst, suc, sym, take, zero}
use Rattle.std.specs.Prelude.{All, codes}
use Rattle.std.specs.Int.{div_ceil}
use Rattle.std.specs.List.{flat_map}
use Rattle.std.proofs.Math.Nat.{le_trans, mul-le-mul_right}
use Rattle.std.proofs.Math.Seq.{take-append_seam}
use Rattle.std.proofs.lemmas.Grind.{div_ceil_times, flat_map-append}
use Rattle.std.proofs.lemmas.List.{length-append, length-drop, length-replicate, length-take, nil_from_length, take-append-drop}
use Rattle.std.proofs.lemmas.List.Elements.{All-cons}
use Rattle.std.proofs.lemmas.List.Folds.{flat_map-map}
use Rattle.std.proofs.lemmas.List.Sums.{sum_by-cons}
use Rattle.term_text.specs.Columns.{column_count, columns_of}
use Rattle.stream_panel.specs.Frames.{control, frame_bytes, line_rows, rows_taken, unbroken_bytes, up_bytes}
use Rattle.stream_panel.specs.Stretches.{Stretch, columns_in}
use Rattle.stream_panel.specs.Terminal.{Command, Terminal, after, after_all, break_lines, broken_row, cells_of, cells_of_text, command_bytes, cut_rows, erase_below, frame_commands, go_up, keep_lines, lines_bytes, panel_commands, rows_of, standing_rows, to_start, write_line}
use Rattle.stream_panel.proofs.Parts.{some_unbroken}

written_bytes : (lines : List (List ℕ)) → flat_map command_bytes (map write_line lines) ≡ lines_bytes lines
written_bytes lines = flat_map-map command_bytes write_line lines

panel_command_bytes : (panel : List (List ℕ)) → unbroken_bytes (lines_bytes panel) ≡ flat_map command_bytes (panel_commands panel)
panel_command_bytes [] = refl
panel_command_bytes (line ∷ lines) =
    let all = lines_bytes (line ∷ lines) in
    let some : length all ≢ 0 = λ none. omega (arith, none, length-append (line ++ 10 ∷ []) (lines_bytes lines), length-append line (10 ∷ [])) in
    sym (some_unbroken all some)
    ∙ ap (λ (bytes : List ℕ). control (codes "?7l") ++ bytes ++ control (codes "?7h")) (sym (written_bytes (line ∷ lines)))
    ∙ sym (flat_map-append command_bytes (keep_lines ∷ map write_line (line ∷ lines)) (break_lines ∷ []))

pub frame_is : (standing : ℕ) (told panel : List (List ℕ))
    → frame_bytes standing (lines_bytes told) (lines_bytes panel) ≡ flat_map command_bytes (frame_commands standing told panel)
unfolding frame_bytes
frame_is standing told panel =
    let up = up_bytes standing in
    let erase = control (codes "J") in
    let first = up ++ (erase ++ flat_map command_bytes (map write_line told)) in
    ap (λ (bytes : List ℕ). 13 ∷ (bytes ++ unbroken_bytes (lines_bytes panel)))
    (append_assoc up erase (lines_bytes told) ∙ ap (λ (bytes : List ℕ). up ++ (erase ++ bytes)) (sym (written_bytes told)))
    ∙ ap (λ (bytes : List ℕ). 13 ∷ (first ++ bytes)) (panel_command_bytes panel)
    ∙ sym (flat_map-append command_bytes (to_start ∷ go_up standing ∷ erase_below ∷ map write_line told) (panel_commands panel))

-- ---- rows

after-append : (first second : List Command) (terminal : Terminal) → after_all (first ++ second) terminal ≡ after_all second (after_all first terminal)
after-append [] second terminal = refl
after-append (command ∷ commands) second terminal = after-append commands second (after command terminal)

after_lines : (lines rows : List (List ℕ)) → after_all (map write_line lines) (rows_of rows) ≡ rows_of (rows ++ lines)
after_lines [] rows = ap rows_of (sym (append-nil rows))
after_lines (line ∷ lines) rows = after_lines lines (rows ++ line ∷ []) ∙ ap rows_of (append_assoc rows (line ∷ []) lines)

after_panel : (panel rows : List (List ℕ)) → after_all (panel_commands panel) (rows_of rows) ≡ rows_of (rows ++ panel)
after_panel [] rows = ap rows_of (sym (append-nil rows))
after_panel (line ∷ lines) rows =
    after-append (map write_line (line ∷ lines)) (break_lines ∷ []) (rows_of rows) ∙ after_lines (line ∷ lines) rows

less : (before standing : List (List ℕ)) → length (before ++ standing) - length standing ≡ length before
less before standing = omega (arith, length-append before standing)

replaced : (before standing told panel : List (List ℕ))
    → after_all (frame_commands (length standing) told panel) (rows_of (before ++ standing)) ≡ rows_of (before ++ told ++ panel)
replaced before standing told panel =
    let all = before ++ standing in
    let kept : take (length all - length standing) all ≡ before =
    ap (λ n. take n all) (less before standing) ∙ take-append_seam before standing in
    after-append (map write_line told) (panel_commands panel) (rows_of (take (length all - length standing) all))
    ∙ ap (λ rows. after_all (panel_commands panel) (after_all (map write_line told) (rows_of rows))) kept
    ∙ ap (after_all (panel_commands panel)) (after_lines told before)
    ∙ after_panel panel (before ++ told)

-- ---- a terminal that became narrower

rows_cut : (count columns : ℕ) (cells : List ℕ) → length (cut_rows count columns cells) ≡ count
rows_cut zero columns cells = refl
rows_cut (suc count) columns cells = omega (arith, rows_cut count columns (drop columns cells))

pub broken_count : (columns : ℕ) (cells : List ℕ) → length (broken_row columns cells) ≡ line_rows columns (length cells)
broken_count columns cells = rows_cut (line_rows columns (length cells)) columns cells

text_cells : (characters : List ℕ) → length (cells_of_text characters) ≡ columns_of characters
text_cells [] = refl
text_cells (c ∷ cs) =
    omega (arith, length-append (replicate (column_count c) c) (cells_of_text cs), length-replicate (column_count c) c, text_cells cs, sum_by-cons column_count c cs)

pub line_cells : (line : List Stretch) → length (cells_of line) ≡ columns_in line
line_cells [] = refl
line_cells (stretch ∷ stretches) = omega (
  arith,
  length-append (cells_of_text stretch.characters) (cells_of stretches),
  text_cells stretch.characters,
  line_cells stretches,
  sum_by-cons (λ (stretch : Stretch). columns_of stretch.characters) stretch stretches,
)

standing_count : (columns : ℕ) (lines : List (List Stretch)) → length (standing_rows columns lines) ≡ rows_taken columns (map columns_in lines)
standing_count columns [] = refl
standing_count columns (line ∷ lines) = omega (
  arith,
  length-append (broken_row columns (cells_of line)) (standing_rows columns lines),
  broken_count columns (cells_of line) ∙ ap (line_rows columns) (line_cells line),
  standing_count columns lines,
  sum_by-cons (line_rows columns) (columns_in line) (map columns_in lines),
)

pub frame_rows : (columns : ℕ) (before told panel : List (List ℕ)) (standing : List (List Stretch))
    → after_all (frame_commands (rows_taken columns (map columns_in standing)) told panel) (rows_of (before ++ standing_rows columns standing))
    ≡ rows_of (before ++ told ++ panel)
frame_rows columns before told panel standing =
    ap (λ (n : ℕ). after_all (frame_commands n told panel) (rows_of (before ++ standing_rows columns standing))) (sym (standing_count columns standing))
    ∙ replaced before (standing_rows columns standing) told panel

-- ---- the cells of a broken row

cut_whole : (count columns : ℕ) (cells : List ℕ) → length cells ≤ count * columns → flat_map (λ row. row) (cut_rows count columns cells) ≡ cells
cut_whole zero columns cells few = sym (nil_from_length cells (omega (arith, few)))
cut_whole (suc count) columns cells few =
    let left : length (drop columns cells) ≤ count * columns = omega (arith, length-drop columns cells, few) in
    ap (λ (rest : List ℕ). take columns cells ++ rest) (cut_whole count columns (drop columns cells) left)
    ∙ take-append-drop columns cells

enough : (columns n : ℕ) → 0 < columns → n ≤ line_rows columns n * columns
unfolding line_rows
enough columns n some =
    let same : columns ≡ max columns 1 = omega (arith, some) in
    let Enough : ℕ → Type 0 = λ width. n ≤ max (div_ceil n width) 1 * columns in
    let least : div_ceil n columns ≤ max (div_ceil n columns) 1 = omega arith in
    subst Enough same (le_trans (div_ceil_times n columns some).0 (mul-le-mul_right columns least))

pub broken_whole : (columns : ℕ) (cells : List ℕ) → 0 < columns → flat_map (λ row. row) (broken_row columns cells) ≡ cells
broken_whole columns cells some = cut_whole (line_rows columns (length cells)) columns cells (enough columns (length cells) some)

cut_within : (count columns : ℕ) (cells : List ℕ) → All (λ row. length row ≤ columns) (cut_rows count columns cells)
cut_within zero columns cells = λ k d below. absurd (omega (arith, below))
cut_within (suc count) columns cells =
    let fits : List ℕ → Type 0 = λ row. length row ≤ columns in
    All-cons fits (take columns cells) (cut_rows count columns (drop columns cells)) (omega (arith, length-take columns cells))
    (cut_within count columns (drop columns cells))

pub broken_within : (columns : ℕ) (cells : List ℕ) → All (λ row. length row ≤ columns) (broken_row columns cells)
broken_within columns cells = cut_within (line_rows columns (length cells)) columns cells
