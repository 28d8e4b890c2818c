-- The row of a step, put together piece by piece.
use Rattle.std.proofs.Common.{◌≡◌, ◌∙◌, ℕ, ◌+◌, ◌-◌, ◌*◌, ◌/◌, ◌%◌, ◌<◌, ◌≤◌, ◌∷◌, [], ◌++◌, List, Bool, true, false, None, Some, ap, ap₂, refl, sym, get_or, length, take, drop, replicate, arith}
use Rattle.std.specs.Prelude.{if◌then◌else◌, is_some, map, max, min}
use Rattle.std.specs.List.{range_with_len, slice_get}
use Rattle.std.specs.Option.{option_map_or}
use Rattle.std.proofs.lemmas.List.{drop_min, take_all, take_min}
use Rattle.std.proofs.lemmas.List.FromFn.{map-range_with_len_more}
use Rattle.std.proofs.lemmas.List.Sums.{fold_more}
use Rattle.stream_timeline.specs.Steps.{StepRead}
use Rattle.stream_timeline.specs.declared.reading.time_range.TimeRange.{TimeRange}
use Rattle.term_text.specs.Columns.{columns_of}
use Rattle.term_text.specs.Fitting.{at_left, at_right, fitted, without_blanks}
use Rattle.stream_view.specs.Columns.{column_text, columns_at, widest}
use Rattle.stream_view.specs.Lines.{with_character, with_characters, with_styled}
use Rattle.stream_view.specs.Rows.{Layout, bar_character, bar_of, end_half_of, first_half_of, layout_of, length_characters, length_words, mark_of, rendition_of, row_at, row_of, with_bar, with_dim, with_length, with_names, with_row}
use Rattle.term_text.specs.Fitted.{shown_characters}
use Rattle.stream_view.specs.declared.column.Column.TheVariants as column
use Rattle.stream_view.specs.declared.picture.Picture.{Picture}
use Rattle.stream_view.specs.declared.text.rendition.Rendition.{Rendition}
use Rattle.stream_view.specs.declared.text.rendition.Rendition.TheVariants as rendition
use Rattle.stream_view.specs.declared.text.line_piece.LinePiece.{LinePiece}
use Rattle.stream_view.specs.declared.text.line_piece.LinePiece.TheVariants as line_piece
use Rattle.stream_view.proofs.Growing.{characters-append}

-- ---- texts in columns

-- a text, and as many blanks as it leaves
pub left_pushed : (width w columns count blanks : ℕ) (old mid new : List LinePiece) (text given : List ℕ) → given ≡ text → w ≡ width
    → mid ≡ with_characters width old given → count ≡ min (columns_of text) 18446744073709551615 → blanks ≡ columns - count
    → columns ≤ 18446744073709551615 → new ≡ with_characters w mid (replicate blanks 32) → new ≡ with_characters width old (at_left columns text)
left_pushed width w columns count blanks old mid new text given is same pushed counted left most more =
    let room : blanks ≡ columns - columns_of text = omega (arith, counted, left, most) in
    more ∙ ap₂ (λ v ps. with_characters v ps (replicate blanks 32)) same (pushed ∙ ap (with_characters width old) is)
    ∙ ap (λ n. with_characters width (with_characters width old text) (replicate n 32)) room
    ∙ sym (characters-append width old text (replicate (columns - columns_of text) 32))

-- as many blanks as a text leaves, and the text
pub right_pushed : (width w columns count blanks : ℕ) (old mid new : List LinePiece) (text given : List ℕ) → given ≡ text → w ≡ width
    → count ≡ min (columns_of text) 18446744073709551615 → blanks ≡ columns - count → columns ≤ 18446744073709551615
    → mid ≡ with_characters width old (replicate blanks 32) → new ≡ with_characters w mid given → new ≡ with_characters width old (at_right columns text)
right_pushed width w columns count blanks old mid new text given is same counted left most pushed more =
    let room : blanks ≡ columns - columns_of text = omega (arith, counted, left, most) in
    more ∙ ap₂ (λ v ps. with_characters v ps given) same pushed ∙ ap (with_characters width (with_characters width old (replicate blanks 32))) is
    ∙ ap (λ n. with_characters width (with_characters width old (replicate n 32)) text) room
    ∙ sym (characters-append width old (replicate (columns - columns_of text) 32) text)

-- ---- before the bar

pub names_pushed : (width w1 w2 w3 w4 : ℕ) (layout : Layout) (step : StepRead) (rendition : Rendition) (old p1 p2 p3 p4 p5 : List LinePiece) (action address : List ℕ)
    → rendition ≡ rendition_of step → action ≡ step.action → address ≡ step.address → w1 ≡ width → w2 ≡ w1 → w3 ≡ w2 → w4 ≡ w3
    → p1 ≡ old ++ line_piece.Begin rendition ∷ [] → p2 ≡ with_characters w1 p1 (at_left layout.action (fitted layout.action (shown_characters action)))
    → p3 ≡ p2 ++ line_piece.End ∷ [] → p4 ≡ with_character w3 p3 32
    → p5 ≡ with_characters w4 p4 (at_left layout.label (fitted layout.label (shown_characters address))) → p5 ≡ with_names width layout step old
names_pushed width w1 w2 w3 w4 layout step rendition old p1 p2 p3 p4 p5 action address is_rendition is_action is_address v1 v2 v3 v4 is1 is2 is3 is4 is5 =
    let width3 = v3 ∙ v2 ∙ v1 in
    let width4 = v4 ∙ width3 in
    let begun : p1 ≡ old ++ line_piece.Begin (rendition_of step) ∷ [] = is1 ∙ ap (λ p. old ++ line_piece.Begin p ∷ []) is_rendition in
    let given = is2 ∙ ap₂ (λ w ps. with_characters w ps (at_left layout.action (fitted layout.action (shown_characters action)))) v1 begun
    ∙ ap (λ a. with_characters width (old ++ line_piece.Begin (rendition_of step) ∷ []) (at_left layout.action (fitted layout.action (shown_characters a)))) is_action in
    let ended = is3 ∙ ap (λ ps. ps ++ line_piece.End ∷ []) given in
    let blank = is4 ∙ ap₂ (λ w ps. with_character w ps 32) width3 ended in
    let named : List ℕ → List LinePiece = λ a.
    with_characters width (with_character width (with_styled width old (Some (rendition_of step)) (at_left layout.action (fitted layout.action (shown_characters step.action)))) 32)
    (at_left layout.label (fitted layout.label (shown_characters a))) in
    is5 ∙ ap₂ (λ w ps. with_characters w ps (at_left layout.label (fitted layout.label (shown_characters address)))) width4 blank ∙ ap named is_address

-- its mark, and how long it took
pub marked_pushed : (width w1 : ℕ) (time_range : TimeRange) (step : StepRead) (old p1 p2 : List LinePiece) (mark : ℕ) (text : List ℕ) → mark ≡ mark_of step
    → text ≡ fitted 8 (shown_characters (length_words time_range step)) → w1 ≡ width → p1 ≡ with_character width old mark
    → p2 ≡ with_characters w1 p1 (at_right 8 text) → p2 ≡ with_characters width old (length_characters time_range step)
marked_pushed width w1 time_range step old p1 p2 mark text is_mark is_text same is1 is2 =
    is2 ∙ ap₂ (λ w ps. with_characters w ps (at_right 8 text)) same is1
    ∙ ap₂ (λ m t. with_characters width old (m ∷ at_right 8 t)) is_mark is_text

pub red_pushed : (width w1 : ℕ) (time_range : TimeRange) (step : StepRead) (old p1 p2 p3 : List LinePiece) → step.failed ≡ true → w1 ≡ width
    → p1 ≡ old ++ line_piece.Begin rendition.Red ∷ [] → p2 ≡ with_characters w1 p1 (length_characters time_range step) → p3 ≡ p2 ++ line_piece.End ∷ []
    → p3 ≡ with_length width time_range step old
red_pushed width w1 time_range step old p1 p2 p3 failed same is1 is2 is3 =
    is3 ∙ ap (λ ps. ps ++ line_piece.End ∷ []) (is2 ∙ ap₂ (λ w ps. with_characters w ps (length_characters time_range step)) same is1)
    ∙ sym (ap (λ b. with_styled width old (if b then Some rendition.Red else None) (length_characters time_range step)) failed)

pub plain_pushed : (width : ℕ) (time_range : TimeRange) (step : StepRead) (old new : List LinePiece) → step.failed ≡ false
    → new ≡ with_characters width old (length_characters time_range step) → new ≡ with_length width time_range step old
plain_pushed width time_range step old new failed is =
    is ∙ sym (ap (λ b. with_styled width old (if b then Some rendition.Red else None) (length_characters time_range step)) failed)

-- ---- the bar

pub dim_some : (width : ℕ) (ps : List LinePiece) (cs : List ℕ) → 1 ≤ length cs → with_dim width ps cs ≡ with_styled width ps (Some rendition.Dim) cs
dim_some width ps [] some = absurd (omega (arith, some))
dim_some width ps (c ∷ cs) some = refl

pub dim_none : (width : ℕ) (ps : List LinePiece) (cs : List ℕ) → length cs ≡ 0 → with_dim width ps cs ≡ ps
dim_none width ps [] none = refl
dim_none width ps (c ∷ cs) none = absurd (omega (arith, none))

abbrev pub bar_characters : (failed ended : Bool) → (first_half end_half first end : ℕ) → List ℕ
bar_characters failed ended first_half end_half first end = map (bar_character failed ended first_half end_half) (range_with_len first (end - first))

-- one cell more
pub bar_more : (F : ℕ → ℕ) (width w first cell x : ℕ) (start old new : List LinePiece) → first ≤ cell → w ≡ width
    → old ≡ with_characters width start (map F (range_with_len first (cell - first))) → x ≡ F cell → new ≡ with_character w old x
    → new ≡ with_characters width start (map F (range_with_len first (cell + 1 - first)))
bar_more F width w first cell x start old new from same before is more =
    let next : cell + 1 - first ≡ cell - first + 1 = omega (arith, from) in
    let cells = map F (range_with_len first (cell - first)) in
    let grown : cells ++ F cell ∷ [] ≡ map F (range_with_len first (cell + 1 - first)) =
    sym (ap (λ n. map F (range_with_len first n)) next ∙ map-range_with_len_more F first (cell - first) cell (omega (arith, from))) in
    more ∙ ap₂ (λ v ps. with_character v ps x) same before ∙ ap (with_character width (with_characters width start cells)) is
    ∙ sym (characters-append width start cells (F cell ∷ [])) ∙ ap (with_characters width start) grown

-- ticks, the bar, and ticks
pub bar_pushed : (width w1 w2 cells : ℕ) (time_range : TimeRange) (step : StepRead) (rendition : Rendition) (ticks : List ℕ) (old p1 p2 p3 : List LinePiece)
    (failed ended : Bool) (half after_bar first end : ℕ) (before characters after : List ℕ) → failed ≡ step.failed → ended ≡ is_some step.end
    → half ≡ first_half_of cells time_range step → after_bar ≡ end_half_of cells time_range step → first ≡ min cells (half / 2)
    → end ≡ min cells ((after_bar + 1) / 2) → characters ≡ bar_characters failed ended half after_bar first end
    → before ≡ take (min first (length ticks)) ticks → after ≡ without_blanks (drop (min end (length ticks)) ticks)
    → w1 ≡ width → w2 ≡ w1 → p1 ≡ with_dim width old before → p2 ≡ with_styled w1 p1 (Some rendition) characters → p3 ≡ with_dim w2 p2 after
    → p3 ≡ with_bar width rendition ticks (bar_of cells time_range step) old
unfolding bar_of
bar_pushed width w1 w2 cells time_range step rendition ticks old p1 p2 p3 failed ended half after_bar first end before characters after is_failed is_ended is_half
    is_after_bar is_first is_end are is_before is_after v1 v2 is1 is2 is3 =
    let half0 = first_half_of cells time_range step in
    let behind0 = end_half_of cells time_range step in
    let first0 = min cells (half0 / 2) in
    let end0 = min cells ((behind0 + 1) / 2) in
    let at_first : first ≡ first0 = is_first ∙ ap (λ h. min cells (h / 2)) is_half in
    let at_end : end ≡ end0 = is_end ∙ ap (λ h. min cells ((h + 1) / 2)) is_after_bar in
    let bar : characters ≡ bar_characters step.failed (is_some step.end) half0 behind0 first0 end0 =
    are ∙ ap (λ f. bar_characters f ended half after_bar first end) is_failed ∙ ap (λ e. bar_characters step.failed e half after_bar first end) is_ended
    ∙ ap₂ (λ h b. bar_characters step.failed (is_some step.end) h b first end) is_half is_after_bar
    ∙ ap₂ (λ f e. bar_characters step.failed (is_some step.end) half0 behind0 f e) at_first at_end in
    let front : before ≡ take first0 ticks = is_before ∙ take_min first ticks ∙ ap (λ n. take n ticks) at_first in
    let back : after ≡ without_blanks (drop end0 ticks) = is_after ∙ ap without_blanks (drop_min end ticks ∙ ap (λ n. drop n ticks) at_end) in
    let second = is2 ∙ ap₂ (λ w ps. with_styled w ps (Some rendition) characters) v1 (is1 ∙ ap (with_dim width old) front)
    ∙ ap (with_styled width (with_dim width old (take first0 ticks)) (Some rendition)) bar in
    is3 ∙ ap₂ (λ w ps. with_dim w ps after) (v2 ∙ v1) second
    ∙ ap (with_dim width (with_styled width (with_dim width old (take first0 ticks)) (Some rendition) (bar_characters step.failed (is_some step.end) half0 behind0 first0 end0))) back

-- ---- the whole row

pub row_pushed : (width w0 w1 w2 w3 w4 : ℕ) (layout : Layout) (time_range : TimeRange) (ticks : List ℕ) (step : StepRead)
    (p0 p1 p2 p3 p4 p5 : List LinePiece) → w0 ≡ width → w1 ≡ w0 → w2 ≡ w1 → w3 ≡ w2 → w4 ≡ w3 → p0 ≡ []
    → p1 ≡ with_names w0 layout step p0 → p2 ≡ with_character w1 p1 32 → p3 ≡ with_length w2 time_range step p2 → p4 ≡ with_character w3 p3 32
    → p5 ≡ with_bar w4 (rendition_of step) ticks (bar_of layout.cells time_range step) p4 → p5 ≡ with_row width layout time_range ticks step []
row_pushed width w0 w1 w2 w3 w4 layout time_range ticks step p0 p1 p2 p3 p4 p5 v0 v1 v2 v3 v4 is0 is1 is2 is3 is4 is5 =
    let width1 = v1 ∙ v0 in
    let width2 = v2 ∙ width1 in
    let width3 = v3 ∙ width2 in
    let width4 = v4 ∙ width3 in
    let names = is1 ∙ ap₂ (λ w ps. with_names w layout step ps) v0 is0 in
    let first = is2 ∙ ap₂ (λ w ps. with_character w ps 32) width1 names in
    let length = is3 ∙ ap₂ (λ w ps. with_length w time_range step ps) width2 first in
    let second = is4 ∙ ap₂ (λ w ps. with_character w ps 32) width3 length in
    is5 ∙ ap₂ (λ w ps. with_bar w (rendition_of step) ticks (bar_of layout.cells time_range step) ps) width4 second

-- the row of the step at a place
pub row_placed : (width place : ℕ) (layout : Layout) (picture : Picture) (ticks : List ℕ) (step : StepRead) (row : List LinePiece)
    → layout ≡ layout_of width picture → slice_get picture.timeline.now.steps place ≡ Some step → row ≡ with_row width layout picture.time_range ticks step []
    → row ≡ row_at width picture ticks place
unfolding row_of
row_placed width place layout picture ticks step row same listed is =
    is ∙ ap (λ l. with_row width l picture.time_range ticks step []) same ∙ sym (ap (λ o. option_map_or (row_of width picture ticks) o []) listed)

pub row_missing : (width place : ℕ) (picture : Picture) (ticks : List ℕ) (row : List LinePiece) → slice_get picture.timeline.now.steps place ≡ None
    → row ≡ [] → row ≡ row_at width picture ticks place
row_missing width place picture ticks row none is = is ∙ sym (ap (λ o. option_map_or (row_of width picture ticks) o []) none)

-- ---- the columns

-- one step more
pub widest_more : (text : StepRead → List ℕ) (steps : List StepRead) (places : List ℕ) (i most columns new : ℕ) → i < length places
    → most ≡ min (widest text steps (take i places)) 18446744073709551615
    → columns ≡ min (columns_at text steps (get_or places i 0)) 18446744073709551615 → new ≡ max most columns
    → new ≡ min (widest text steps (take (i + 1) places)) 18446744073709551615
widest_more text steps places i most columns new below before counted more =
    let grown = fold_more (λ widest place. max widest (columns_at text steps place)) 0 places i 0 below in
    omega (arith, grown, counted, before, more)

pub widest_all : (text : StepRead → List ℕ) (steps : List StepRead) (places items : List ℕ) (i most : ℕ) → items ≡ places → length items ≤ i
    → most ≡ min (widest text steps (take i items)) 18446744073709551615 → most ≡ min (widest text steps places) 18446744073709551615
widest_all text steps places items i most are ends is =
    is ∙ ap (λ ps. min (widest text steps ps) 18446744073709551615) (take_all i items ends ∙ are)

eleven_twentieths : (room : ℕ) → room / 20 * 11 + room % 20 * 11 / 20 ≡ room * 11 / 20
eleven_twentieths room = omega arith

part_of : (room : ℕ) → room * 11 / 20 ≤ room
part_of room = omega arith

-- the columns of the addresses
pub label_is : (width action widest_address columns address room label : ℕ) → columns ≡ min widest_address 18446744073709551615 → address ≡ max columns 7
    → room ≡ width - (action + 12) → width ≤ 18446744073709551615 → label ≡ min address (room / 20 * 11 + room % 20 * 11 / 20)
    → label ≡ min (max 7 widest_address) ((width - (action + 12)) * 11 / 20)
label_is width action widest_address columns address room label counted is_address is_room most is =
    let share = eleven_twentieths room in
    let within = part_of room in
    let same : room * 11 / 20 ≡ (width - (action + 12)) * 11 / 20 = ap (λ r. r * 11 / 20) is_room in
    let low : room ≤ 18446744073709551615 = omega (arith, is_room, most) in
    omega (arith, share, within, same, low, counted, is_address, is)

-- the columns of a line, by the widest texts
pub layout_is : (width widest_action widest_address action label cells : ℕ) (picture : Picture)
    → widest_action ≡ widest (column_text column.Action) picture.timeline.now.steps picture.rows.places.items
    → widest_address ≡ widest (column_text column.Address) picture.timeline.now.steps picture.rows.places.items
    → action ≡ min widest_action 8 → label ≡ min (max 7 widest_address) ((width - (action + 12)) * 11 / 20)
    → cells ≡ max (min (width - (action + 12) - label) 400) 1
    → record { action = action; label = label; cells = cells } ≡ layout_of width picture
unfolding layout_of
layout_is width widest_action widest_address action label cells picture are_actions are_addresses is_action is_label is_cells =
    let made : ℕ → ℕ → ℕ → Layout = λ a l c. record { action = a; label = l; cells = c } in
    let label_by : ℕ → ℕ → ℕ = λ a w. min (max 7 w) ((width - (a + 12)) * 11 / 20) in
    let cells_by : ℕ → ℕ → ℕ = λ a l. max (min (width - (a + 12) - l) 400) 1 in
    ap (made action label) is_cells ∙ ap (λ l. made action l (cells_by action l)) is_label
    ∙ ap (λ a. made a (label_by a widest_address) (cells_by a (label_by a widest_address))) (is_action ∙ ap (λ w. min w 8) are_actions)
    ∙ ap (λ w. made (min (widest (column_text column.Action) picture.timeline.now.steps picture.rows.places.items) 8)
    (label_by (min (widest (column_text column.Action) picture.timeline.now.steps picture.rows.places.items) 8) w)
    (cells_by (min (widest (column_text column.Action) picture.timeline.now.steps picture.rows.places.items) 8)
    (label_by (min (widest (column_text column.Action) picture.timeline.now.steps picture.rows.places.items) 8) w))) are_addresses
