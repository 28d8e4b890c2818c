-- How many columns the lines of a panel have.
use Rattle.std.proofs.Common.{◌≡◌, ◌∙◌, ◌+◌, ◌-◌, ◌*◌, ◌/◌, ◌<◌, ◌≤◌, ◌∷◌, ◌++◌, [], ℕ, List, None, Option, Some, ⊎_elim, ap, arith, false, leb, length, ltb, map, min, refl, replicate, suc, take, true}
use Rattle.std.specs.Prelude.{All, find, slice_index_or}
use Rattle.std.proofs.Math.Nat.{div-mul-le_self, mul-le-mul_right, mul-one}
use Rattle.std.proofs.lemmas.Nat.{le-div}
use Rattle.std.proofs.lemmas.Bool.{cases_Bool, leb-true, ltb-false}
use Rattle.std.proofs.lemmas.Bool.Decides.{nat_tests}
use Rattle.std.proofs.lemmas.List.Elements.{All-append, All-cons, All-map}
use Rattle.std.proofs.lemmas.List.Folds.{sum_by-replicate}
use Rattle.std.proofs.lemmas.List.Sums.{sum_by-append, sum_by-cons}
use Rattle.term_text.specs.Columns.{column_count, columns_of}
use Rattle.term_text.specs.Fitted.{shown_characters}
use Rattle.term_text.specs.Fitting.{back_within, cut_short, few_marks, fitted, front_within}
use Rattle.term_text.specs.declared.rendition.Rendition.{Rendition}
use Rattle.term_text.specs.declared.rendition.Rendition.TheVariants as rendition
use Rattle.term_words.specs.MessageTexts.{right_text}
use Rattle.stream_watch.specs.Lengths.{KindLength, is_kind}
use Rattle.stream_watch.specs.Printed.{time_text}
use Rattle.stream_watch.specs.State.{State}
use Rattle.stream_watch.specs.Steps.{Step, changes_in}
use Rattle.stream_watch.specs.declared.counts.Counts.{Counts}
use Rattle.stream_panel.specs.Canvases.{width_in}
use Rattle.stream_panel.specs.Bar.{bar, bar_up_to, full_cells, reached_cells, total_of}
use Rattle.stream_panel.specs.Panel.{panel_lines, row_lines, shown_rows}
use Rattle.stream_panel.specs.Rows.{action_rendition, kind_part, more_line, more_lines, more_words, others_rendition, others_words, padded, row_line, row_part, row_words, words_and_others}
use Rattle.stream_panel.specs.Sizes.{age, limited, line_columns}
use Rattle.stream_panel.specs.Status.{bar_cells, bold_within, has_bar, status_line, status_part, status_words}
use Rattle.stream_panel.specs.Stretches.{Stretch, columns_in, copies, front, plain, rendered, within}
use Rattle.stream_panel.proofs.Signs.{blank, dark_shade, ellipsis, full_block, light_shade, medium_shade, triangle}
use Rattle.stream_panel.specs.declared.view.View.{View}

-- ---- fitted texts

front_fits : (limit : ℕ) (cs : List ℕ) → columns_of (front_within limit cs) ≤ limit
front_fits limit [] = omega arith
front_fits limit (c ∷ cs) =
    ⊎_elim
    (λ (yes : leb (column_count c) limit ≡ true).
    let fits = leb-true (column_count c) limit yes in
    let rest = front_fits (limit - column_count c) cs in
    let sum = sum_by-cons column_count c (front_within (limit - column_count c) cs) in
    rw yes (omega (arith, fits, rest, sum)))
    (λ (no_room : leb (column_count c) limit ≡ false). rw no_room (omega arith))
    (cases_Bool (leb (column_count c) limit))

back_fits : (limit : ℕ) (cs : List ℕ) → columns_of (back_within limit cs) ≤ limit
back_fits limit [] = omega arith
back_fits limit (c ∷ cs) =
    ⊎_elim
    (λ (yes : leb (columns_of (c ∷ cs)) limit ≡ true). let fits = leb-true (columns_of (c ∷ cs)) limit yes in rw yes fits)
    (λ (no_room : leb (columns_of (c ∷ cs)) limit ≡ false). rw no_room (back_fits limit cs))
    (cases_Bool (leb (columns_of (c ∷ cs)) limit))

cut_fits : (room : ℕ) (cs : List ℕ) → columns_of (cut_short room cs) ≤ room + 1
cut_fits room cs =
    let start = front_within (room * 2 / 5) cs in
    let end = back_within (room - columns_of start) cs in
    omega (arith, front_fits (room * 2 / 5) cs, back_fits (room - columns_of start) cs, sum_by-append column_count start (8230 ∷ end), sum_by-cons column_count 8230 end, ellipsis)

pub fitted_fits : (n : ℕ) (text : List ℕ) → 1 ≤ n → columns_of (fitted n text) ≤ n
unfolding fitted
fitted_fits n text some =
    let few = few_marks 0 text in
    ⊎_elim
    (λ (yes : leb (columns_of few) n ≡ true). let fits = leb-true (columns_of few) n yes in rw yes fits)
    (λ (no_room : leb (columns_of few) n ≡ false). let cut = cut_fits (n - 1) few in rw no_room (omega (arith, cut)))
    (cases_Bool (leb (columns_of few) n))

-- ---- stretches

pub rendered_columns : (rendition : Option Rendition) (cs : List ℕ) → columns_in (rendered rendition cs) ≡ columns_of cs
rendered_columns rendition [] = refl
rendered_columns rendition (c ∷ cs) =
    omega (arith, sum_by-cons (λ (stretch : Stretch). columns_of stretch.characters) (record { rendition = rendition; characters = c ∷ cs }) [])

pub columns_in-append : (xs ys : List Stretch) → columns_in (xs ++ ys) ≡ columns_in xs + columns_in ys
columns_in-append xs ys = sum_by-append (λ (stretch : Stretch). columns_of stretch.characters) xs ys

pub within_fits : (rendition : Option Rendition) (n : ℕ) (words : List ℕ) → 1 ≤ n → columns_in (within rendition n words) ≤ n
within_fits rendition n words some =
    omega (arith, rendered_columns rendition (fitted n (shown_characters words)), fitted_fits n (shown_characters words) some)

pub copies_columns : (rendition : Option Rendition) (character n : ℕ) → column_count character ≡ 1 → columns_in (copies rendition character n) ≡ n
copies_columns rendition character n one =
    rendered_columns rendition (replicate n character) ∙ sum_by-replicate column_count n character ∙ ap (λ k. n * k) one ∙ mul-one n

-- one character that has one column
one_column : (rendition : Option Rendition) (character : ℕ) → column_count character ≡ 1 → columns_in (rendered rendition (character ∷ [])) ≡ 1
one_column rendition character one =
    omega (arith, rendered_columns rendition (character ∷ []), sum_by-cons column_count character [], one)

two_blanks : columns_in (plain (32 ∷ 32 ∷ [])) ≡ 2
two_blanks = omega (arith, rendered_columns None (32 ∷ 32 ∷ []), sum_by-cons column_count 32 (32 ∷ []), sum_by-cons column_count 32 [], blank)

pub front_columns : (rendition : Option Rendition) (age : ℕ) → columns_in (front rendition age) ≤ 8
unfolding front
front_columns rendition age =
    let time = right_text 6 (time_text age) in
    omega (arith, columns_in-append (within rendition 6 time) (plain (32 ∷ 32 ∷ [])), within_fits rendition 6 time (omega arith), two_blanks)

-- ---- the bar

share_grows : (a b total : ℕ) → 0 < total → a ≤ b → a / total ≤ b / total
share_grows a b total some more =
    le-div (a / total) b total some (omega (arith, div-mul-le_self a total, more))

part_fits : (part total cells : ℕ) → 0 < total → part ≤ total → reached_cells part total cells ≤ cells
part_fits part total cells some within = grind (arith, mul-le-mul_right cells within)

bar_columns : (done ended begun cells : ℕ) → done ≤ ended → ended ≤ begun → begun ≤ cells → columns_in (bar_up_to done ended begun cells) ≡ cells
unfolding bar_up_to
bar_columns done ended begun cells first second third =
    let full = copies (Some rendition.Green) 0x2588 done in
    let lost = copies (Some rendition.Red) 0x2593 (ended - done) in
    let under = copies None 0x2592 (begun - ended) in
    let rest = copies (Some rendition.Dim) 0x2591 (cells - begun) in
    omega (
      arith,
      columns_in-append (full ++ lost ++ under) rest,
      columns_in-append (full ++ lost) under,
      columns_in-append full lost,
      copies_columns (Some rendition.Green) 0x2588 done full_block,
      copies_columns (Some rendition.Red) 0x2593 (ended - done) dark_shade,
      copies_columns None 0x2592 (begun - ended) medium_shade,
      copies_columns (Some rendition.Dim) 0x2591 (cells - begun) light_shade,
    )

bar_fits : (counts : Counts) (running cells : ℕ) → 0 < counts.planned → columns_in (bar counts running cells) ≡ cells
unfolding bar
bar_fits counts running cells some =
    let total = total_of counts running in
    let there : 0 < total = omega (arith, some) in
    let ended = (counts.done + counts.failed) * cells in
    let begun = (counts.done + counts.failed + running) * cells in
    bar_columns (full_cells counts.done total cells) (full_cells (counts.done + counts.failed) total cells)
    (reached_cells (counts.done + counts.failed + running) total cells) cells
    (share_grows (counts.done * cells) ended total there (mul-le-mul_right cells (omega arith)))
    (share_grows ended (begun + (total - 1)) total there (omega (arith, grows ended begun (mul-le-mul_right cells (omega arith)))))
    (part_fits (counts.done + counts.failed + running) total cells there (omega arith))
  where
    grows : (a b : ℕ) → a ≤ b → a ≤ b
    grows a b h = h

-- ---- lines

status_fits : (counts : Counts) (running room : ℕ) (status : List ℕ) → 22 ≤ room → columns_in (status_part counts running room status) ≤ room
unfolding status_part
status_fits counts running room status some =
    let cells = bar_cells room status in
    let few : cells ≤ 20 = omega arith in
    let there = has_bar counts cells in
    ⊎_elim
    (λ (yes : there ≡ true).
    let planned : 0 < counts.planned = grind (arith, nat_tests, yes) in
    let drawn = bar counts running cells in
    let said = bold_within (room - (cells + 1)) status in
    rw yes (omega (
      arith,
      columns_in-append (drawn ++ plain (32 ∷ [])) said,
      columns_in-append drawn (plain (32 ∷ [])),
      bar_fits counts running cells planned,
      one_column None 32 blank,
      rendered_columns (Some rendition.Bold) (fitted (room - (cells + 1)) status),
      fitted_fits (room - (cells + 1)) status (omega (arith, few, some)),
      few,
    )))
    (λ (none : there ≡ false).
    rw none (omega (arith, rendered_columns (Some rendition.Bold) (fitted room status), fitted_fits room status (omega arith))))
    (cases_Bool there)

status_line_fits : (view : View) (state : State) → 30 ≤ line_columns view → columns_in (status_line view state) ≤ line_columns view
unfolding status_line
status_line_fits view state wide =
    let time = front (Some rendition.Dim) (age view.since state.clock.first state.clock.now) in
    let words = shown_characters (status_words view.is_waiting state) in
    let part = status_part state.counts (changes_in state.steps) (line_columns view - 8) words in
    omega (
      arith,
      columns_in-append time part,
      front_columns (Some rendition.Dim) (age view.since state.clock.first state.clock.now),
      status_fits state.counts (changes_in state.steps) (line_columns view - 8) words (omega arith),
      wide,
    )

beside_fits : (room : ℕ) (others_as : Rendition) (others words : List ℕ) → 1 ≤ room → columns_in (words_and_others room others_as others words) ≤ room
unfolding words_and_others padded
beside_fits room others_as others words some =
    let left = room - columns_of others in
    ⊎_elim
    (λ (few : ltb left 30 ≡ true). rw few (within_fits None room words some))
    (λ (many : ltb left 30 ≡ false).
    let enough = ltb-false left 30 many in
    let text = fitted left (shown_characters words) in
    let part = within None left words in
    let blanks = copies None 32 (left - columns_of text) in
    let last = rendered (Some others_as) others in
    rw many (omega (
      arith,
      columns_in-append (part ++ blanks) last,
      columns_in-append part blanks,
      rendered_columns None text,
      fitted_fits left (shown_characters words) (omega (arith, enough)),
      copies_columns None 32 (left - columns_of text) blank,
      rendered_columns (Some others_as) others,
      enough,
    )))
    (cases_Bool (ltb left 30))

row_part_fits : (room age : ℕ) (kept : Option KindLength) (words : List ℕ) → 1 ≤ room → columns_in (row_part room age kept words) ≤ room
unfolding row_part kind_part
row_part_fits room age None words some = within_fits None room words some
row_part_fits room age (Some kept) words some =
    ⊎_elim
    (λ (short : ltb kept.longest 1000000 ≡ true). rw short (within_fits None room words some))
    (λ (long : ltb kept.longest 1000000 ≡ false).
    rw long (beside_fits room (others_rendition age kept.longest) (shown_characters (others_words kept.shortest kept.longest)) words some))
    (cases_Bool (ltb kept.longest 1000000))

row_fits : (view : View) (state : State) (step : Step) → 30 ≤ line_columns view → columns_in (row_line view state step) ≤ line_columns view
unfolding row_line
row_fits view state step wide =
    let old = age view.since step.begin state.clock.now in
    let time = front None old in
    let sign = rendered (Some (action_rendition step.action)) (0x25B8 ∷ []) in
    let gap = plain (32 ∷ []) in
    let kept = find (is_kind step.action step.kind) state.lengths in
    let part = row_part (line_columns view - 10) old kept (row_words step) in
    let one = one_column (Some (action_rendition step.action)) 0x25B8 triangle in
    let another = one_column None 32 blank in
    omega (
      arith,
      columns_in-append (time ++ sign ++ gap) part,
      columns_in-append (time ++ sign) gap,
      columns_in-append time sign,
      front_columns None old,
      one,
      another,
      row_part_fits (line_columns view - 10) old kept (row_words step) (omega (arith, wide)),
      wide,
    )

more_fits : (view : View) (count : ℕ) → 30 ≤ line_columns view → columns_in (more_line view count) ≤ line_columns view
more_fits view count wide =
    let part = within (Some rendition.Dim) (line_columns view - 10) (more_words count) in
    omega (
      arith,
      columns_in-append (copies None 32 10) part,
      copies_columns None 32 10 blank,
      within_fits (Some rendition.Dim) (line_columns view - 10) (more_words count) (omega (arith, wide)),
      wide,
    )

more_lines_fit : (view : View) (count : ℕ) → 30 ≤ line_columns view → All (λ line. columns_in line ≤ line_columns view) (more_lines view count)
more_lines_fit view count wide =
    let fits : List Stretch → Type 0 = λ line. columns_in line ≤ line_columns view in
    ⊎_elim
    (λ (some : ltb 0 count ≡ true). rw some (All-cons fits (more_line view count) [] (more_fits view count wide) (nothing fits)))
    (λ (none : ltb 0 count ≡ false). rw none (nothing fits))
    (cases_Bool (ltb 0 count))
  where
    nothing : (fits : List Stretch → Type 0) → All fits []
    nothing fits k d below = absurd (omega (arith, below))

pub lines_fit : (view : View) (state : State) → 30 ≤ line_columns view → All (λ line. columns_in line ≤ line_columns view) (panel_lines view state)
unfolding panel_lines
lines_fit view state wide =
    let fits : List Stretch → Type 0 = λ line. columns_in line ≤ line_columns view in
    let n = shown_rows view.size (length state.steps) in
    let steps = take n state.steps in
    let rows = All-map fits (row_line view state) steps (λ k d below. row_fits view state (slice_index_or steps k d) wide) in
    All-append fits (status_line view state ∷ row_lines view state) (more_lines view (length state.steps - n))
    (All-cons fits (status_line view state) (row_lines view state) (status_line_fits view state wide) rows)
    (more_lines_fit view (length state.steps - n) wide)

-- ---- widths that are kept

same_widths : (limit : ℕ) (lines : List (List Stretch)) → limit ≤ 18446744073709551615 → All (λ line. columns_in line ≤ limit) lines
    → map width_in lines ≡ map columns_in lines
same_widths limit [] small fit = refl
same_widths limit (line ∷ lines) small fit =
    let first : columns_in line ≤ limit = fit 0 line (omega arith) in
    let same : width_in line ≡ columns_in line = omega (arith, first, small) in
    ap (λ (n : ℕ). n ∷ map width_in lines) same
    ∙ ap (λ (ns : List ℕ). columns_in line ∷ ns) (same_widths limit lines small (λ k d below. fit (suc k) d (omega (arith, below))))

pub known_widths : (view : View) (state : State) → 30 ≤ line_columns view
    → map width_in (panel_lines view state) ≡ map columns_in (panel_lines view state)
known_widths view state wide = same_widths (line_columns view) (panel_lines view state) (narrow view.width view.size.columns) (lines_fit view state wide)
  where
    narrow : (limit : Option ℕ) (columns : ℕ) → limited limit (min columns 120) - 1 ≤ 18446744073709551615
    narrow None columns = omega arith
    narrow (Some limit) columns = omega arith
