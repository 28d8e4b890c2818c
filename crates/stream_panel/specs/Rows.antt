-- The rows of a panel: a line for each open step.
use Rattle.std.specs.Prelude.{ℕ, ◌-◌, ◌∷◌, ◌++◌, ◌||◌, [], List, None, Option, Some, codes, find, if◌then◌else◌, nat_lt}
use Rattle.std.specs.Str.{bytes_eq}
use Rattle.term_text.specs.Columns.{columns_of}
use Rattle.term_text.specs.Fitted.{shown_characters}
use Rattle.term_text.specs.Fitting.{fitted}
use Rattle.term_text.specs.declared.rendition.Rendition.{Rendition}
use Rattle.term_text.specs.declared.rendition.Rendition.TheVariants as rendition
use Rattle.term_words.specs.Words.{grouped}
use Rattle.stream_watch.specs.Lengths.{KindLength, is_kind}
use Rattle.stream_watch.specs.Printed.{time_text}
use Rattle.stream_watch.specs.State.{State}
use Rattle.stream_watch.specs.Steps.{Step}
use Rattle.stream_watch.specs.Words.{provisioner_words, step_words}
use Rattle.stream_panel.specs.Sizes.{age, line_columns}
use Rattle.stream_panel.specs.Stretches.{Stretch, copies, front, plain, rendered, within}
use Rattle.stream_panel.specs.declared.view.View.{View}

-- ---- how long others took

-- the longer time, unless it reads as the shorter one
abbrev pub to_words : (shorter longer : List ℕ) → List ℕ
to_words shorter longer = if bytes_eq shorter longer then [] else codes " to " ++ longer

-- the times of the shortest and of the longest step
unfoldable pub others_words : (shortest longest : ℕ) → List ℕ
others_words shortest longest = codes "  others " ++ time_text shortest ++ to_words (time_text shortest) (time_text longest)

-- a step that takes longer than all others catches the eye
abbrev pub others_rendition : (age longest : ℕ) → Rendition
others_rendition age longest = if nat_lt longest age then rendition.Yellow else rendition.Dim

-- ---- what stands after the sign

-- the words, padded to so many columns
unfoldable pub padded : (columns : ℕ) → (words : List ℕ) → List Stretch
padded columns words =
    within None columns words ++ copies None 32 (columns - columns_of (fitted columns (shown_characters words)))

-- The words and, right of them, how long others took. The words have thirty columns at least, or
-- stand alone.
unfoldable pub words_and_others : (room : ℕ) → Rendition → (others words : List ℕ) → List Stretch
words_and_others room others_as others words =
    if nat_lt (room - columns_of others) 30 then within None room words
    else padded (room - columns_of others) words ++ rendered (Some others_as) others

-- the words, and how long others of the action and type took
abbrev pub part_with_others : (room age : ℕ) → KindLength → (words : List ℕ) → List Stretch
part_with_others room age kept words =
    words_and_others room (others_rendition age kept.longest) (shown_characters (others_words kept.shortest kept.longest)) words

-- the words and, where the longest of the others took a second, how long they took
unfoldable pub kind_part : (room age : ℕ) → KindLength → (words : List ℕ) → List Stretch
kind_part room age kept words =
    if nat_lt kept.longest 1000000 then within None room words else part_with_others room age kept words

-- the words, and how long others took where some ended well
unfoldable pub row_part : (room age : ℕ) → Option KindLength → (words : List ℕ) → List Stretch
row_part room age None words = within None room words
row_part room age (Some kept) words = kind_part room age kept words

-- ---- rows

abbrev pub action_rendition : (action : List ℕ) → Rendition
action_rendition action =
    if bytes_eq action (codes "create") then rendition.Green
    else if bytes_eq action (codes "update") then rendition.Yellow
    else if bytes_eq action (codes "delete") || bytes_eq action (codes "replace") then rendition.Magenta
    else if bytes_eq action (codes "read") || bytes_eq action (codes "refresh") then rendition.Cyan
    else rendition.White

-- the action, the address, and the provisioner that runs
unfoldable pub row_words : Step → List ℕ
row_words step = step_words step.action step.address ++ provisioner_words step.provisioner

-- the time since the step began, and a sign
abbrev pub row_front : (action : List ℕ) → (age : ℕ) → List Stretch
row_front action age = front None age ++ rendered (Some (action_rendition action)) (0x25B8 ∷ []) ++ plain (32 ∷ [])

-- a step of this age
abbrev pub row_of : View → List KindLength → (age : ℕ) → Step → List Stretch
row_of view lengths age step =
    row_front step.action age ++ row_part (line_columns view - 10) age (find (is_kind step.action step.kind) lengths) (row_words step)

unfoldable pub row_line : View → State → Step → List Stretch
row_line view state step = row_of view state.lengths (age view.since step.begin state.clock.now) step

-- ---- steps without a row

abbrev pub more_words : ℕ → List ℕ
more_words count = codes "and " ++ grouped count ++ codes " more"

abbrev pub more_line : View → ℕ → List Stretch
more_line view count = copies None 32 10 ++ within (Some rendition.Dim) (line_columns view - 10) (more_words count)

-- how many steps have no row, where some have none
abbrev pub more_lines : View → ℕ → List (List Stretch)
more_lines view count = if nat_lt 0 count then more_line view count ∷ [] else []
