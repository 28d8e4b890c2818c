-- The parts of the SVG: fixed fragments, numbers, and characters of texts, which are escaped.
use Rattle.std.specs.Prelude.{◌≡◌, ◌+◌, ◌-◌, ◌*◌, ◌++◌, ◌∷◌, ◌==◌, [], ℕ, ◌/◌, ◌%◌, List, Option, None, Some, IfSome, codes, if◌then◌else◌, map, max, min}
use Rattle.std.specs.Fmt.{decimal}
use Rattle.std.specs.Int.{int_gap}
use Rattle.std.specs.List.{AllZip, flat_map, slice_get}
use Rattle.std.specs.Io.KnownBytes.{Appends}
use Rattle.stream_timeline.specs.Bars.{place_on}
use Rattle.stream_timeline.specs.Intervals.{span_of, until_of}
use Rattle.stream_timeline.specs.Rows.{is_marked}
use Rattle.stream_timeline.specs.Steps.{StepRead}
use Rattle.stream_timeline.specs.declared.reading.time_range.TimeRange.{TimeRange}
use Rattle.term_text.specs.Markup.{markup_escaped}
use Rattle.term_text.specs.Fitted.{shown_characters}
use Rattle.stream_view.specs.Columns.{column_text, widest}
use Rattle.stream_view.specs.Heading.{heading_words}
use Rattle.stream_view.specs.Kinds.{kind_name, kind_of}
use Rattle.stream_view.specs.LeftOut.{left_out_shown}
use Rattle.stream_view.specs.Vocabulary.{fragment_bytes}
use Rattle.stream_view.specs.declared.column.Column.TheVariants as column
use Rattle.stream_view.specs.declared.picture.Picture.{Picture}
use Rattle.stream_view.specs.declared.svg.markup_part.MarkupPart.{MarkupPart}
use Rattle.stream_view.specs.declared.svg.markup_part.MarkupPart.TheVariants as markup_part
use Rattle.stream_view.specs.declared.svg.fragment.Fragment.{Fragment}
use Rattle.stream_view.specs.declared.svg.fragment.Fragment.TheVariants as fragment

abbrev pub tenths : ℕ → List ℕ
tenths count = if count % 10 == 0 then decimal (count / 10) else decimal (count / 10) ++ codes "." ++ decimal (count % 10)

abbrev pub markup_part_bytes : MarkupPart → List ℕ
markup_part_bytes (markup_part.Fixed fixed) = fragment_bytes fixed
markup_part_bytes (markup_part.Number number) = decimal number
markup_part_bytes (markup_part.Tenths count) = tenths count
markup_part_bytes (markup_part.Character character) = markup_escaped character

-- these parts were written, and nothing else
abbrev pub PartsWritten : List MarkupPart → (before after : Option (List ℕ)) → Type 0
PartsWritten parts before after = Appends before after (flat_map markup_part_bytes parts)

-- some parts were written, and nothing else
pub record MarkupWritten (before after : Option (List ℕ)) : Type 0 where
  pub parts : List MarkupPart
  pub written : PartsWritten parts before after

-- the characters of a text
abbrev pub text_parts : List ℕ → List MarkupPart
text_parts characters = map markup_part.Character characters

-- the characters of bytes as they are shown
abbrev pub shown_parts : List ℕ → List MarkupPart
shown_parts bytes = text_parts (shown_characters bytes)

-- The begin of a line of text: its place and class. `x` is in tenths of a pixel, `y` in pixels.
abbrev pub line_begin : (x y : ℕ) → (class : Fragment) → List MarkupPart
line_begin x y class =
    markup_part.Fixed fragment.TextX ∷ markup_part.Tenths x ∷ markup_part.Fixed fragment.Y ∷ markup_part.Number y ∷ markup_part.Fixed fragment.Class ∷ markup_part.Fixed class ∷ markup_part.Fixed fragment.TagEnd ∷ []

abbrev pub line_parts : (x y : ℕ) → (class : Fragment) → List ℕ → List MarkupPart
line_parts x y class text = line_begin x y class ++ text_parts text ++ markup_part.Fixed fragment.TextLineEnd ∷ []

-- ---- bars

-- where an axis begins and ends, in tenths of a pixel
pub record Axis : Type 0 where
  pub left : ℕ
  pub right : ℕ

-- The axis begins after labels of 8 to 64 columns, of 7.2 pixels each. It ends 72 pixels before the
-- right edge.
unfoldable pub axis_of : Picture → Axis
axis_of picture = record {
  left = 280 + (min (max (widest (column_text column.Label) picture.timeline.now.steps picture.rows.places.items) 8) 64 + 2) * 72;
  right = 11280;
}

-- The place of a time on the axis, a number of 64 bits. `offset` is the time since the start of the
-- stream.
abbrev pub x_at : Axis → (span offset : ℕ) → ℕ
x_at axis span offset = min (axis.left + place_on (axis.right - axis.left) span offset) 18446744073709551615

abbrev pub bar_left : Axis → TimeRange → StepRead → ℕ
bar_left axis time_range step = x_at axis (span_of time_range) (int_gap time_range.first step.begin)

abbrev pub bar_right : Axis → TimeRange → StepRead → ℕ
bar_right axis time_range step = x_at axis (span_of time_range) (int_gap time_range.first (until_of time_range step))

-- a bar is at least 1.5 pixels wide
abbrev pub bar_width : Axis → TimeRange → StepRead → ℕ
bar_width axis time_range step = max (bar_right axis time_range step - bar_left axis time_range step) 15

-- paler if the step failed or has no end
abbrev pub bar_end : StepRead → Fragment
bar_end step = if is_marked step then fragment.OpenEnd else fragment.WholeEnd

-- a bar with the class of the kind of its step
abbrev pub bar_parts : (left width top : ℕ) → StepRead → List MarkupPart
bar_parts left width top step =
    markup_part.Fixed fragment.RectX ∷ markup_part.Tenths left ∷ markup_part.Fixed fragment.Y ∷ markup_part.Number top ∷ markup_part.Fixed fragment.Width ∷ markup_part.Tenths width ∷ markup_part.Fixed fragment.Height
    ∷ markup_part.Number 12 ∷ markup_part.Fixed fragment.RoundedClass ∷ markup_part.Fixed (kind_name (kind_of step.action)) ∷ markup_part.Fixed (bar_end step) ∷ []

-- ---- rows

-- the begin of a group: the address and the action of its step, as the begin of its title
abbrev pub title_parts : StepRead → List MarkupPart
title_parts step =
    (markup_part.Fixed fragment.GroupBegin ∷ markup_part.Fixed fragment.TitleBegin ∷ []) ++ shown_parts step.address ++ markup_part.Fixed fragment.NewLine ∷ [] ++ shown_parts step.action

-- The group begins with the address and the action of its step. It has the bar of the step, from
-- its begin to its end.
pub record IsGroupOf (axis : Axis) (time_range : TimeRange) (group : List MarkupPart) (step : StepRead) : Type 0 where
  pub front : List MarkupPart
  pub top : ℕ
  pub back : List MarkupPart
  pub is : group ≡ title_parts step ++ front ++ bar_parts (bar_left axis time_range step) (bar_width axis time_range step) top step
      ++ (back ++ markup_part.Fixed fragment.GroupEnd ∷ [])

-- the group is that of the step at this place
abbrev pub IsGroupAt : Axis → Picture → (place : ℕ) → (group : List MarkupPart) → Type 0
IsGroupAt axis picture place group = IfSome (slice_get picture.timeline.now.steps place) (IsGroupOf axis picture.time_range group)

pub record GroupWritten (axis : Axis) (picture : Picture) (place : ℕ) (before after : Option (List ℕ)) : Type 0 where
  pub group : List MarkupPart
  pub is : IsGroupAt axis picture place group
  pub written : PartsWritten group before after

abbrev pub joined : List (List MarkupPart) → List MarkupPart
joined groups = flat_map (λ group. group) groups

-- the groups of the steps at these places were written, and nothing else
pub record GroupsWritten (axis : Axis) (picture : Picture) (places : List ℕ) (before after : Option (List ℕ)) : Type 0 where
  pub groups : List (List MarkupPart)
  pub each : AllZip (IsGroupAt axis picture) places groups
  pub written : PartsWritten (joined groups) before after

-- ---- the whole SVG

-- a title with these characters
abbrev pub whole_title : List ℕ → List MarkupPart
whole_title characters = markup_part.Fixed fragment.TitleBegin ∷ [] ++ text_parts characters ++ markup_part.Fixed fragment.TitleEnd ∷ []

-- the heading of the picture as a title
abbrev pub heading_title : Picture → List MarkupPart
heading_title picture = whole_title (shown_characters (heading_words picture.time_range picture.timeline.now picture.numbers))

-- the parts have the heading as the title of the SVG
pub record IsTitledBy (picture : Picture) (parts : List MarkupPart) : Type 0 where
  pub front : List MarkupPart
  pub back : List MarkupPart
  pub is : parts ≡ front ++ heading_title picture ++ back

pub record HeadWritten (picture : Picture) (before after : Option (List ℕ)) : Type 0 where
  pub parts : List MarkupPart
  pub titled : IsTitledBy picture parts
  pub written : PartsWritten parts before after

-- the line about the steps without a row, if there are any, else nothing
abbrev pub IsLeftOutIn : Option (List ℕ) → List MarkupPart → Type 0
IsLeftOutIn None parts = parts ≡ []
IsLeftOutIn (Some stated) parts = (y : ℕ) × (parts ≡ line_parts 160 y fragment.SmallSoft stated)

-- The parts of the SVG: the head with the title, the rows, other parts, the line about the steps
-- without a row, other parts, and the end.
pub record SvgWritten (picture : Picture) (before after : Option (List ℕ)) : Type 0 where
  pub head : List MarkupPart
  pub groups : List (List MarkupPart)
  pub below : List MarkupPart
  pub left_out : List MarkupPart
  pub tail : List MarkupPart
  pub titled : IsTitledBy picture head
  pub each : AllZip (IsGroupAt (axis_of picture) picture) picture.rows.places.items groups
  pub is_left_out : IsLeftOutIn (left_out_shown picture.rows) left_out
  pub written : PartsWritten (head ++ joined groups ++ (below ++ left_out ++ tail) ++ markup_part.Fixed fragment.SvgEnd ∷ []) before after

abbrev pub SomeSvgWritten : (before after : Option (List ℕ)) → Type 0
SomeSvgWritten before after = (picture : Picture) × SvgWritten picture before after
