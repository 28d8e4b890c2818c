-- A time line as Markdown, for the comment of a pull request: a headline, and a text in a fence of
-- backticks (GitHub Flavored Markdown, section 4.5).
use Rattle.std.specs.Prelude.{◌≡◌, ◌≤◌, ◌⊎◌, ◌+◌, ◌-◌, ◌++◌, ◌∷◌, ◌==◌, ◌&&◌, [], ℕ, zero, suc, List, Bool, false, All, Option, codes, drop, encode_utf8, if◌then◌else◌, length, max, nat_le, replicate, slice_index, take}
use Rattle.std.specs.Io.KnownBytes.{Appends}
use Rattle.std.specs.List.{fold}
use Rattle.stream_view.specs.Heading.{headline_words}
use Rattle.stream_view.specs.LeftOut.{IsLeftOutAs, left_out_shown}
use Rattle.stream_view.specs.Lines.{IsLine, text_bytes}
use Rattle.stream_view.specs.Rows.{AreTicks, layout_of, rows_of}
use Rattle.stream_view.specs.Texts.{indent_of}
use Rattle.term_words.specs.Words.{more_words}
use Rattle.stream_view.specs.declared.markdown.extent.Extent.{Extent}
use Rattle.stream_view.specs.declared.picture.Picture.{Picture}
use Rattle.stream_view.specs.declared.text.line_piece.LinePiece.{LinePiece}

-- ---- runs of backticks

-- of no bytes
abbrev pub no_extent : Extent
no_extent = record { len = 0; lines = 0; run = 0; longest = 0 }

-- the run of backticks at the end, with one byte more
abbrev pub run_after : (run byte : ℕ) → ℕ
run_after run byte = if byte == 96 then run + 1 else 0

-- how many lines have ended, with one byte more
abbrev pub lines_after : (lines byte : ℕ) → ℕ
lines_after lines byte = if byte == 10 then lines + 1 else lines

abbrev pub extent_after : Extent → (byte : ℕ) → Extent
extent_after extent byte = record {
  len = extent.len + 1;
  lines = lines_after extent.lines byte;
  run = run_after extent.run byte;
  longest = max extent.longest (run_after extent.run byte);
}

-- how long a text is, how many lines end in it, and how long its runs of backticks are
abbrev pub extent_of : List ℕ → Extent
extent_of bytes = fold extent_after no_extent bytes

-- the longest run of backticks in a text
abbrev pub longest_run : List ℕ → ℕ
longest_run bytes = (extent_of bytes).longest

-- how many lines end in a text
abbrev pub line_count : List ℕ → ℕ
line_count bytes = (extent_of bytes).lines

-- no count exceeds the length, which is that of a slice
pub record IsSmall (extent : Extent) : Type 0 where
  pub lines : extent.lines ≤ extent.len
  pub run : extent.run ≤ extent.len
  pub longest : extent.longest ≤ extent.len
  pub room : extent.len ≤ 18446744073709551614

-- ---- the fence

-- one backtick more than the longest run, three at least
abbrev pub fence_len : (longest : ℕ) → ℕ
fence_len longest = max (longest + 1) 3

-- the line of a fence
abbrev pub fence_bytes : (len : ℕ) → List ℕ
fence_bytes len = replicate len 96 ++ 10 ∷ []

-- ---- the cut

-- how many lines were cut, on a line, unless none was
abbrev pub more_line : (count : ℕ) → List ℕ
more_line count = if count == 0 then [] else encode_utf8 8230 ++ codes " " ++ more_words count (codes "line") ++ codes "\n"

-- what stands before the text, and after it
abbrev pub front_bytes : (headline : List ℕ) → (fence : ℕ) → List ℕ
front_bytes headline fence = codes "**" ++ headline ++ codes "**\n\n" ++ fence_bytes fence

abbrev pub back_bytes : (more fence : ℕ) → List ℕ
back_bytes more fence = more_line more ++ fence_bytes fence

-- the front of the text with this extent, in its fence, with the number of lines that were cut
abbrev pub markdown_with : (headline inside : List ℕ) → (kept : Extent) → List ℕ
markdown_with headline inside kept =
    front_bytes headline (fence_len kept.longest) ++ take kept.len inside
    ++ back_bytes (line_count inside - kept.lines) (fence_len kept.longest)

-- how long that is, by the length of the headline and the number of lines of the text
abbrev pub markdown_len : (headline lines : ℕ) → (kept : Extent) → ℕ
markdown_len headline lines kept =
    headline + kept.len + fence_len kept.longest + fence_len kept.longest + length (more_line (lines - kept.lines)) + 8

-- it has at most 65,000 bytes
abbrev pub has_room : (headline lines : ℕ) → (kept : Extent) → Bool
has_room headline lines kept = nat_le (markdown_len headline lines kept) 65000

-- the front up to a byte, if a line ends with the byte and all has room
abbrev pub kept_after : (headline lines byte : ℕ) → (extent kept : Extent) → Extent
kept_after headline lines byte extent kept = if byte == 10 && has_room headline lines extent then extent else kept

-- of the first `count` bytes, the longest front of whole lines for which all has room
abbrev pub kept_within : (headline lines : ℕ) → (inside : List ℕ) → (count : ℕ) → Extent
kept_within headline lines inside zero = no_extent
kept_within headline lines inside (suc count) =
    kept_after headline lines (slice_index inside count) (extent_of (take (suc count) inside)) (kept_within headline lines inside count)

-- what is kept of a text
unfoldable pub kept_of : (headline : ℕ) → (inside : List ℕ) → Extent
kept_of headline inside = kept_within headline (line_count inside) inside (length inside)

-- the headline in bold, and the text in its fence, without the last lines if all has no room
abbrev pub markdown_bytes : (headline inside : List ℕ) → List ℕ
markdown_bytes headline inside = markdown_with headline inside (kept_of (length headline) inside)

-- what is kept of a text with this headline, and what is cut
abbrev pub kept_text : (headline inside : List ℕ) → List ℕ
kept_text headline inside = take (kept_of (length headline) inside).len inside

abbrev pub cut_text : (headline inside : List ℕ) → List ℕ
cut_text headline inside = drop (kept_of (length headline) inside).len inside

-- how many backticks its fence has
abbrev pub fence_around : (headline inside : List ℕ) → ℕ
fence_around headline inside = fence_len (kept_of (length headline) inside).longest

-- the text has no line, or its last one has ended
abbrev pub EndsLine : List ℕ → Type 0
EndsLine text = (text ≡ []) ⊎ ((front : List ℕ) × (text ≡ front ++ 10 ∷ []))

-- ---- what stands in the fence

-- the text of a picture after its heading, in 100 columns and without colours
pub record IsInside (picture : Picture) (inside : List ℕ) : Type 0 where
  pub head : List (List LinePiece)
  pub ticks : List ℕ
  pub left_out : List (List LinePiece)
  pub tail : List (List LinePiece)
  pub are_ticks : AreTicks (layout_of 100 picture) ticks
  pub is_left_out : IsLeftOutAs 100 (indent_of 100 picture) (left_out_shown picture.rows) left_out
  pub fine : All (IsLine 100) (head ++ rows_of 100 picture ticks ++ left_out ++ tail)
  pub is : inside ≡ text_bytes false (head ++ rows_of 100 picture ticks ++ left_out ++ tail)

-- such a text was written, and nothing else
pub record InsideWritten (picture : Picture) (before after : Option (List ℕ)) : Type 0 where
  pub inside : List ℕ
  pub is : IsInside picture inside
  pub written : Appends before after inside

-- the picture was written as Markdown, and nothing else
pub record MarkdownWritten (picture : Picture) (before after : Option (List ℕ)) : Type 0 where
  pub inside : List ℕ
  pub is : IsInside picture inside
  pub written : Appends before after (markdown_bytes (headline_words picture.time_range picture.timeline.now picture.numbers) inside)
