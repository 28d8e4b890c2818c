-- What is stored of the texts of diagnostics.
use Rattle.std.specs.Prelude.{ℕ, ◌+◌, ◌-◌, ◌==◌, ◌||◌, nat_le, List, [], ◌++◌, codes, Bool, if◌then◌else◌, length, map, take, drop, Option}
use Rattle.std.specs.List.{prefix_len, suffix_len}
use Rattle.std.specs.Option.{option_map}
use Rattle.serde_json.specs.Data.{Data}
use Rattle.apply_json.specs.Tree.{text_of}
use Rattle.stream_lines.specs.Cut.{cut_lines}
use Rattle.stream_message.specs.Members.{file_of, line_of, text_or_empty}

-- how many bytes of a long text are stored, from its front and from its back
abbrev pub front_bytes : ℕ
front_bytes = 8192

abbrev pub back_bytes : ℕ
back_bytes = 12288

-- how many lines of a detail are stored
abbrev pub detail_lines : ℕ
detail_lines = 10

-- a short text, or the front of a long one
abbrev pub front_part : List ℕ → List ℕ
front_part text = if nat_le (length text) (front_bytes + back_bytes) then text else take front_bytes text

-- the back of a long text
abbrev pub back_part : List ℕ → List ℕ
back_part text = if nat_le (length text) (front_bytes + back_bytes) then [] else drop (length text - back_bytes) text

-- A text as it is stored. Fitted to 1,000 columns, it looks like the whole text, unless more than
-- four characters without width follow one another. Its first 400 columns take at most 8,000 bytes,
-- and its last 602 at most 12,040.
abbrev pub stored : List ℕ → List ℕ
stored text = front_part text ++ back_part text

-- a blank, a tab or a carriage return
abbrev pub is_blank : ℕ → Bool
is_blank byte = byte == 32 || byte == 9 || byte == 13

abbrev pub is_blank_or_feed : ℕ → Bool
is_blank_or_feed byte = is_blank byte || byte == 10

abbrev pub without_front : (ℕ → Bool) → List ℕ → List ℕ
without_front test text = drop (prefix_len test text) text

abbrev pub without_end : (ℕ → Bool) → List ℕ → List ℕ
without_end test text = take (length text - suffix_len test text) text

-- a line of a detail without the blank bytes at its ends
abbrev pub trimmed_line : List ℕ → List ℕ
trimmed_line line = without_end is_blank (without_front is_blank line)

-- the lines of a detail, without empty and blank lines at its end
abbrev pub lines_of_detail : List ℕ → List (List ℕ)
lines_of_detail detail = cut_lines (without_end is_blank_or_feed detail)

pub record DiagnosticRead : Type 0 where
  pub summary : List ℕ
  pub address : Option (List ℕ)
  pub file : Option (List ℕ)
  pub line : Option ℕ
  pub detail : List (List ℕ)
  -- how many lines of the detail are not stored
  pub more : ℕ

-- what is stored of the object `diagnostic`
abbrev pub diagnostic_of : Data → DiagnosticRead
diagnostic_of d = record {
  summary = stored (text_or_empty (codes "summary") d);
  address = option_map stored (text_of (codes "address") d);
  file = option_map stored (file_of d);
  line = line_of d;
  detail = map (λ line. stored (trimmed_line line))
      (take detail_lines (lines_of_detail (text_or_empty (codes "detail") d)));
  more = length (lines_of_detail (text_or_empty (codes "detail") d)) - detail_lines;
}
