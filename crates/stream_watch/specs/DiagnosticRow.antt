-- What is told of diagnostics.
use Rattle.std.specs.Prelude.{ℕ, List, [], ◌∷◌, ◌-◌, ◌++◌, Bool, not, Option, Some, None, codes, drop, filter, if◌then◌else◌, is_some, length, option_map, take, unwrap_or}
use Rattle.std.specs.Fmt.{decimal}
use Rattle.std.specs.List.{join_by, prefix_len, suffix_len}
use Rattle.std.specs.Option.{option_map_or}
use Rattle.std.specs.Str.{bytes_eq}
use Rattle.serde_json.specs.Data.{Data}
use Rattle.apply_json.specs.Tree.{◌>>=◌, member_of, non_empty_text_of, text_of}
use Rattle.term_text.specs.Fitting.{is_blank}
use Rattle.term_text.specs.LineTexts.{text_lines}
use Rattle.term_text.specs.Shown.{shown_text}
use Rattle.stream_watch.specs.FurtherLines.{further_lines}
use Rattle.stream_watch.specs.RefreshRow.{reported_told}
use Rattle.stream_watch.specs.SnippetRow.{snippet_lines}
use Rattle.stream_watch.specs.State.{State, Told, line_at}
use Rattle.stream_watch.specs.Steps.{reads_at}
use Rattle.stream_watch.specs.Words.{whole_of}
use Rattle.stream_watch.specs.declared.looks.Looks.{Looks}
use Rattle.stream_watch.specs.declared.mark.Mark.{Mark}
use Rattle.stream_watch.specs.declared.mark.Mark.TheVariants as mark

-- ---- the severity

abbrev pub severity_mark : (severity : List ℕ) → Mark
severity_mark severity =
    if bytes_eq severity (codes "error") then mark.Failed
    else if bytes_eq severity (codes "warning") then mark.Warning
    else mark.Other

abbrev pub severity_words : (severity : List ℕ) → List ℕ
severity_words severity =
    if bytes_eq severity (codes "error") then codes "Error"
    else if bytes_eq severity (codes "warning") then codes "Warning"
    else shown_text severity

-- ---- the summary

-- the member of that name; no bytes if it is not a text
abbrev pub text_or_nothing : (name : List ℕ) → Data → List ℕ
text_or_nothing name tree = unwrap_or (text_of name tree) []

abbrev pub without_front_blanks : List ℕ → List ℕ
without_front_blanks line = drop (prefix_len is_blank line) line

abbrev pub without_end_blanks : List ℕ → List ℕ
without_end_blanks line = take (length line - suffix_len is_blank line) line

-- the line without blanks at both ends
abbrev pub without_outer_blanks : List ℕ → List ℕ
without_outer_blanks line = without_end_blanks (without_front_blanks line)

-- lines with a blank between them
abbrev pub in_one_line : (lines : List (List ℕ)) → List ℕ
in_one_line lines = join_by without_outer_blanks (codes " ") lines

abbrev pub summary_words : (diagnostic : Data) → List ℕ
summary_words diagnostic = in_one_line (text_lines (text_or_nothing (codes "summary") diagnostic))

-- ---- the place

abbrev pub file_of : (diagnostic : Data) → Option (List ℕ)
file_of diagnostic = member_of (codes "range") diagnostic >>= non_empty_text_of (codes "filename")

-- the line of the file in which the range starts
abbrev pub line_of : (diagnostic : Data) → Option ℕ
line_of diagnostic = (member_of (codes "range") diagnostic >>= member_of (codes "start")) >>= whole_of (codes "line")

abbrev pub file_words : (file : List ℕ) → (line : Option ℕ) → List ℕ
file_words file None = shown_text file
file_words file (Some line) = shown_text file ++ codes ":" ++ decimal line

-- address, file and line in parentheses, where they are known
abbrev pub place_words : (address file : Option (List ℕ)) → (line : Option ℕ) → List ℕ
place_words None None line = []
place_words (Some address) None line = codes " (" ++ shown_text address ++ codes ")"
place_words None (Some file) line = codes " (" ++ file_words file line ++ codes ")"
place_words (Some address) (Some file) line = codes " (" ++ shown_text address ++ codes ", " ++ file_words file line ++ codes ")"

-- ---- the lines

abbrev pub address_of : (diagnostic : Data) → Option (List ℕ)
address_of diagnostic = non_empty_text_of (codes "address") diagnostic

-- the first line
abbrev pub diagnostic_words : (severity : List ℕ) → (diagnostic : Data) → List ℕ
diagnostic_words severity diagnostic =
    severity_words severity ++ codes ": " ++ summary_words diagnostic
    ++ place_words (address_of diagnostic) (file_of diagnostic) (line_of diagnostic)

-- the empty line between a snippet and a detail
abbrev pub gap_lines : (has_snippet : Bool) → (detail : List (List ℕ)) → List (List ℕ)
gap_lines has_snippet [] = []
gap_lines has_snippet (line ∷ lines) = if has_snippet then [] ∷ [] else []

abbrev pub detail_lines : (has_snippet : Bool) → (detail : List (List ℕ)) → List (List ℕ)
detail_lines has_snippet detail = gap_lines has_snippet detail ++ detail

abbrev pub snippet_part : (snippet : Option Data) → List (List ℕ)
snippet_part snippet = option_map_or snippet_lines snippet []

-- the further lines
abbrev pub body_lines : (diagnostic : Data) → List (List ℕ)
body_lines diagnostic =
    snippet_part (member_of (codes "snippet") diagnostic)
    ++ detail_lines (is_some (member_of (codes "snippet") diagnostic)) (text_lines (text_or_nothing (codes "detail") diagnostic))

-- ---- the row

-- Reads at the address of a diagnostic are open no longer: no message tells the end of a read that
-- failed.
abbrev pub without_reads : (address : Option (List ℕ)) → State → State
without_reads None state = state
without_reads (Some address) state = record state { steps = filter (λ step. not (reads_at address step)) state.steps }

-- the diagnostic, behind the refreshes that were not told before
abbrev pub severity_told : Looks → State → (severity : List ℕ) → (diagnostic : Data) → Told
severity_told looks state severity diagnostic =
    let reported = reported_told looks state in
    record {
      bytes = reported.bytes
          ++ line_at looks reported.state (severity_mark severity) (diagnostic_words severity diagnostic)
          ++ further_lines looks (severity_mark severity) (body_lines diagnostic);
      state = without_reads (address_of diagnostic) reported.state;
    }

-- what is told of a message with a diagnostic; none if it has no severity
abbrev pub diagnostic_told : Looks → State → (tree : Data) → Option Told
diagnostic_told looks state tree =
    member_of (codes "diagnostic") tree
    >>= λ diagnostic. option_map (λ severity. severity_told looks state severity diagnostic) (text_of (codes "severity") diagnostic)
