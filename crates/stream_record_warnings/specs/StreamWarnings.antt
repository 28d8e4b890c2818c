-- Warnings about a stream as a whole.
use Rattle.std.specs.Prelude.{ℕ, ◌-◌, List, [], ◌++◌, codes, nat_lt, Bool, true, false, if◌then◌else◌, Option, None, Some, is_some}
use Rattle.std.specs.Fmt.{decimal}
use Rattle.std.specs.List.{flat_map}
use Rattle.stream_record_lines.specs.declared.summary.Summary.{Summary}
use Rattle.stream_record_lines.specs.declared.summary.Summary.TheVariants.{Plan, Apply, Destroy}
use Rattle.stream_record_steps.specs.declared.strays.Stray.{Stray}
use Rattle.stream_record_steps.specs.declared.tally.Tally.{Tally}
use Rattle.stream_record_stream.specs.Streams.{StreamRead, cut_off_at}
use Rattle.stream_record_warnings.specs.Lines.{line_warning, warning}
use Rattle.stream_record_warnings.specs.Names.{kind_at}

-- How many lines there are besides the first.
abbrev pub others_words : (more : List ℕ) → (count : ℕ) → List ℕ
others_words more count = if nat_lt 1 count then codes ", and " ++ (decimal (count - 1) ++ more) else []

-- A warning about lines, of which this is the first and that many are there.
abbrev pub lines_warning : (one more : List ℕ) → (count : ℕ) → (first : Option ℕ) → List ℕ
lines_warning one more count None = []
lines_warning one more count (Some first) = line_warning first (one ++ others_words more count)

abbrev pub tally_warning : (one more : List ℕ) → Tally → List ℕ
tally_warning one more tally = lines_warning one more tally.count tally.first

-- A warning about a start of no step of the plan.
abbrev pub stray_warning : Stray → List ℕ
stray_warning stray = line_warning stray.line (codes ": the " ++ (kind_at stray.kind stray.address ++ codes " is no step of the plan"))

abbrev pub stray_warnings : List Stray → List ℕ
stray_warnings strays = flat_map stray_warning strays

-- A warning about ephemeral resources, of which this is the first line.
abbrev pub ephemeral_warning : (line : Option ℕ) → List ℕ
ephemeral_warning None = []
ephemeral_warning (Some line) = line_warning line (codes ": ephemeral resources can't be told")

-- A warning where the stream was cut off.
abbrev pub cut_off_warning : (is_cut_off : Bool) → List ℕ
cut_off_warning true = warning (codes "the stream has neither a summary nor an error: it was cut off, and what had not begun is skipped")
cut_off_warning false = []

-- The summary is that of a destroy.
abbrev pub is_destroy : Option Summary → Bool
is_destroy None = false
is_destroy (Some Plan) = false
is_destroy (Some Apply) = false
is_destroy (Some Destroy) = true

-- A warning where the summary is that of a destroy.
abbrev pub destroy_warning : (is_destroy : Bool) → List ℕ
destroy_warning true = warning (codes "the stream is that of a destroy, which takes --destroy")
destroy_warning false = []

-- A warning where more steps were under way at once than lanes are there.
abbrev pub most_warning : (lanes most : ℕ) → List ℕ
most_warning lanes most =
    if nat_lt lanes most then warning (decimal most ++ (codes " steps are under way at once, which takes --parallelism " ++ decimal most))
    else []

-- All warnings about a stream as a whole.
abbrev pub stream_warnings : (lanes : ℕ) → StreamRead → List ℕ
stream_warnings lanes stream =
    tally_warning (codes " is not a message") (codes " more are none") stream.no_message
    ++ (stray_warnings stream.begun.strays
    ++ (tally_warning (codes " tells of no step that is under way") (codes " more do") stream.begun.odd
    ++ (ephemeral_warning stream.ephemeral
    ++ (cut_off_warning (is_some (cut_off_at stream))
    ++ (destroy_warning (is_destroy stream.summary) ++ most_warning lanes stream.begun.most)))))
