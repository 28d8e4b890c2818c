-- What the tool `view` does.
use Rattle.std.specs.Prelude.{◌≡◌, ◌≤◌, ◌⊎◌, ⊤, ℕ, List, Bool, true, false, Option, None, Some, IfOk, IfSome, Result, Ok, Err, pos, unwrap_or}
use Rattle.std.specs.Io.KnownBytes.{Keeps}
use Rattle.stream_lines.specs.Cut.{cut_lines}
use Rattle.stream_runs.specs.Counted.{runs_in}
use Rattle.stream_runs.specs.Selected.{IsSelected}
use Rattle.stream_runs.specs.declared.choice.RunChoice.{RunChoice}
use Rattle.stream_runs.specs.declared.fault.RunFault.{RunFault}
use Rattle.stream_runs.specs.declared.fault.RunFault.TheVariants as run
use Rattle.stream_runs.specs.declared.selecting.Run.{Run}
use Rattle.stream_timeline.specs.declared.reading.timeline_fault.TimelineFault.{TimelineFault}
use Rattle.stream_timeline.specs.declared.reading.timeline_fault.TimelineFault.TheVariants as timeline_fault
use Rattle.stream_timeline.specs.declared.reading.time_range.TimeRange.{TimeRange}
use Rattle.stream_timeline.specs.Lines.{IsReadOf}
use Rattle.stream_timeline.specs.Numbers.{IsNumbersOf}
use Rattle.stream_timeline.specs.TimelineRead.{TimelineRead}
use Rattle.stream_view.specs.Json.{JsonWritten}
use Rattle.stream_view.specs.Lines.{LinesWritten}
use Rattle.stream_view.specs.Markdown.{MarkdownWritten}
use Rattle.stream_view.specs.Markup.{SomeSvgWritten, SvgWritten}
use Rattle.stream_view.specs.RowChoices.{AreRowsIn}
use Rattle.stream_view.specs.Texts.{TextWritten}
use Rattle.stream_view.specs.declared.command.colour.Colour.{Colour}
use Rattle.stream_view.specs.declared.command.colour.Colour.TheVariants as colour
use Rattle.stream_view.specs.declared.command.drawn.Drawn.{Drawn}
use Rattle.stream_view.specs.declared.command.settings.Form.{Form}
use Rattle.stream_view.specs.declared.command.settings.Form.TheVariants as form
use Rattle.stream_view.specs.declared.command.picture_fault.PictureFault.{PictureFault}
use Rattle.stream_view.specs.declared.command.picture_fault.PictureFault.TheVariants as fault
use Rattle.stream_view.specs.declared.command.settings.Settings.{Settings}
use Rattle.stream_view.specs.declared.draw_fault.DrawFault.TheVariants as draw_fault
use Rattle.stream_view.specs.declared.picture.Picture.{Picture}
use Rattle.stream_view.specs.declared.row_choice.RowChoice.{RowChoice}

-- the text has colours
abbrev pub is_on : (is_wanted : Bool) → Colour → Bool
is_on is_wanted colour.Auto = is_wanted
is_on is_wanted colour.Always = true
is_on is_wanted colour.Never = false

-- a picture was written
abbrev pub PictureWritten : Form → (is_wanted : Bool) → (before after : Option (List ℕ)) → Type 0
PictureWritten (form.Text width colour) is_wanted before after = LinesWritten width (is_on is_wanted colour) before after
PictureWritten form.Svg is_wanted before after = SomeSvgWritten before after
PictureWritten form.Json is_wanted before after = (picture : Picture) × JsonWritten picture before after
PictureWritten form.Markdown is_wanted before after = (picture : Picture) × MarkdownWritten picture before after

-- What was written: the picture, or nothing if there was no time line. If the drawing failed, what
-- was written is left open.
abbrev pub WasDrawn : {A : Type 0} → Form → (is_wanted : Bool) → (before after : Option (List ℕ)) → Result A PictureFault → Type 0
WasDrawn form is_wanted before after (Ok done) = PictureWritten form is_wanted before after
WasDrawn form is_wanted before after (Err (fault.NoTimeline why)) = Keeps before after
WasDrawn form is_wanted before after (Err (fault.NoRun missing)) = Keeps before after
WasDrawn form is_wanted before after (Err (fault.Undrawn why)) = ⊤

-- the time range of a time line; without a message it begins and ends at 0
abbrev pub time_range_of : TimelineRead → TimeRange
time_range_of timeline = unwrap_or timeline.time_range (record { first = pos 0; last = pos 0 })

-- this picture was written
abbrev pub IsDrawn : Form → (is_wanted : Bool) → Picture → (before after : Option (List ℕ)) → Type 0
IsDrawn (form.Text width colour) is_wanted picture before after = TextWritten width (is_on is_wanted colour) picture before after
IsDrawn form.Svg is_wanted picture before after = SvgWritten picture before after
IsDrawn form.Json is_wanted picture before after = JsonWritten picture before after
IsDrawn form.Markdown is_wanted picture before after = MarkdownWritten picture before after

-- A picture of this time line was written: of its time range, its figures, and the rows that are
-- asked for. So many lines of the input stand before those of the time line.
pub record IsDrawnOf (timeline : TimelineRead) (lines_before : ℕ) (choice : RowChoice) (form : Form) (is_wanted : Bool) (before after : Option (List ℕ)) : Type 0 where
  pub picture : Picture
  pub is_read : picture.timeline.now ≡ timeline
  pub offset : picture.lines_before ≡ lines_before
  pub time_range : picture.time_range ≡ time_range_of timeline
  pub numbers : IsNumbersOf (time_range_of timeline) timeline.steps picture.numbers
  pub rows : AreRowsIn choice.sort (time_range_of timeline) timeline.steps choice.limit picture.rows
  pub drawn : IsDrawn form is_wanted picture before after

-- The result belongs to the lines of these bytes: a picture of their time line, or the reason why
-- there is none.
abbrev pub IsOfStream : {A : Type 0} → (find : Bool) → List ℕ → (lines_before : ℕ) → RowChoice → Form → (is_wanted : Bool)
    → (before after : Option (List ℕ)) → Result A PictureFault → Type 0
IsOfStream find bytes lines_before choice form is_wanted before after (Ok done) =
    (timeline : TimelineRead) × IsReadOf find bytes (Ok timeline) × IsDrawnOf timeline lines_before choice form is_wanted before after
IsOfStream find bytes lines_before choice form is_wanted before after (Err (fault.NoTimeline why)) = IsReadOf find bytes (Err why)
IsOfStream find bytes lines_before choice form is_wanted before after (Err (fault.NoRun missing)) = ⊥
IsOfStream find bytes lines_before choice form is_wanted before after (Err (fault.Undrawn why)) = ⊤

-- why there is no picture of a run
abbrev pub unselected : RunFault → PictureFault
unselected (run.Missing missing) = fault.NoRun missing
unselected (run.TooLong line) = fault.NoTimeline (timeline_fault.TooLong line)
unselected run.TooMany = fault.NoTimeline timeline_fault.TooManyLines
unselected (run.Unread failed) = fault.NoTimeline (timeline_fault.Unread failed)
unselected run.Memory = fault.NoTimeline timeline_fault.Memory

-- the result belongs to the chosen run; or nothing was written, and it says why there is no run
abbrev pub IsOfRun : {A : Type 0} → (find : Bool) → Result Run RunFault → RowChoice → Form → (is_wanted : Bool)
    → (before after : Option (List ℕ)) → Result A PictureFault → Type 0
IsOfRun find (Ok run) choice form is_wanted before after answer =
    IsOfStream find run.bytes.items run.lines_before choice form is_wanted before after answer
IsOfRun find (Err why) choice form is_wanted before after answer = (answer ≡ Err (unselected why)) × Keeps before after

-- the result belongs to the whole input, or to the chosen run of it
abbrev pub IsOfInput : {A : Type 0} → Option RunChoice → (find : Bool) → (given : Option (List ℕ)) → RowChoice → Form → (is_wanted : Bool)
    → (before after : Option (List ℕ)) → Result A PictureFault → Type 0
IsOfInput None find given choice form is_wanted before after answer =
    IfSome given (λ bytes. IsOfStream find bytes 0 choice form is_wanted before after answer)
IsOfInput (Some number) find given choice form is_wanted before after answer =
    (selected : Result Run RunFault) × IfSome given (λ bytes. IsSelected find number bytes selected)
    × IsOfRun find selected choice form is_wanted before after answer

-- What is stated of the runs: how many begin in the input, or that one of them was chosen.
abbrev pub AreRunsOf : Option RunChoice → (find : Bool) → (given : Option (List ℕ)) → Drawn → Type 0
AreRunsOf None find given drawn =
    (runs : ℕ) × (drawn.runs ≡ Some runs) × IfSome given (λ bytes. runs ≡ runs_in find (cut_lines bytes))
AreRunsOf (Some choice) find given drawn = drawn.runs ≡ None

abbrev pub timeline_status_of : TimelineFault → ℕ
timeline_status_of (timeline_fault.TooLong number) = 2
timeline_status_of timeline_fault.TooManyLines = 2
timeline_status_of timeline_fault.TooManySteps = 2
timeline_status_of timeline_fault.NoMessage = 2
timeline_status_of (timeline_fault.Unread failed) = 2
timeline_status_of timeline_fault.Memory = 3

abbrev pub fault_status_of : PictureFault → ℕ
fault_status_of (fault.NoTimeline why) = timeline_status_of why
fault_status_of (fault.NoRun missing) = 2
fault_status_of (fault.Undrawn why) = 3

-- a stream with a file name could not be read
abbrev pub IsUnreadFile : {A : Type 0} → (name : Option A) → PictureFault → Type 0
IsUnreadFile (Some name) (fault.NoTimeline (timeline_fault.Unread failed)) = ⊤
IsUnreadFile name fault = ⊥

-- The exit status of a fault. It is 3 too where memory was refused for the message about a file that
-- could not be read.
abbrev pub IsFaultStatus : {A : Type 0} → (name : Option A) → PictureFault → ℕ → Type 0
IsFaultStatus name fault status = (status ≡ fault_status_of fault) ⊎ ((status ≡ 3) × IsUnreadFile name fault)

-- the exit status: 0 if the picture was written, else that of the fault
abbrev pub IsStatusOf : {A B : Type 0} → (name : Option A) → Result B PictureFault → ℕ → Type 0
IsStatusOf name (Ok done) status = status ≡ 0
IsStatusOf name (Err fault) status = IsFaultStatus name fault status

-- A stream was viewed: what was written, how many runs it has, and the exit status.
pub record HasViewed (is_wanted : Bool) (settings : Settings) (given before after : Option (List ℕ)) (answer : Result Drawn PictureFault)
    (status : ℕ) : Type 0 where
  pub drawn : WasDrawn settings.form is_wanted before after answer
  pub stream : IsOfInput settings.run settings.find given settings.rows settings.form is_wanted before after answer
  pub runs : IfOk answer (AreRunsOf settings.run settings.find given)
  pub reported : IsStatusOf settings.file answer status

-- fewer than two runs begin in the input, or one of them was chosen
abbrev pub HasOneRun : Drawn → Type 0
HasOneRun drawn = IfSome drawn.runs (λ runs. runs ≤ 1)

-- no error is reported: the picture was written, or the reader of the output is gone
abbrev pub IsErrorless : Result Drawn PictureFault → Type 0
IsErrorless (Ok drawn) = ⊤
IsErrorless (Err why) = why ≡ fault.Undrawn draw_fault.Gone

-- Nothing is reported on standard error: no error, and not that several runs were drawn as one. With
-- the exit status 0 no error is reported.
abbrev pub IsQuiet : Result Drawn PictureFault → (status : ℕ) → Type 0
IsQuiet answer status = ((status ≡ 0) ⊎ IsErrorless answer) × IfOk answer HasOneRun
