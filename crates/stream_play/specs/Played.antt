-- What playing writes.
use Rattle.std.specs.Prelude.{◌≡◌, ◌≢◌, ◌<◌, ◌++◌, ◌-◌, ◌^◌, ℕ, List, [], ◌∷◌, Bool, if◌then◌else◌, length, take, ⊤, Option, Result, Ok, Err}
use Rattle.std.specs.Io.KnownBytes.{Appends, Keeps}
use Rattle.stream_lines.specs.Cut.{after_lines, cut_lines, line_at}
use Rattle.stream_lines.specs.Limits.{max_bytes}
use Rattle.stream_lines.specs.declared.line_fault.LineFault.{LineFault}
use Rattle.stream_lines.specs.declared.line_fault.LineFault.TheVariants as of
use Rattle.stream_message.specs.Located.{found_line}
use Rattle.stream_runs.specs.declared.fault.RunFault.{RunFault}
use Rattle.stream_runs.specs.declared.fault.RunFault.TheVariants as run
use Rattle.stream_tool.specs.declared.writing.WriteFault.{WriteFault}
use Rattle.stream_tool.specs.declared.writing.WriteFault.TheVariants as write
use Rattle.stream_play.specs.declared.play_fault.PlayFault.{PlayFault}
use Rattle.stream_play.specs.declared.play_fault.PlayFault.TheVariants as play

-- a failed read of a line ends the playing with the same fault
abbrev pub as_play_fault : LineFault → PlayFault
as_play_fault (of.Unread failed) = play.Unread failed
as_play_fault of.Memory = play.Memory

-- why no run could be played
abbrev pub unselected : RunFault → PlayFault
unselected (run.Missing missing) = play.NoRun missing
unselected (run.TooLong line) = play.TooLong line
unselected run.TooMany = play.TooMany
unselected (run.Unread failed) = play.Unread failed
unselected run.Memory = play.Memory

-- a failed write or flush ends the playing with the same fault
abbrev pub write_fault : WriteFault → PlayFault
write_fault write.Gone = play.Gone
write_fault write.Unwritten = play.Unwritten

abbrev pub found_lines : List (List ℕ) → List ℕ
found_lines [] = []
found_lines (line ∷ lines) = found_line line ++ found_lines lines

-- what is written of a line, which may end in a line feed
abbrev pub written_of : (find : Bool) → List ℕ → (has_feed : Bool) → List ℕ
written_of find line feed = if find then found_line line else line ++ (if feed then 10 ∷ [] else [])

-- what is written of a stream: its bytes, or the messages that are found in its lines
abbrev pub output_of : (find : Bool) → List ℕ → List ℕ
output_of find bytes = if find then found_lines (cut_lines bytes) else bytes

-- What the first `count` lines give was written whole, and nothing else.
pub record LinesWritten (find : Bool) (bytes : List ℕ) (count : ℕ) (before after : Option (List ℕ)) : Type 0 where
  pub lines : List ℕ
  pub cut : output_of find bytes ≡ lines ++ output_of find (after_lines count bytes)
  pub written : Appends before after lines

-- The greatest number of lines was written, and the last of them exists.
pub record TooManyWritten (find : Bool) (bytes : List ℕ) (before after : Option (List ℕ)) : Type 0 where
  pub count : ℕ
  pub most : count ≡ 2 ^ 64 - 1
  pub last : after_lines (count - 1) bytes ≢ []
  pub written : LinesWritten find bytes count before after

-- a front of the output was written: whole lines, and a part of one
pub record FrontWritten (find : Bool) (bytes : List ℕ) (before after : Option (List ℕ)) : Type 0 where
  pub front : List ℕ
  pub rest : List ℕ
  pub cut : output_of find bytes ≡ front ++ rest
  pub written : Appends before after front

-- What was written of the stream: all of it, or a front. A fault of reading leaves whole lines; a
-- failed write may leave a part of a line.
abbrev pub IsPlayed : (find : Bool) → List ℕ → (before after : Option (List ℕ)) → Result Unit PlayFault → Type 0
IsPlayed find bytes before after (Ok done) = Appends before after (output_of find bytes)
IsPlayed find bytes before after (Err (play.TooLong number)) =
    LinesWritten find bytes (number - 1) before after × (max_bytes < length (line_at number bytes))
IsPlayed find bytes before after (Err play.TooMany) = TooManyWritten find bytes before after
IsPlayed find bytes before after (Err (play.NoRun missing)) = ⊥
IsPlayed find bytes before after (Err (play.Unread failed)) = (count : ℕ) × LinesWritten find bytes count before after
IsPlayed find bytes before after (Err play.Memory) = (count : ℕ) × LinesWritten find bytes count before after
IsPlayed find bytes before after (Err play.Gone) = FrontWritten find bytes before after
IsPlayed find bytes before after (Err play.Unwritten) = FrontWritten find bytes before after

-- What was written of one line: all of it, a part where a write failed, or nothing where memory was
-- refused.
abbrev pub IsLineWritten : List ℕ → (before after : Option (List ℕ)) → Result Unit PlayFault → Type 0
IsLineWritten line before after (Ok done) = Appends before after line
IsLineWritten line before after (Err (play.TooLong number)) = ⊥
IsLineWritten line before after (Err play.TooMany) = ⊥
IsLineWritten line before after (Err (play.NoRun missing)) = ⊥
IsLineWritten line before after (Err (play.Unread failed)) = ⊥
IsLineWritten line before after (Err play.Memory) = Keeps before after
IsLineWritten line before after (Err play.Gone) = (n : ℕ) × Appends before after (take n line)
IsLineWritten line before after (Err play.Unwritten) = (n : ℕ) × Appends before after (take n line)

-- a line could not be read, or the output before it could not be flushed
abbrev pub IsReadFault : PlayFault → Type 0
IsReadFault (play.TooLong number) = ⊥
IsReadFault play.TooMany = ⊥
IsReadFault (play.NoRun missing) = ⊥
IsReadFault (play.Unread failed) = ⊤
IsReadFault play.Memory = ⊤
IsReadFault play.Gone = ⊤
IsReadFault play.Unwritten = ⊤
