-- A checker's verdict on messages, and on the objects that they are read from.
use Rattle.std.specs.Prelude.{List, [], ◌∷◌, Bool, false, Result, Ok}
use Rattle.serde_json.specs.Data.{Data}
use Rattle.stream_check.specs.declared.rules.fault.Fault.{Fault}
use Rattle.stream_check.specs.declared.rules.mode.Mode.{Mode}
use Rattle.stream_check.specs.declared.verdict.whole.Whole.{Whole}
use Rattle.stream_check.specs.Lines.{end_of, next, read_tree}
use Rattle.stream_check.specs.Message.{Message}
use Rattle.stream_check.specs.Results.{◌>>=◌}

-- each line is a message; `plans` states whether the stream of a plan is whole, too
abbrev pub plain : (plans : Bool) → Mode
plain plans = record { find = false; plan = plans; lines_before = 0 }

-- the earlier messages and these, the latest first, or the first fault
abbrev pub with_all : (earlier : List Message) → List Message → Result (List Message) Fault
with_all earlier [] = Ok earlier
with_all earlier (message ∷ messages) = next earlier message >>= λ later. with_all later messages

-- the verdict on the messages of a whole stream, or the first fault
abbrev pub verdict_on : Mode → List Message → Result Whole Fault
verdict_on mode messages = with_all [] messages >>= end_of mode

-- the earlier messages and those of these objects, the latest first, or the first fault
abbrev pub with_objects : (find : Bool) → (earlier : List Message) → List Data → Result (List Message) Fault
with_objects find earlier [] = Ok earlier
with_objects find earlier (first ∷ objects) = read_tree find earlier first >>= λ later. with_objects find later objects

-- the verdict on the objects of a whole stream, or the first fault
abbrev pub verdict_on_objects : Mode → List Data → Result Whole Fault
verdict_on_objects mode objects = with_objects mode.find [] objects >>= end_of mode
