-- The script of a recording, and of a plan alone.
use Rattle.std.specs.Prelude.{ℕ, List, [], Option, unwrap_or}
use Rattle.apply_model.specs.Script.OutcomeMap.{OutcomeMap}
use Rattle.stream_record.specs.EvenScript.{even_script}
use Rattle.stream_record_stream.specs.Streams.{StreamRead}
use Rattle.stream_record_waits.specs.States.{states_of}
use Rattle.stream_record_script.specs.Recordings.{PlanRead, steps_in}
use Rattle.stream_record_script.specs.Runs.{steps_of_plan}
use Rattle.stream_record_script.specs.Steps.{script_of}
use Rattle.stream_record_cli.specs.Alone.{IsScriptOf}
use Rattle.stream_record_cli.specs.Recorded.{IsScriptOfBytes}
use Rattle.stream_record_cli.specs.declared.command.recording.StreamChoice.{StreamChoice}

-- The script with these waits, whose text `text_with` gives.
abbrev pub recorded_script : PlanRead → StreamRead → (after : List (List ℕ)) → OutcomeMap
recorded_script read stream after =
    script_of read.plan.changes (steps_in read stream) (states_of (steps_of_plan stream.begun (steps_in read stream)) after) after

-- The script of which the text was written.
abbrev pub script_behind : {plan : List ℕ} → {graph : Option (List ℕ)} → {choice : StreamChoice} → {stream text warnings : List ℕ}
    → IsScriptOfBytes plan graph choice stream text warnings → OutcomeMap
script_behind is =
    recorded_script (record { plan = is.saved; note = is.is.note; outputs = is.is.outputs }) is.is.read is.is.is.after

-- The script of a plan alone, of which the text was written.
abbrev pub script_of_plan : {plan : List ℕ} → {graph : Option (List ℕ)} → {text : List ℕ} → IsScriptOf plan graph text → OutcomeMap
script_of_plan is = even_script is.saved.changes (unwrap_or is.waits [])
