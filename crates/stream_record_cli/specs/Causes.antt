-- Why no script was written.
use Rattle.std.specs.Prelude.{◌≡◌, ◌⊎◌, ℕ}
use Rattle.input_graph.specs.declared.graph_fault.GraphFault.{GraphFault}
use Rattle.input_graph.specs.declared.graph_fault.GraphFault.TheVariants as graph
use Rattle.input_graph.specs.declared.waits_fault.WaitsFault.{WaitsFault}
use Rattle.input_graph.specs.declared.waits_fault.WaitsFault.TheVariants as waits
use Rattle.stream_record.specs.declared.script_fault.ScriptFault.{ScriptFault}
use Rattle.stream_record.specs.declared.script_fault.ScriptFault.TheVariants as script
use Rattle.stream_record_script.specs.declared.recording_fault.RecordingFault.{RecordingFault}
use Rattle.stream_record_script.specs.declared.recording_fault.RecordingFault.TheVariants as recording
use Rattle.stream_record_stream.specs.declared.stream_fault.StreamFault.{StreamFault}
use Rattle.stream_record_stream.specs.declared.stream_fault.StreamFault.TheVariants as stream
use Rattle.stream_runs.specs.declared.fault.RunFault.{RunFault}
use Rattle.stream_runs.specs.declared.fault.RunFault.TheVariants as run
use Rattle.stream_tool.specs.declared.writing.WriteFault.{WriteFault}
use Rattle.stream_tool.specs.declared.writing.WriteFault.TheVariants as write
use Rattle.stream_record_cli.specs.declared.graph_refusal.GraphRefusal.TheVariants as refusal
use Rattle.stream_record_cli.specs.declared.record_fault.RecordFault.{RecordFault}
use Rattle.stream_record_cli.specs.declared.record_fault.RecordFault.TheVariants as fault

-- The graph was not read.
abbrev pub of_graph_fault : GraphFault → RecordFault
of_graph_fault graph.TooLarge = fault.Graph refusal.TooLarge
of_graph_fault (graph.NeitherNodeNorEdge line) = fault.Graph (refusal.Neither line)
of_graph_fault (graph.NotOfPlan line) = fault.Graph (refusal.NotOfPlan line)
of_graph_fault graph.NoGraph = fault.Graph refusal.NoGraph
of_graph_fault graph.NoNode = fault.Graph refusal.NoNode
of_graph_fault graph.Memory = fault.Memory

-- The graph gives no waits.
abbrev pub of_waits_fault : WaitsFault → RecordFault
of_waits_fault (waits.NoNode step) = fault.Graph (refusal.LacksStep step)
of_waits_fault (waits.Circle node) = fault.Graph refusal.Circle
of_waits_fault waits.TooMany = fault.Graph refusal.TooManyWaits
of_waits_fault waits.Memory = fault.Memory

-- The stream was not read.
abbrev pub of_stream_fault : StreamFault → RecordFault
of_stream_fault (stream.VersionAgain line first runs) = fault.Stream (stream.VersionAgain line first runs)
of_stream_fault (stream.NoMessage is_log) = fault.Stream (stream.NoMessage is_log)
of_stream_fault stream.NoStepOfPlan = fault.Stream stream.NoStepOfPlan
of_stream_fault (stream.TooLong line) = fault.Stream (stream.TooLong line)
of_stream_fault stream.TooMany = fault.Stream stream.TooMany
of_stream_fault (stream.Unread failed) = fault.Stream (stream.Unread failed)
of_stream_fault stream.Memory = fault.Memory

-- No run was selected.
abbrev pub of_run_fault : RunFault → RecordFault
of_run_fault (run.Missing missing) = fault.NoRun missing
of_run_fault (run.TooLong line) = fault.Stream (stream.TooLong line)
of_run_fault run.TooMany = fault.Stream stream.TooMany
of_run_fault (run.Unread failed) = fault.Stream (stream.Unread failed)
of_run_fault run.Memory = fault.Memory

-- No script was made.
abbrev pub of_script_fault : ScriptFault → RecordFault
of_script_fault script.TooLarge = fault.TooLarge
of_script_fault script.Memory = fault.Memory

abbrev pub of_recording_fault : RecordingFault → RecordFault
of_recording_fault recording.TooManyWaits = fault.Graph refusal.TooManyWaits
of_recording_fault recording.TooLarge = fault.TooLarge
of_recording_fault recording.Memory = fault.Memory

-- A write or a flush failed.
abbrev pub as_record_fault : WriteFault → RecordFault
as_record_fault write.Gone = fault.Gone
as_record_fault write.Unwritten = fault.Unwritten

-- The exit status for this cause.
abbrev pub fault_status_of : RecordFault → ℕ
fault_status_of (fault.Input why) = 2
fault_status_of (fault.Plan why) = 2
fault_status_of (fault.Graph why) = 2
fault_status_of (fault.Stream why) = 2
fault_status_of (fault.NoRun missing) = 2
fault_status_of fault.TooLarge = 2
fault_status_of fault.Memory = 3
fault_status_of fault.Gone = 3
fault_status_of fault.Unwritten = 3

-- For a file that could not be read it is 3 where memory was refused for the message.
abbrev pub IsStatusOf : RecordFault → (status : ℕ) → Type 0
IsStatusOf (fault.Stream (stream.Unread failed)) status = (status ≡ 2) ⊎ (status ≡ 3)
IsStatusOf why status = status ≡ fault_status_of why
