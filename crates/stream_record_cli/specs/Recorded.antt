-- The script of a stream, by the bytes of the plan, the graph and the stream.
use Rattle.std.specs.Prelude.{◌≡◌, ◌⊎◌, ⊤, ℕ, List, Option, IfSome, Ok, Err}
use Rattle.apply_model.specs.Plan.SavedPlan.{SavedPlan}
use Rattle.apply_plan.specs.Plan.SavedPlan.{plan_of}
use Rattle.apply_plan_terraform.specs.Outputs.{OutputsOfPlan}
use Rattle.apply_plan_terraform.specs.declared.plan_notes.PlanNote.{PlanNote}
use Rattle.stream_record_script.specs.Recordings.{IsNotRecorded, IsRecorded}
use Rattle.stream_record_script.specs.declared.recording_fault.RecordingFault.{RecordingFault}
use Rattle.stream_record_script.specs.declared.recording_fault.RecordingFault.TheVariants as recording
use Rattle.stream_record_stream.specs.Streams.{StreamRead}
use Rattle.stream_record_cli.specs.Graphs.{AreWaitsIn, IsGraphRefused}
use Rattle.stream_record_cli.specs.Plans.{HasDetails}
use Rattle.stream_record_cli.specs.StreamsRead.{IsRead, IsUnread}
use Rattle.stream_record_cli.specs.declared.command.recording.StreamChoice.{StreamChoice}
use Rattle.stream_record_cli.specs.declared.graph_refusal.GraphRefusal.{GraphRefusal}
use Rattle.stream_record_cli.specs.declared.graph_refusal.GraphRefusal.TheVariants as refusal
use Rattle.stream_record_cli.specs.declared.record_fault.RecordFault.{RecordFault}
use Rattle.stream_record_cli.specs.declared.record_fault.RecordFault.TheVariants as fault

-- ---- with a plan and waits that were read

-- The plan's bytes and those of the stream were read as the parts of a recording.
pub record AreParts (bytes : List ℕ) (plan : SavedPlan) (choice : StreamChoice) (stream : List ℕ)
    (note : Option PlanNote) (outputs : OutputsOfPlan) (read : StreamRead) : Type 0 where
  pub details : HasDetails bytes note outputs
  pub was_read : IsRead plan choice.find choice.run stream read

-- The text of the script, and the warnings.
pub record IsRecording (bytes : List ℕ) (plan : SavedPlan) (waits : Option (List (List ℕ))) (choice : StreamChoice) (stream : List ℕ)
    (text warnings : List ℕ) : Type 0 where
  pub note : Option PlanNote
  pub outputs : OutputsOfPlan
  pub read : StreamRead
  pub parts : AreParts bytes plan choice stream note outputs read
  pub is : IsRecorded (record { plan = plan; note = note; outputs = outputs }) waits choice.wishes read (Ok text) warnings

-- The steps have too many waits after waits were replaced, or the script would be too large.
pub record IsOverfull (bytes : List ℕ) (plan : SavedPlan) (waits : Option (List (List ℕ))) (choice : StreamChoice) (stream : List ℕ)
    (why : RecordingFault) : Type 0 where
  pub note : Option PlanNote
  pub outputs : OutputsOfPlan
  pub read : StreamRead
  pub parts : AreParts bytes plan choice stream note outputs read
  pub is : IsNotRecorded (record { plan = plan; note = note; outputs = outputs }) waits choice.wishes read why

-- Why there is no script of the stream. Refused memory is left open.
abbrev pub IsStreamRefused : (bytes : List ℕ) → SavedPlan → (waits : Option (List (List ℕ))) → StreamChoice → (stream : List ℕ) → RecordFault → Type 0
IsStreamRefused bytes plan waits choice stream (fault.Input why) = ⊥
IsStreamRefused bytes plan waits choice stream (fault.Plan why) = ⊥
IsStreamRefused bytes plan waits choice stream (fault.Graph why) =
    (why ≡ refusal.TooManyWaits) × IsOverfull bytes plan waits choice stream recording.TooManyWaits
IsStreamRefused bytes plan waits choice stream (fault.Stream why) = IsUnread plan choice.find choice.run stream (fault.Stream why)
IsStreamRefused bytes plan waits choice stream (fault.NoRun missing) = IsUnread plan choice.find choice.run stream (fault.NoRun missing)
IsStreamRefused bytes plan waits choice stream fault.TooLarge = IsOverfull bytes plan waits choice stream recording.TooLarge
IsStreamRefused bytes plan waits choice stream fault.Memory = ⊤
IsStreamRefused bytes plan waits choice stream fault.Gone = ⊥
IsStreamRefused bytes plan waits choice stream fault.Unwritten = ⊥

-- For such causes a stream gives no script.
abbrev pub IsOfStream : RecordFault → Type 0
IsOfStream (fault.Input why) = ⊥
IsOfStream (fault.Plan why) = ⊥
IsOfStream (fault.Graph why) = ⊤
IsOfStream (fault.Stream why) = ⊤
IsOfStream (fault.NoRun missing) = ⊤
IsOfStream fault.TooLarge = ⊤
IsOfStream fault.Memory = ⊤
IsOfStream fault.Gone = ⊥
IsOfStream fault.Unwritten = ⊥

-- ---- by the bytes of all

-- The script and the warnings of these bytes.
pub record IsScriptOfBytes (plan : List ℕ) (graph : Option (List ℕ)) (choice : StreamChoice) (stream : List ℕ) (text warnings : List ℕ) : Type 0 where
  pub saved : SavedPlan
  pub read : plan_of plan ≡ Ok saved
  pub waits : Option (List (List ℕ))
  pub stated : AreWaitsIn saved.changes graph waits
  pub is : IsRecording plan saved waits choice stream text warnings

-- The same, where the bytes of the stream are known.
abbrev pub IsScriptOfStream : (plan : List ℕ) → (graph : Option (List ℕ)) → StreamChoice → (stream : Option (List ℕ)) → (text warnings : List ℕ) → Type 0
IsScriptOfStream plan graph choice stream text warnings =
    IfSome stream (λ bytes. IsScriptOfBytes plan graph choice bytes text warnings)

-- The plan and the graph were read, and the stream is refused.
pub record IsRefusedBehind (plan : List ℕ) (graph : Option (List ℕ)) (choice : StreamChoice) (stream : List ℕ) (why : RecordFault) : Type 0 where
  pub saved : SavedPlan
  pub read : plan_of plan ≡ Ok saved
  pub waits : Option (List (List ℕ))
  pub stated : AreWaitsIn saved.changes graph waits
  pub refused : IsStreamRefused plan saved waits choice stream why

-- The graph is refused.
abbrev pub IsGraphOfPlanRefused : (plan : List ℕ) → (graph : Option (List ℕ)) → GraphRefusal → Type 0
IsGraphOfPlanRefused plan graph why = (saved : SavedPlan) × (plan_of plan ≡ Ok saved) × IsGraphRefused saved.changes graph why

-- Why there is no script. The plan comes first, then the graph, then the stream. Refused memory is
-- left open.
abbrev pub IsRefused : (plan : List ℕ) → (graph : Option (List ℕ)) → StreamChoice → (stream : Option (List ℕ)) → RecordFault → Type 0
IsRefused plan graph choice stream (fault.Input why) = ⊥
IsRefused plan graph choice stream (fault.Plan why) = plan_of plan ≡ Err why
IsRefused plan graph choice stream (fault.Graph why) =
    IsGraphOfPlanRefused plan graph why ⊎ IfSome stream (λ bytes. IsRefusedBehind plan graph choice bytes (fault.Graph why))
IsRefused plan graph choice stream (fault.Stream why) = IfSome stream (λ bytes. IsRefusedBehind plan graph choice bytes (fault.Stream why))
IsRefused plan graph choice stream (fault.NoRun missing) = IfSome stream (λ bytes. IsRefusedBehind plan graph choice bytes (fault.NoRun missing))
IsRefused plan graph choice stream fault.TooLarge = IfSome stream (λ bytes. IsRefusedBehind plan graph choice bytes fault.TooLarge)
IsRefused plan graph choice stream fault.Memory = ⊤
IsRefused plan graph choice stream fault.Gone = ⊥
IsRefused plan graph choice stream fault.Unwritten = ⊥
