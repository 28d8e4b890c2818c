-- Why a stream gives no script, and which it gives.
use Rattle.std.proofs.Common.{◌≡◌, ℕ, List, Option, None, Some, Ok, inl, inr, refl, subst, sym}
use Rattle.std.specs.Prelude.{IfSome}
use Rattle.apply_model.specs.Plan.SavedPlan.{SavedPlan}
use Rattle.apply_plan.specs.Plan.SavedPlan.{plan_of}
use Rattle.apply_plan_terraform.specs.Outputs.{OutputsOfPlan}
use Rattle.apply_plan_terraform.specs.declared.plan_notes.PlanNote.{PlanNote}
use Rattle.stream_record_script.specs.Recordings.{IsNotRecorded, IsRecorded}
use Rattle.stream_record_script.specs.declared.recording_fault.RecordingFault.{RecordingFault}
use Rattle.stream_record_script.specs.declared.recording_fault.RecordingFault.TheVariants as recording
use Rattle.stream_record_stream.specs.Streams.{StreamRead}
use Rattle.stream_record_stream.specs.declared.stream_fault.StreamFault.{StreamFault}
use Rattle.stream_record_stream.specs.declared.stream_fault.StreamFault.TheVariants as stream_fault
use Rattle.stream_runs.specs.declared.fault.RunFault.{RunFault}
use Rattle.stream_runs.specs.declared.fault.RunFault.TheVariants as run_fault
use Rattle.stream_record_cli.specs.Causes.{of_recording_fault, of_run_fault, of_stream_fault}
use Rattle.stream_record_cli.specs.Graphs.{AreWaitsIn, IsWaitsFault}
use Rattle.stream_record_cli.specs.Plans.{HasDetails, IsPlanFault}
use Rattle.stream_record_cli.specs.Recorded.{IsOfStream, IsRecording, IsRefused, IsRefusedBehind, IsScriptOfStream, IsStreamRefused}
use Rattle.stream_record_cli.specs.StreamsRead.{IsRead, IsReadCause, IsUnread}
use Rattle.stream_record_cli.specs.declared.command.recording.StreamChoice.{StreamChoice}
use Rattle.stream_record_cli.specs.declared.record_fault.RecordFault.{RecordFault}
use Rattle.stream_record_cli.specs.declared.record_fault.RecordFault.TheVariants as fault

-- ---- the plan, then the graph

pub planless : (plan : List ℕ) (graph : Option (List ℕ)) (choice : StreamChoice) (stream : Option (List ℕ)) (why : RecordFault)
    → IsPlanFault plan why → IsRefused plan graph choice stream why
planless plan graph choice stream (fault.Input why) refused = absurd refused
planless plan graph choice stream (fault.Plan why) refused = refused
planless plan graph choice stream (fault.Graph why) refused = absurd refused
planless plan graph choice stream (fault.Stream why) refused = absurd refused
planless plan graph choice stream (fault.NoRun missing) refused = absurd refused
planless plan graph choice stream fault.TooLarge refused = absurd refused
planless plan graph choice stream fault.Memory refused = tt
planless plan graph choice stream fault.Gone refused = absurd refused
planless plan graph choice stream fault.Unwritten refused = absurd refused

pub graphless : (plan : List ℕ) (saved : SavedPlan) (graph : List ℕ) (choice : StreamChoice) (stream : Option (List ℕ)) (why : RecordFault)
    → plan_of plan ≡ Ok saved → IsWaitsFault saved.changes graph why → IsRefused plan (Some graph) choice stream why
graphless plan saved graph choice stream (fault.Input why) read refused = absurd refused
graphless plan saved graph choice stream (fault.Plan why) read refused = absurd refused
graphless plan saved graph choice stream (fault.Graph why) read refused = inl (saved, read, refused)
graphless plan saved graph choice stream (fault.Stream why) read refused = absurd refused
graphless plan saved graph choice stream (fault.NoRun missing) read refused = absurd refused
graphless plan saved graph choice stream fault.TooLarge read refused = absurd refused
graphless plan saved graph choice stream fault.Memory read refused = tt
graphless plan saved graph choice stream fault.Gone read refused = absurd refused
graphless plan saved graph choice stream fault.Unwritten read refused = absurd refused

-- ---- the parts

pub read_causes : (why : RecordFault) → IsReadCause why → IsOfStream why
read_causes (fault.Input why) of = absurd of
read_causes (fault.Plan why) of = absurd of
read_causes (fault.Graph why) of = absurd of
read_causes (fault.Stream why) of = tt
read_causes (fault.NoRun missing) of = tt
read_causes fault.TooLarge of = absurd of
read_causes fault.Memory of = tt
read_causes fault.Gone of = absurd of
read_causes fault.Unwritten of = absurd of

pub recording_causes : (given : RecordingFault) → IsOfStream (of_recording_fault given)
recording_causes recording.TooManyWaits = tt
recording_causes recording.TooLarge = tt
recording_causes recording.Memory = tt

pub stream_causes : (given : StreamFault) → IsReadCause (of_stream_fault given)
stream_causes (stream_fault.VersionAgain line first runs) = tt
stream_causes (stream_fault.NoMessage is_log) = tt
stream_causes stream_fault.NoStepOfPlan = tt
stream_causes (stream_fault.TooLong line) = tt
stream_causes stream_fault.TooMany = tt
stream_causes (stream_fault.Unread failed) = tt
stream_causes stream_fault.Memory = tt

pub run_causes : (given : RunFault) → IsReadCause (of_run_fault given)
run_causes (run_fault.Missing missing) = tt
run_causes (run_fault.TooLong line) = tt
run_causes run_fault.TooMany = tt
run_causes (run_fault.Unread failed) = tt
run_causes run_fault.Memory = tt

module _ (plan : List ℕ) (saved : SavedPlan) (waits : Option (List (List ℕ))) (choice : StreamChoice) where
  unread_some : (bytes : List ℕ) (why : RecordFault) → IsReadCause why → IsUnread saved choice.find choice.run bytes why
      → IsStreamRefused plan saved waits choice bytes why
  unread_some bytes (fault.Input why) of is = absurd of
  unread_some bytes (fault.Plan why) of is = absurd of
  unread_some bytes (fault.Graph why) of is = absurd of
  unread_some bytes (fault.Stream why) of is = is
  unread_some bytes (fault.NoRun missing) of is = is
  unread_some bytes fault.TooLarge of is = absurd of
  unread_some bytes fault.Memory of is = tt
  unread_some bytes fault.Gone of is = absurd of
  unread_some bytes fault.Unwritten of is = absurd of

  -- the stream was not read
  pub unread : (stream : Option (List ℕ)) (why : RecordFault) → IsReadCause why → IfSome stream (λ bytes. IsUnread saved choice.find choice.run bytes why)
      → IfSome stream (λ bytes. IsStreamRefused plan saved waits choice bytes why)
  unread None why of is = tt
  unread (Some bytes) why of is = unread_some bytes why of is

  -- memory was refused
  pub forgotten : (stream : Option (List ℕ)) (why : RecordFault) → why ≡ fault.Memory → IfSome stream (λ bytes. IsStreamRefused plan saved waits choice bytes why)
  forgotten None why is = tt
  forgotten (Some bytes) why is = subst (IsStreamRefused plan saved waits choice bytes) (sym is) tt

  module _ (note : Option PlanNote) (outputs : OutputsOfPlan) (read : StreamRead) (details : HasDetails plan note outputs) where
    pub recorded : (stream : Option (List ℕ)) (text warnings : List ℕ) → IfSome stream (λ bytes. IsRead saved choice.find choice.run bytes read)
        → IsRecorded (record { plan = saved; note = note; outputs = outputs }) waits choice.wishes read (Ok text) warnings
        → IfSome stream (λ bytes. IsRecording plan saved waits choice bytes text warnings)
    recorded None text warnings was_read is = tt
    recorded (Some bytes) text warnings was_read is =
        record { note = note; outputs = outputs; read = read; parts = record { details = details; was_read = was_read }; is = is }

    overfull : (bytes : List ℕ) (given : RecordingFault) → IsRead saved choice.find choice.run bytes read
        → IsNotRecorded (record { plan = saved; note = note; outputs = outputs }) waits choice.wishes read given
        → IsStreamRefused plan saved waits choice bytes (of_recording_fault given)
    overfull bytes recording.TooManyWaits was_read is =
        (refl, record { note = note; outputs = outputs; read = read; parts = record { details = details; was_read = was_read }; is = is })
    overfull bytes recording.TooLarge was_read is =
        record { note = note; outputs = outputs; read = read; parts = record { details = details; was_read = was_read }; is = is }
    overfull bytes recording.Memory was_read is = tt

    pub unrecorded : (stream : Option (List ℕ)) (given : RecordingFault) (why : RecordFault) → why ≡ of_recording_fault given
        → IfSome stream (λ bytes. IsRead saved choice.find choice.run bytes read)
        → IsNotRecorded (record { plan = saved; note = note; outputs = outputs }) waits choice.wishes read given
        → IfSome stream (λ bytes. IsStreamRefused plan saved waits choice bytes why)
    unrecorded None given why of was_read is = tt
    unrecorded (Some bytes) given why of was_read is =
        subst (IsStreamRefused plan saved waits choice bytes) (sym of) (overfull bytes given was_read is)

-- ---- with a plan and waits that were read

module _ (plan : List ℕ) (graph : Option (List ℕ)) (choice : StreamChoice) (saved : SavedPlan) (waits : Option (List (List ℕ)))
    (read : plan_of plan ≡ Ok saved) (stated : AreWaitsIn saved.changes graph waits) where
  pub scripted : (stream : Option (List ℕ)) (text warnings : List ℕ) → IfSome stream (λ bytes. IsRecording plan saved waits choice bytes text warnings)
      → IsScriptOfStream plan graph choice stream text warnings
  scripted None text warnings is = tt
  scripted (Some bytes) text warnings is = record { saved = saved; read = read; waits = waits; stated = stated; is = is }

  behind : (bytes : List ℕ) (why : RecordFault) → IsStreamRefused plan saved waits choice bytes why → IsRefusedBehind plan graph choice bytes why
  behind bytes why refused = record { saved = saved; read = read; waits = waits; stated = stated; refused = refused }

  refused_some : (bytes : List ℕ) (why : RecordFault) → IsStreamRefused plan saved waits choice bytes why → IsRefused plan graph choice (Some bytes) why
  refused_some bytes (fault.Input why) refused = absurd refused
  refused_some bytes (fault.Plan why) refused = absurd refused
  refused_some bytes (fault.Graph why) refused = inr (behind bytes (fault.Graph why) refused)
  refused_some bytes (fault.Stream why) refused = behind bytes (fault.Stream why) refused
  refused_some bytes (fault.NoRun missing) refused = behind bytes (fault.NoRun missing) refused
  refused_some bytes fault.TooLarge refused = behind bytes fault.TooLarge refused
  refused_some bytes fault.Memory refused = tt
  refused_some bytes fault.Gone refused = absurd refused
  refused_some bytes fault.Unwritten refused = absurd refused

  -- nothing is known of the bytes, but that these causes are of no stream
  refused_none : (why : RecordFault) → IsOfStream why → IsRefused plan graph choice None why
  refused_none (fault.Input why) of = absurd of
  refused_none (fault.Plan why) of = absurd of
  refused_none (fault.Graph why) of = inr tt
  refused_none (fault.Stream why) of = tt
  refused_none (fault.NoRun missing) of = tt
  refused_none fault.TooLarge of = tt
  refused_none fault.Memory of = tt
  refused_none fault.Gone of = absurd of
  refused_none fault.Unwritten of = absurd of

  pub refused : (stream : Option (List ℕ)) (why : RecordFault) → IsOfStream why → IfSome stream (λ bytes. IsStreamRefused plan saved waits choice bytes why)
      → IsRefused plan graph choice stream why
  refused None why of is = refused_none why of
  refused (Some bytes) why of is = refused_some bytes why is
