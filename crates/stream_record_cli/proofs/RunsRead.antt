-- What is read of a chosen run.
use Rattle.std.proofs.Common.{◌≡◌, ℕ, Bool, List, Option, None, Some, Ok, Err, inl, inr}
use Rattle.std.specs.Prelude.{IfSome}
use Rattle.apply_model.specs.Plan.SavedPlan.{SavedPlan}
use Rattle.stream_record_stream.specs.Answers.{IsReadOf}
use Rattle.stream_record_stream.specs.Streams.{StreamRead}
use Rattle.stream_record_stream.specs.declared.stream_fault.StreamFault.{StreamFault}
use Rattle.stream_runs.specs.Selected.{IsSelected}
use Rattle.stream_runs.specs.declared.choice.RunChoice.{RunChoice}
use Rattle.stream_runs.specs.declared.fault.RunFault.{RunFault}
use Rattle.stream_runs.specs.declared.selecting.Run.{Run}
use Rattle.stream_record_cli.specs.Causes.{of_run_fault, of_stream_fault}
use Rattle.stream_record_cli.specs.StreamsRead.{IsRead, IsUnread}
use Rattle.stream_record_cli.specs.declared.record_fault.RecordFault.{RecordFault}

module _ (plan : SavedPlan) (find : Bool) (choice : RunChoice) where
  -- it is not there
  pub unselected : (left : Option (List ℕ)) (given : RunFault) (why : RecordFault) → why ≡ of_run_fault given
      → IfSome left (λ bytes. IsSelected find choice bytes (Err given)) → IfSome left (λ bytes. IsUnread plan find (Some choice) bytes why)
  unselected None given why is selected = tt
  unselected (Some bytes) given why is selected = inl (given, selected, is)

  module _ (run : Run) where
    -- it is refused
    pub faulty : (left : Option (List ℕ)) (given : StreamFault) (why : RecordFault) → why ≡ of_stream_fault given
        → IfSome left (λ bytes. IsSelected find choice bytes (Ok run)) → IsReadOf plan find run.lines_before run.bytes.items (Err given)
        → IfSome left (λ bytes. IsUnread plan find (Some choice) bytes why)
    faulty None given why is selected read = tt
    faulty (Some bytes) given why is selected read = inr (run, selected, (given, read, is))

    -- it was read
    pub was_read : (left : Option (List ℕ)) (stream : StreamRead) → IfSome left (λ bytes. IsSelected find choice bytes (Ok run))
        → IsReadOf plan find run.lines_before run.bytes.items (Ok stream) → IfSome left (λ bytes. IsRead plan find (Some choice) bytes stream)
    was_read None stream selected read = tt
    was_read (Some bytes) stream selected read = (run, selected, read)
