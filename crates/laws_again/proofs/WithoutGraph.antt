-- Streams that are recorded without a graph, by the bytes of what a run reads.
use Rattle.std.proofs.Common.{◌≡◌, ℕ, List, Option, Some, None, Ok, Bool, false, refl, subst}
use Rattle.apply_model.specs.Plan.ResourceChange.{ResourceChange}
use Rattle.apply_model.specs.Plan.SavedPlan.{SavedPlan}
use Rattle.apply_text.specs.declared.operation.Operation.{Operation}
use Rattle.stream_record_cli.specs.Graphs.{AreWaitsIn}
use Rattle.stream_record_cli.specs.StreamsRead as reads
use Rattle.stream_record_cli.specs.declared.command.recording.StreamChoice.{StreamChoice}
use Rattle.stream_record_stream.specs.Answers.{IsReadOf}
use Rattle.stream_record_stream.specs.Streams.{StreamRead}
use Rattle.stream_runs.specs.declared.choice.RunChoice.{RunChoice}
use Rattle.laws_again.specs.WithoutWaits.{IsToldWithoutWaits, ReadsInLanes}
use Rattle.laws_again.proofs.ComesAgain.{HasStream}

-- A run of a plan that was read, in which no step waits, and whose stream these bytes are.
pub record HasStreamWithoutWaits (plan : List ℕ) (script : Option (List ℕ)) (saved : SavedPlan) (lanes start : ℕ) (operation : Operation) (stream : List ℕ) : Type 0 where
  pub has : HasStream plan script saved lanes start operation stream
  pub told : IsToldWithoutWaits saved has.steps

-- Without a graph there are no waits.
pub no_waits_stated : (changes : List ResourceChange) (waits : Option (List (List ℕ))) → AreWaitsIn changes None waits → waits ≡ None
no_waits_stated changes None are = refl
no_waits_stated changes (Some waits) are = absurd are

-- A stream that is read as it is, is read from its first line.
pub whole_as_it_is : (saved : SavedPlan) (choice : StreamChoice) (lanes : ℕ) (stream : List ℕ) (read : StreamRead) → ReadsInLanes choice lanes
    → reads.IsRead saved choice.find choice.run stream read → IsReadOf saved false 0 stream (Ok read)
whole_as_it_is saved choice lanes stream read as_is was =
    subst (λ (r : Option RunChoice). reads.IsRead saved false r stream read) as_is.takes_no_run
    (subst (λ (f : Bool). reads.IsRead saved f choice.run stream read) as_is.finds_nothing was)
