-- From how a run has ended to what the output has of its stream.
use Rattle.std.proofs.Common.{◌≡◌, ◌∙◌, ◌<◌, ◌≤◌, ◌+◌, ◌⊎◌, inl, inr, ℕ, List, [], subst, arith, ⊎_elim}
use Rattle.std.specs.Io.KnownBytes.{Appends, Keeps}
use Rattle.std.proofs.KnownBytes.{Appends-kept}
use Rattle.std.proofs.lemmas.List.{append-nil}
use mathlib.Core.List.{IsPrefix}
use Rattle.apply_plan.specs.Plan.SavedPlan.{SavedPlan}
use Rattle.apply_events.specs.declared.event.Event.{Event}
use Rattle.apply_events.specs.Step.{Work}
use Rattle.apply_text.specs.Order.{as_written, hook_messages_of}
use Rattle.apply_writer.specs.declared.report.Report.{Report}
use Rattle.apply_writer.specs.declared.why.Why.{Why}
use Rattle.apply_writer.specs.declared.why.Why.TheVariants as why
use Rattle.apply_run.specs.Run.{DidNothing, HasFailedBy, HasStreamedBy, IsCutOffOf, SinkState}
use Rattle.apply_run.specs.Schedule.{IsPartOf, IsRunOf, Schedule}
use Rattle.apply_writer.specs.Stream.Ended.{IsWhole}
use Rattle.apply_writer.specs.Stream.Form.{StreamForm, lines_in, stream_in}
use Rattle.apply_cli.specs.Command.{IsFrontBy}

pub prefix_same : {X : Type 0} → (xs : List X) → IsPrefix xs xs
prefix_same xs = ([], append-nil xs)

-- all was written, and a flush left it unchanged
pub whole_unchanged : (plan : SavedPlan) (events : List Event) (all : List ℕ) (report : Report) (before after after' : SinkState) → Keeps after.bytes after'.bytes → after'.failed ≡ after.failed
    → IsWhole plan events all report before.bytes after.bytes before.failed after.failed → IsWhole plan events all report before.bytes after'.bytes before.failed after'.failed
whole_unchanged plan events all report before after after' unchanged failed h = record {
  delivered = record {
    counts = h.delivered.counts;
    taken = h.delivered.taken;
    written = h.delivered.written;
    appended = Appends-kept before.bytes after.bytes after'.bytes all h.delivered.appended unchanged;
  };
  failed = failed ∙ h.failed;
}

-- the work was applied, or a part of it, and the output has a front of its stream in this form
pub record HasFrontBy (schedule : Schedule) (form : StreamForm) (work : Work) (before after : SinkState) : Type 0 where
  pub events : List Event
  pub part : List ℕ
  pub front : IsFrontBy schedule form work before after events part
  pub appended : Appends before.bytes after.bytes part

module _ (schedule : Schedule) (form : StreamForm) (work : Work) (report : Report) (before after after' : SinkState) where
  -- the whole stream was written, and then a flush failed
  pub front_of_streamed : Keeps after.bytes after'.bytes → after.failed < after'.failed → HasStreamedBy schedule form work report before after → HasFrontBy schedule form work before after'
  front_of_streamed unchanged flushed h =
      let all = stream_in form h.events in
      record {
        events = h.events;
        part = all;
        front = inl (h.run, inl (subst (λ n. n < after'.failed) h.whole.failed flushed, prefix_same all));
        appended = Appends-kept before.bytes after.bytes after'.bytes all h.whole.delivered.appended unchanged;
      }

  -- a write has failed
  front_of_not_written : Keeps after.bytes after'.bytes → after.failed ≤ after'.failed → IsCutOffOf (IsRunOf schedule work) form (stream_in form) (before.failed + 1) report before after → HasFrontBy schedule form work before after'
  front_of_not_written unchanged more h = record {
    events = h.events;
    part = h.part.part;
    front = inl (h.run, inl (omega (arith, h.part.failed, more), h.part.is_prefix));
    appended = Appends-kept before.bytes after.bytes after'.bytes h.part.part h.part.delivered.appended unchanged;
  }

  -- memory was refused for a line
  front_of_no_memory : Keeps after.bytes after'.bytes → IsCutOffOf (IsRunOf schedule work) form (λ events. lines_in form (as_written events)) before.failed report before after → HasFrontBy schedule form work before after'
  front_of_no_memory unchanged h = record {
    events = h.events;
    part = h.part.part;
    front = inl (h.run, inr h.part.is_prefix);
    appended = Appends-kept before.bytes after.bytes after'.bytes h.part.part h.part.delivered.appended unchanged;
  }

  -- an event was lost
  front_of_lost : (failed : ℕ) → Keeps after.bytes after'.bytes → IsCutOffOf (IsPartOf schedule work) form (λ events. lines_in form (hook_messages_of events)) failed report before after → HasFrontBy schedule form work before after'
  front_of_lost failed unchanged h = record {
    events = h.events;
    part = h.part.part;
    front = inr (h.run, h.part.is_prefix);
    appended = Appends-kept before.bytes after.bytes after'.bytes h.part.part h.part.delivered.appended unchanged;
  }

  -- the output is as it was, or grew by a front of the stream
  pub front_of_failed : (cause : Why) → Keeps after.bytes after'.bytes → after.failed ≤ after'.failed → HasFailedBy cause schedule form work report before after → Keeps before.bytes after'.bytes ⊎ HasFrontBy schedule form work before after'
  front_of_failed why.Write unchanged more h = inr (front_of_not_written unchanged more h)
  front_of_failed why.Workers unchanged more h = inl (subst (λ s. Keeps s.bytes after'.bytes) h.0.same unchanged)
  front_of_failed why.Memory unchanged more h =
      ⊎_elim
      (λ (none : DidNothing report before after). inl (subst (λ s. Keeps s.bytes after'.bytes) none.same unchanged))
      (λ (ran : IsCutOffOf (IsRunOf schedule work) form (λ events. lines_in form (as_written events)) before.failed report before after). inr (front_of_no_memory unchanged ran))
      h
  front_of_failed why.Bus unchanged more h = inr (front_of_lost (before.failed + h.failed) unchanged h.cut_off)
