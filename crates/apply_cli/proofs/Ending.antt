-- From how a run has ended to how the command has.
use Rattle.std.proofs.Common.{◌≡◌, ◌≤◌, ◌<◌, ◌⊎◌, ◌↔◌, inl, inr, ℕ, IsTrue, List, Option, length, Result, Ok, Err, IfOk, IfErr, sym, ◌∙◌, subst, arith, ⊎_elim}
use Rattle.std.specs.Io.KnownBytes.{Keeps}
use Rattle.std.specs.List.{range_with_len}
use Rattle.std.proofs.KnownBytes.{Keeps-refl}
use Rattle.apply_plan.specs.Bytes.{max_bytes}
use Rattle.apply_events.specs.declared.event.Event.{Event}
use Rattle.apply_events.specs.Step.{Work}
use Rattle.apply_events.specs.WorkerEvents.{worker_events}
use Rattle.apply_text.specs.declared.operation.Operation.{Operation}
use Rattle.apply_run.specs.Applied.{IsApplied}
use Rattle.apply_run.specs.Bytes.{Inputs}
use Rattle.apply_run.specs.FromBytes.{Reading, WasRefusedOf, WasReportedOf}
use Rattle.apply_run.specs.Run.{HasFailedBy, SinkState}
use Rattle.apply_run.specs.Schedule.{ByWorkers, InLanes, IsRunOf, Schedule}
use Rattle.apply_run.specs.declared.form_report.FormReport.{FormReport}
use Rattle.apply_run.specs.declared.refusal.Refusal.{Refusal}
use Rattle.apply_run.specs.declared.refusal.Refusal.TheVariants as refusal
use Rattle.apply_writer.specs.declared.report.Report.{Report}
use Rattle.apply_writer.specs.declared.why.Why.{Why}
use Rattle.apply_writer.specs.Stream.Form.{stream_in}
use Rattle.apply_cli_args.specs.declared.settings.Settings.{Settings}
use Rattle.apply_cli.specs.Command.{HasAppliedOf, HasBegunOf, IsAlone}
use Rattle.apply_cli.specs.Ended.{HasEnded}
use Rattle.apply_cli.specs.Invocation.{HasAppliedAsAsked, HasBegunAsAsked, schedule_of}
use Rattle.apply_cli.specs.Status.{refusal_status_of}
use Rattle.apply_cli.specs.Unmatched.{AreReported, unmatched_of}
use Rattle.apply_cli.proofs.Readings.{IsSound, not_large}
use Rattle.apply_cli.proofs.Fronts.{HasFrontBy, front_of_failed, front_of_streamed, whole_unchanged}

-- what one worker reports
abbrev pub OneWorkerInOrder : Type 0
OneWorkerInOrder = (work : Work) (lists : List (List ℕ)) (events : List Event) → IsApplied work 1 lists events → events ≡ worker_events work 0 (range_with_len 0 (length work.plan.changes))

alone : (schedule : Schedule) (work : Work) (events : List Event) → OneWorkerInOrder → IsRunOf schedule work events → IsAlone schedule → events ≡ worker_events work 0 (range_with_len 0 (length work.plan.changes))
alone (ByWorkers workers capacity) work events in_order run one = in_order work run.lists events (subst (λ n. IsApplied work n run.lists events) one run.applied)
alone (InLanes lanes) work events in_order run one = absurd one

module _ (schedule : Schedule) (reading : Reading) (sound : IsSound reading) (given : Inputs) (start : ℕ) (operation : Operation) where
  -- the whole stream was written, and a flush left it unchanged
  applied_unchanged : OneWorkerInOrder → (report : FormReport) (before after after' : SinkState) (status : ℕ) → Keeps after.bytes after'.bytes → after'.failed ≡ after.failed → (status ≡ 1) ↔ IsTrue report.contains_error
      → WasReportedOf schedule reading given start operation report before after → HasAppliedOf schedule reading given start operation before after' status
  applied_unchanged in_order report before after after' status unchanged failed is h =
      let run = h.applied in let stream = reading.form run.read start operation in
      record {
        report = report.run;
        applied = record {
          read = run.read;
          is_read = run.is_read;
          sizes = run.sizes;
          streamed = record {
            events = run.streamed.events;
            run = run.streamed.run;
            whole = whole_unchanged stream.plan run.streamed.events (stream_in stream run.streamed.events) report.run before after after' unchanged failed run.streamed.whole;
          };
          keeps = run.keeps;
        };
        alone = alone schedule (reading.work given run.read) run.streamed.events in_order run.streamed.run;
        status_is = sound.status run.read report.run.counts report.contains_error status h.error is;
      }

  begun : (before after : SinkState) (read : reading.Read) → reading.IsRead given read
      → HasFrontBy schedule (reading.form read start operation) (reading.work given read) before after → HasBegunOf schedule reading given start operation before after
  begun before after read is h = record { read = read; is_read = is; events = h.events; part = h.part; front = h.front; appended = h.appended }

  -- the whole stream was written, and then a flush failed
  begun_of_applied : (report : FormReport) (before after after' : SinkState) → Keeps after.bytes after'.bytes → after.failed < after'.failed → WasReportedOf schedule reading given start operation report before after → HasBegunOf schedule reading given start operation before after'
  begun_of_applied report before after after' unchanged flushed h =
      let run = h.applied in
      begun before after' run.read run.is_read
      (front_of_streamed schedule (reading.form run.read start operation) (reading.work given run.read) report.run before after after' unchanged flushed run.streamed)

  begun_of_fault : (cause : Why) (report : Report) (before after after' : SinkState) (read : reading.Read) → Keeps after.bytes after'.bytes → after.failed ≤ after'.failed → reading.IsRead given read
      → HasFailedBy cause schedule (reading.form read start operation) (reading.work given read) report before after → Keeps before.bytes after'.bytes ⊎ HasBegunOf schedule reading given start operation before after'
  begun_of_fault cause report before after after' read unchanged more is h =
      ⊎_elim
      (λ same. inl same)
      (λ (front : HasFrontBy schedule (reading.form read start operation) (reading.work given read) before after'). inr (begun before after' read is front))
      (front_of_failed schedule (reading.form read start operation) (reading.work given read) report before after after' cause unchanged more h)

  -- the output is as it was, or grew by a front of the stream
  begun_of_refused : (r : Refusal) (before after after' : SinkState) → Keeps after.bytes after'.bytes → after.failed ≤ after'.failed → WasRefusedOf schedule reading given start operation r before after → Keeps before.bytes after'.bytes ⊎ HasBegunOf schedule reading given start operation before after'
  begun_of_refused (refusal.Plan r) before after after' unchanged more h = inl (subst (λ s. Keeps s.bytes after'.bytes) h.1 unchanged)
  begun_of_refused (refusal.Script r) before after after' unchanged more h = inl (subst (λ s. Keeps s.bytes after'.bytes) h.1 unchanged)
  begun_of_refused refusal.Waits before after after' unchanged more h = inl (subst (λ s. Keeps s.bytes after'.bytes) h.3 unchanged)
  begun_of_refused refusal.Size before after after' unchanged more h = inl (subst (λ s. Keeps s.bytes after'.bytes) h.3 unchanged)
  begun_of_refused (refusal.Fault fault) before after after' unchanged more h = begun_of_fault fault.why fault.report before after after' h.0 unchanged more h.1 h.3

  -- with 2 the output is as it was
  unchanged_of_refused : (r : Refusal) (before after : SinkState) → refusal_status_of r ≡ 2 → WasRefusedOf schedule reading given start operation r before after → Keeps before.bytes after.bytes
  unchanged_of_refused (refusal.Plan r) before after is h = subst (λ s. Keeps s.bytes after.bytes) h.1 (Keeps-refl after.bytes)
  unchanged_of_refused (refusal.Script r) before after is h = subst (λ s. Keeps s.bytes after.bytes) h.1 (Keeps-refl after.bytes)
  unchanged_of_refused refusal.Waits before after is h = subst (λ s. Keeps s.bytes after.bytes) h.3 (Keeps-refl after.bytes)
  unchanged_of_refused refusal.Size before after is h = subst (λ s. Keeps s.bytes after.bytes) h.3 (Keeps-refl after.bytes)
  unchanged_of_refused (refusal.Fault fault) before after is h = absurd (omega arith)

  -- too many bytes are refused with 2
  refused_large : (r : Refusal) (before after : SinkState) → WasRefusedOf schedule reading given start operation r before after → max_bytes < length given.plan → refusal_status_of r ≡ 2
  refused_large (refusal.Plan r) before after h long = sound.unread_large given (refusal.Plan r) h.0 long
  refused_large (refusal.Script r) before after h long = sound.unread_large given (refusal.Script r) h.0 long
  refused_large refusal.Waits before after h long = not_large reading sound given h.0 h.1 long
  refused_large refusal.Size before after h long = not_large reading sound given h.0 h.1 long
  refused_large (refusal.Fault fault) before after h long = not_large reading sound given h.0 h.1 long

-- what is so of an Ok or an Err is so of the value in it
pub at_ok : {A E : Type 0} → (r : Result A E) (x : A) (P : A → Type 0) → r ≡ Ok x → IfOk r P → P x
at_ok r x P is h = subst (λ s. IfOk s P) is h

pub at_err : {A E : Type 0} → (r : Result A E) (e : E) (P : E → Type 0) → r ≡ Err e → IfErr r P → P e
at_err r e P is h = subst (λ s. IfErr s P) is h

-- ---- with each status

module _ (given : Inputs) (settings : Settings) (parallelism : Option ℕ) (reading : Reading) (sound : IsSound reading) (before after after' : SinkState) (faults faults' : Option (List ℕ)) where
  -- the whole stream was written and flushed
  pub ended_whole : (report : FormReport) (status : ℕ) → WasReportedOf (schedule_of settings parallelism) reading given settings.at settings.operation report before after
      → OneWorkerInOrder → Keeps after.bytes after'.bytes → after'.failed ≡ after.failed
      → (status ≡ 1) ↔ IsTrue report.contains_error → status ≤ 1 → AreReported (unmatched_of given.plan settings.halts.items) faults faults'
      → HasEnded given settings parallelism reading before after' faults faults' status
  unfolding HasAppliedAsAsked
  ended_whole report status h in_order unchanged failed is good reported = record {
    applied = λ _. applied_unchanged (schedule_of settings parallelism) reading sound given settings.at settings.operation in_order report before after after' status unchanged failed is h;
    refused = λ bad. absurd (omega (arith, good, bad));
    unchanged = λ bad. absurd (omega (arith, good, bad));
    cut_off = λ bad. absurd (omega (arith, good, bad));
    large = λ long. not_large reading sound given h.applied.read h.applied.is_read long;
    reported = λ _. reported;
    statuses = omega (arith, good);
  }

  -- it was written, and the flush failed
  pub ended_unflushed : (report : FormReport) → WasReportedOf (schedule_of settings parallelism) reading given settings.at settings.operation report before after
      → Keeps after.bytes after'.bytes → after.failed < after'.failed → HasEnded given settings parallelism reading before after' faults faults' 3
  unfolding HasBegunAsAsked
  ended_unflushed report h unchanged flushed = record {
    applied = λ good. absurd (omega (arith, good));
    refused = λ bad. absurd (omega (arith, bad));
    unchanged = λ bad. absurd (omega (arith, bad));
    cut_off = λ _. inr (begun_of_applied (schedule_of settings parallelism) reading sound given settings.at settings.operation report before after after' unchanged flushed h);
    large = λ long. not_large reading sound given h.applied.read h.applied.is_read long;
    reported = λ good. absurd (omega (arith, good));
    statuses = omega arith;
  }

  -- the inputs were refused, or the run failed; only then the output was flushed
  pub ended_refused : (r : Refusal) (status : ℕ) → WasRefusedOf (schedule_of settings parallelism) reading given settings.at settings.operation r before after
      → status ≡ refusal_status_of r → (2 ≤ status) × (status ≤ 3) → (status ≡ 2 → after' ≡ after) → Keeps after.bytes after'.bytes → after.failed ≤ after'.failed
      → HasEnded given settings parallelism reading before after' faults faults' status
  unfolding HasBegunAsAsked
  ended_refused r status h is bad same unchanged more =
      let schedule = schedule_of settings parallelism in let start = settings.at in let operation = settings.operation in
      record {
        applied = λ good. absurd (omega (arith, bad.0, good));
        refused = λ two. (r, sym is ∙ two, subst (λ (s : SinkState). WasRefusedOf schedule reading given start operation r before s) (sym (same two)) h);
        unchanged = λ two. subst (λ (s : SinkState). Keeps before.bytes s.bytes) (sym (same two)) (unchanged_of_refused schedule reading sound given start operation r before after (sym is ∙ two) h);
        cut_off = λ _. begun_of_refused schedule reading sound given start operation r before after after' unchanged more h;
        large = λ long. is ∙ refused_large schedule reading sound given start operation r before after h long;
        reported = λ good. absurd (omega (arith, bad.0, good));
        statuses = bad.1;
      }
