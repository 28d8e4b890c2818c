-- From the accepted events to how the run ends.
use Rattle.std.proofs.Common.{◌≡◌, ◌≤◌, ◌+◌, ℕ, List, Result, Ok, Err, IfOk, IfErr, ap, sym, subst, arith, inl, inr, ⊎_elim, ◌∙◌, Option}
use Rattle.apply_events.specs.declared.event.Event.{Event}
use Rattle.apply_events.specs.Step.{Work}
use Rattle.apply_text.specs.Order.{as_written, hook_messages_of}
use Rattle.apply_writer.specs.declared.fault.Fault.{Fault}
use Rattle.apply_writer.specs.declared.report.Report.{Report}
use Rattle.apply_writer.specs.declared.stream.output.WriteState.{WriteState}
use Rattle.apply_writer.specs.declared.stream.output.WriteState.TheVariants.{Open, Failed, OutOfMemory}
use Rattle.apply_writer.specs.declared.why.Why.{Why}
use Rattle.apply_writer.specs.declared.why.Why.TheVariants.{Bus, Memory, Workers, Write}
use Rattle.apply_writer.specs.Stream.Ended.{IsCutOff, IsFaulted}
use Rattle.apply_writer.specs.Stream.Outlet.{failed_writes}
use Rattle.apply_writer.specs.declared.stream.StreamWriter.{StreamWriter}
use Rattle.apply_run.specs.Run.{HasFailedBy, SinkState, sink_state}
use Rattle.apply_run.specs.Schedule.{IsPartOf, IsRunOf, Schedule, StartsThreads}
use Rattle.apply_writer.specs.Stream.Form.{StreamForm, lines_in, stream_in}
use Rattle.apply_writer.specs.Stream.WriterState.{HasAccepted, IsSameStream, HasAcceptedSince, writer_state}

pub if_ok : {A E : Type 0} → (r : Result A E) (P Q : A → Type 0) → ((x : A) → P x → Q x) → IfOk r P → IfOk r Q
if_ok (Ok x) P Q f h = f x h
if_ok (Err e) P Q f h = tt

pub if_err : {A E : Type 0} → (r : Result A E) (P Q : E → Type 0) → ((x : E) → P x → Q x) → IfErr r P → IfErr r Q
if_err (Ok x) P Q f h = tt
if_err (Err e) P Q f h = f e h

-- what holds of an Ok or of an Err, holds of its value
pub of_ok : {A E : Type 0} → (r : Result A E) (x : A) (P : A → Type 0) → r ≡ Ok x → IfOk r P → P x
of_ok r x P is h = subst (λ s. IfOk s P) is h

pub of_err : {A E : Type 0} → (r : Result A E) (e : E) (P : E → Type 0) → r ≡ Err e → IfErr r P → P e
of_err r e P is h = subst (λ s. IfErr s P) is h

-- what was accepted by a writer that was made for this form
pub record IsAcceptedFor {S F : Type 0} (bytes : S → Option (List ℕ)) (failed : S → ℕ) (form_of : F → StreamForm)
    (form : StreamForm) (before : SinkState) (events : List Event) (stream : StreamWriter S F) : Type 0 where
  pub same : form_of stream.lines ≡ form
  pub accepted : HasAccepted (form_of stream.lines) before.bytes before.failed events (writer_state bytes failed stream)

-- the writer was made for the form, and has accepted the events since
pub accepted_for : {S F : Type 0} → (bytes : S → Option (List ℕ)) (failed : S → ℕ) (form_of : F → StreamForm) (lines : F)
    (sink : S) (events : List Event) (first stream : StreamWriter S F)
    → first.lines ≡ lines → first.output.sink ≡ sink → IsSameStream form_of first stream
    → HasAcceptedSince bytes failed form_of first events stream
    → IsAcceptedFor bytes failed form_of (form_of lines) (sink_state bytes failed sink) events stream
accepted_for {S} bytes failed form_of lines sink events first stream made sink_is same accepted = record {
  same = same ∙ ap form_of made;
  accepted = subst (λ form. HasAccepted form (bytes sink) (failed sink) events (writer_state bytes failed stream)) (sym same)
      (subst (λ (s : S). HasAccepted (form_of first.lines) (bytes s) (failed s) events (writer_state bytes failed stream)) sink_is accepted);
}

-- what is so of the stream's own form is so of that which it was made for
pub for_form : {S F : Type 0} → (bytes : S → Option (List ℕ)) (failed : S → ℕ) (form_of : F → StreamForm)
    (form : StreamForm) (before : SinkState) (events : List Event) (stream : StreamWriter S F) (P : StreamForm → Type 0)
    → IsAcceptedFor bytes failed form_of form before events stream → P (form_of stream.lines) → P form
for_form bytes failed form_of form before events stream P accepted h = subst P accepted.same h

few_failed : (state : WriteState) → failed_writes state ≤ 1
few_failed Open = omega arith
few_failed Failed = omega arith
few_failed OutOfMemory = omega arith

-- a write failed, or memory was refused for a line
pub faulted : (form : StreamForm) (work : Work) (schedule : Schedule) (fault : Fault) (before after : SinkState) (events : List Event) → IsRunOf schedule work events
    → IsFaulted form events fault before.bytes after.bytes before.failed after.failed → HasFailedBy fault.why schedule form work fault.report before after
faulted form work schedule fault before after events run h = ⊎_elim
    (λ (w : (fault.why ≡ Write) × IsCutOff form.plan events (stream_in form events) fault.report before.bytes after.bytes (before.failed + 1) after.failed).
    subst (λ why. HasFailedBy why schedule form work fault.report before after) (sym w.0) (record { events = events; run = run; part = w.1 }))
    (λ (m : (fault.why ≡ Memory) × IsCutOff form.plan events (lines_in form (as_written events)) fault.report before.bytes after.bytes before.failed after.failed).
    subst (λ why. HasFailedBy why schedule form work fault.report before after) (sym m.0) (inr (record { events = events; run = run; part = m.1 })))
    h

-- the bus failed
pub lost : (form : StreamForm) (work : Work) (schedule : Schedule) (why : Why) (report : Report) (before after : SinkState) (events : List Event) (state : WriteState) → why ≡ Bus → IsPartOf schedule work events
    → IsCutOff form.plan events (lines_in form (hook_messages_of events)) report before.bytes after.bytes (before.failed + failed_writes state) after.failed → HasFailedBy why schedule form work report before after
lost form work schedule why report before after events state is in_part part = subst (λ w. HasFailedBy w schedule form work report before after) (sym is)
    (record { failed = failed_writes state; few = few_failed state; cut_off = record { events = events; run = in_part; part = part } })

abbrev pub IsEmpty : Report → Type 0
IsEmpty report = report ≡ record { counts = record { added = 0; changed = 0; removed = 0; failed = 0; halted = 0 }; taken = 0; written = 0 }

-- memory was refused before the run began
pub refused : (form : StreamForm) (work : Work) (schedule : Schedule) (why : Why) (report : Report) (before after : SinkState) → why ≡ Memory → IsEmpty report → after ≡ before → HasFailedBy why schedule form work report before after
refused form work schedule why report before after is empty same = subst (λ w. HasFailedBy w schedule form work report before after) (sym is) (inl (record { report_is = empty; same = same }))

-- a thread was refused
pub not_started : (form : StreamForm) (work : Work) (schedule : Schedule) (why : Why) (report : Report) (before after : SinkState) → why ≡ Workers → IsEmpty report → after ≡ before → StartsThreads schedule
    → HasFailedBy why schedule form work report before after
not_started form work schedule why report before after is empty same starts =
    subst (λ w. HasFailedBy w schedule form work report before after) (sym is) (record { report_is = empty; same = same }, starts)
