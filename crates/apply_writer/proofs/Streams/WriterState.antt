-- The accepted events, and one event more.
use Rattle.std.proofs.Common.{All, ◌≡◌, ℕ, ◌+◌, ◌-◌, ◌*◌, ◌^◌, ◌<◌, ◌≤◌, rules, List, [], ◌∷◌, ◌++◌, length, length-append, append-nil, Option, cond, true, false, sym, refl, ap, ◌∙◌, subst, arith}
use Rattle.std.specs.Prelude.{max, not}
use Rattle.std.proofs.lemmas.List.Elements.{filter-append}
use Rattle.std.proofs.KnownBytes.{Appends-nil}
use Rattle.apply_model.specs.Plan.SavedPlan.{SavedPlan}
use Rattle.apply_events.specs.declared.event.Event.{Event}
use Rattle.apply_events.specs.Fits.{IsOfPlan}
use Rattle.apply_events.specs.Diagnostics.{is_note}
use Rattle.apply_events.specs.Totals.{plus, totals_of}
use Rattle.apply_text.specs.Latest.{latest_of}
use Rattle.apply_text.specs.Order.{hook_messages_of, notes_of}
use Rattle.apply_writer.specs.declared.stream.output.WriteState.TheVariants.{Open}
use Rattle.apply_writer.specs.Stream.Form.{StreamForm, lines_in}
use Rattle.apply_writer.specs.Stream.Outlet.{HasWritten, Outlet, Writes, failed_writes}
use Rattle.apply_writer.specs.Stream.Counting.{CountsFit, IsNew, IsWithin, max_head_chunks}
use Rattle.apply_writer.specs.Stream.WriterState.{HasLines, HasAccepted, WriterState}
use Rattle.apply_writer.proofs.Streams.Lines.{latest_more, lines_more, lines_none}

-- nothing was written yet
pub written_none : (outlet : Outlet) → outlet.state ≡ Open → outlet.written ≡ 0 → HasWritten outlet.bytes outlet.failures [] outlet
written_none outlet goes none = record {
  part = [];
  is_prefix = ([], refl);
  whole = λ _. refl;
  appended = Appends-nil outlet.bytes;
  counted = none;
  failed = let no_failure : failed_writes outlet.state ≡ 0 = ap failed_writes goes in omega arith;
}

-- what comes first was written
pub accepted_none : (form : StreamForm) (old new : WriterState) → IsNew old → HasWritten old.outlet.bytes old.outlet.failures form.head new.outlet
    → new.counts ≡ old.counts → new.taken ≡ old.taken → new.latest ≡ old.latest → new.notes ≡ old.notes
    → HasAccepted form old.outlet.bytes old.outlet.failures [] new
accepted_none form old new begins writes counts taken latest notes = record {
  written = record {
    lines = subst (λ text. HasWritten old.outlet.bytes old.outlet.failures text new.outlet) (sym (lines_none form)) writes;
    latest = latest ∙ begins.latest;
  };
  counts = counts ∙ begins.counts;
  taken = taken ∙ begins.taken;
  notes = λ _. notes ∙ begins.notes;
}

-- what comes first is within what a stream may write
pub first_head : (plan : SavedPlan) (old new : WriterState) (head_chunks : ℕ) → IsNew old
    → new.counts ≡ old.counts → new.taken ≡ old.taken → new.latest ≡ old.latest → new.notes ≡ old.notes
    → new.outlet.written ≤ head_chunks * 2 ^ 64 → head_chunks ≤ max_head_chunks → (new.outlet.state ≡ Open → new.outlet.failures < 2 ^ 64 - 1)
    → CountsFit plan new
first_head plan old new head_chunks begins counts taken latest notes written few may_fail =
    let none_accepted : new.taken ≡ 0 = taken ∙ begins.taken in
    let no_moment : new.latest ≡ 0 = latest ∙ begins.latest in
    let no_notes : new.notes ≡ [] = notes ∙ begins.notes in
    let no_length : length new.notes ≡ 0 = ap length no_notes in
    let no_counts : new.counts ≡ record { added = 0; changed = 0; removed = 0; failed = 0; halted = 0 } = counts ∙ begins.counts in
    record {
      few = omega arith;
      counts = subst (IsWithin new.taken) (sym no_counts) (record { added = omega arith; changed = omega arith; removed = omega arith; failed = omega arith; halted = omega arith });
      in_time = omega arith;
      notes = subst (All (IsOfPlan plan)) (sym no_notes) (search rules);
      written = omega arith;
      may_fail = may_fail;
    }

-- ---- lines

-- the line of one event more
pub lines_and_one : (form : StreamForm) (before : Option (List ℕ)) (failures : ℕ) (events : List Event) (event : Event) (old new : WriterState)
    → Writes old.outlet new.outlet (form.line new.latest event)
    → new.latest ≡ max old.latest event.at
    → HasLines form before failures events old
    → HasLines form before failures (events ++ event ∷ []) new
lines_and_one form before failures events event old new writes latest was =
    let moment : new.latest ≡ latest_of (events ++ event ∷ []) (length (events ++ event ∷ [])) = latest ∙ ap (λ m. max m event.at) was.latest ∙ sym (latest_more events event) in
    let text : lines_in form events ++ form.line new.latest event ≡ lines_in form (events ++ event ∷ [])
    = ap (λ m. lines_in form events ++ form.line m event) moment ∙ sym (lines_more form events event) in
    record {
      lines = subst (λ text. HasWritten before failures text new.outlet) text (writes before failures (lines_in form events) was.lines);
      latest = moment;
    }

-- no line more
pub lines_and_none : (form : StreamForm) (before : Option (List ℕ)) (failures : ℕ) (events : List Event) (old new : WriterState)
    → Writes old.outlet new.outlet [] → new.latest ≡ old.latest
    → HasLines form before failures events old → HasLines form before failures events new
lines_and_none form before failures events old new writes latest was = record {
  lines = subst (λ text. HasWritten before failures text new.outlet) (append-nil (lines_in form events)) (writes before failures (lines_in form events) was.lines);
  latest = latest ∙ was.latest;
}

-- ---- one event more

messages_and_message : (events : List Event) (event : Event) → is_note event.what ≡ false → hook_messages_of events ++ event ∷ [] ≡ hook_messages_of (events ++ event ∷ [])
messages_and_message events event is =
    ap (λ b. hook_messages_of events ++ cond (not b) (event ∷ []) []) (sym is) ∙ sym (filter-append (λ (e : Event). not (is_note e.what)) events (event ∷ []))

messages_and_note : (events : List Event) (event : Event) → is_note event.what ≡ true → hook_messages_of events ≡ hook_messages_of (events ++ event ∷ [])
messages_and_note events event is =
    sym (append-nil (hook_messages_of events)) ∙ ap (λ b. hook_messages_of events ++ cond (not b) (event ∷ []) []) (sym is) ∙ sym (filter-append (λ (e : Event). not (is_note e.what)) events (event ∷ []))

notes_and_message : (events : List Event) (event : Event) → is_note event.what ≡ false → notes_of events ≡ notes_of (events ++ event ∷ [])
notes_and_message events event is =
    sym (append-nil (notes_of events)) ∙ ap (λ b. notes_of events ++ cond b (event ∷ []) []) (sym is) ∙ sym (filter-append (λ (e : Event). is_note e.what) events (event ∷ []))

notes_and_note : (events : List Event) (event : Event) → is_note event.what ≡ true → notes_of events ++ event ∷ [] ≡ notes_of (events ++ event ∷ [])
notes_and_note events event is =
    ap (λ b. notes_of events ++ cond b (event ∷ []) []) (sym is) ∙ sym (filter-append (λ (e : Event). is_note e.what) events (event ∷ []))

-- the line of a hook's message was written
pub accepted_message : (form : StreamForm) (before : Option (List ℕ)) (failures : ℕ) (events : List Event) (event : Event) (old new : WriterState)
    → is_note event.what ≡ false
    → new.counts ≡ plus old.counts (totals_of form.plan (event ∷ []))
    → new.taken ≡ old.taken + 1
    → new.notes ≡ old.notes
    → (new.outlet.state ≡ Open → old.outlet.state ≡ Open)
    → totals_of form.plan (events ++ event ∷ []) ≡ plus (totals_of form.plan events) (totals_of form.plan (event ∷ []))
    → HasLines form before failures (hook_messages_of events ++ event ∷ []) new
    → HasAccepted form before failures events old
    → HasAccepted form before failures (events ++ event ∷ []) new
accepted_message form before failures events event old new is counts taken notes went adds lines was = record {
  written = subst (λ es. HasLines form before failures es new) (messages_and_message events event is) lines;
  counts = counts ∙ ap (λ c. plus c (totals_of form.plan (event ∷ []))) was.counts ∙ sym adds;
  taken = taken ∙ ap (λ n. n + 1) was.taken ∙ sym (length-append events (event ∷ []));
  notes = λ goes. notes ∙ was.notes (went goes) ∙ notes_and_message events event is;
}

-- a diagnostic was stored, or the writing has stopped
pub accepted_note : (form : StreamForm) (before : Option (List ℕ)) (failures : ℕ) (events : List Event) (event : Event) (old new : WriterState)
    → is_note event.what ≡ true
    → new.counts ≡ plus old.counts (totals_of form.plan (event ∷ []))
    → new.taken ≡ old.taken + 1
    → (new.outlet.state ≡ Open → (old.outlet.state ≡ Open) × (new.notes ≡ old.notes ++ event ∷ []))
    → totals_of form.plan (events ++ event ∷ []) ≡ plus (totals_of form.plan events) (totals_of form.plan (event ∷ []))
    → HasLines form before failures (hook_messages_of events) new
    → HasAccepted form before failures events old
    → HasAccepted form before failures (events ++ event ∷ []) new
accepted_note form before failures events event old new is counts taken stored adds lines was = record {
  written = subst (λ es. HasLines form before failures es new) (messages_and_note events event is) lines;
  counts = counts ∙ ap (λ c. plus c (totals_of form.plan (event ∷ []))) was.counts ∙ sym adds;
  taken = taken ∙ ap (λ n. n + 1) was.taken ∙ sym (length-append events (event ∷ []));
  notes = λ goes. (stored goes).1 ∙ ap (λ ns. ns ++ event ∷ []) (was.notes ((stored goes).0)) ∙ notes_and_note events event is;
}
