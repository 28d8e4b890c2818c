-- What the messages of a stream make of what is known of it.
use Rattle.std.proofs.Common.{◌≡◌, ℕ, ◌+◌, ◌≤◌, pos, List, [], ◌∷◌, ◌++◌, cond, codes, length, map, bytes_eq, Bool, true, false, Option, Some, None, Result, Ok, Err, refl, ap, ◌∙◌, arith, le-ltb}
use Rattle.std.specs.List.{AllByRecursion}
use Rattle.std.specs.Option.{option_map_or}
use Rattle.stream_lines.specs.Limits.{max_bytes}
use Rattle.apply_model.specs.declared.details.note.Note.{Note}
use Rattle.apply_model.specs.Plan.SavedPlan.{SavedPlan}
use Rattle.stream_record_lines.specs.declared.event.Event.{Event}
use Rattle.stream_record_lines.specs.declared.event.Event.TheVariants as event
use Rattle.stream_record_lines.specs.declared.outputs.output.Output as recorded
use Rattle.stream_record_lines.specs.declared.stated_line.StatedLine.{StatedLine}
use Rattle.stream_record_lines.specs.declared.stated_line.StatedLine.TheVariants.{Message}
use Rattle.stream_record_lines.specs.declared.stated_message.StatedMessage.{StatedMessage}
use Rattle.stream_record_lines.specs.declared.summary.Summary.{Summary}
use Rattle.stream_record_lines.specs.declared.summary.Summary.TheVariants as sums
use Rattle.stream_record_lines.specs.Lines.{stated_line}
use Rattle.stream_record_steps.specs.Begun.{Begun}
use Rattle.stream_record_stream.specs.Reading.{Known, at_end, either, is_version, read_after, repeated, version_again, with_line, with_mark, with_message, with_stated}
use Rattle.stream_record_stream.specs.Streams.{StreamRead, after_message}
use Rattle.stream_record_stream.specs.declared.stream_fault.StreamFault.{StreamFault}
use Rattle.stream_record_stream.specs.declared.stream_fault.StreamFault.TheVariants.{TooLong}
use Rattle.laws_lines.specs.Reading.{HasRead}
use Rattle.laws_lines.specs.Stated.{stated_at}
use Rattle.laws_begun.specs.Telling.{after_stated}

-- ---- messages one after another

pub after_messages : SavedPlan → (number : ℕ) → List StatedMessage → StreamRead → StreamRead
after_messages plan number [] stream = stream
after_messages plan number (message ∷ messages) stream = after_messages plan (number + 1) messages (after_message plan number message stream)

pub after_none : (plan : SavedPlan) (n : ℕ) (s : StreamRead) → after_messages plan n [] s ≡ s
unfolding after_messages
after_none plan n s = refl

pub after_first : (plan : SavedPlan) (n : ℕ) (m : StatedMessage) (ms : List StatedMessage) (s : StreamRead) → after_messages plan n (m ∷ ms) s ≡ after_messages plan (n + 1) ms (after_message plan n m s)
unfolding after_messages
after_first plan n m ms s = refl

pub after_both : (plan : SavedPlan) (n : ℕ) (xs ys : List StatedMessage) (s : StreamRead) → after_messages plan n (xs ++ ys) s ≡ after_messages plan (n + length xs) ys (after_messages plan n xs s)
unfolding after_messages
after_both plan n [] ys s = ap (λ k. after_messages plan k ys s) (let same : n ≡ n + length (let none : List StatedMessage = [] in none) = omega arith in same)
after_both plan n (x ∷ xs) ys s =
    let same : n + 1 + length xs ≡ n + length (x ∷ xs) = omega arith in
    after_both plan (n + 1) xs ys (after_message plan n x s) ∙ ap (λ k. after_messages plan k ys (after_messages plan (n + 1) xs (after_message plan n x s))) same

-- ---- lines that state messages

-- each line is short and states its message
abbrev pub StateEach : List (List ℕ) → List StatedMessage → Type 0
StateEach [] [] = Unit {0}
StateEach [] (m ∷ ms) = ⊥
StateEach (line ∷ lines) [] = ⊥
StateEach (line ∷ lines) (m ∷ ms) = (stated_line false line ≡ Message m) × (length line ≤ max_bytes) × StateEach lines ms

pub each_states : (lines : List (List ℕ)) (ms : List StatedMessage) → map (stated_line false) lines ≡ map Message ms → AllByRecursion (λ (line : List ℕ). length line ≤ max_bytes) lines → StateEach lines ms
each_states [] [] same short = tt
each_states [] (m ∷ ms) same short = absurd cc
each_states (line ∷ lines) [] same short = absurd cc
each_states (line ∷ lines) (m ∷ ms) same short =
    let first : stated_line false line ≡ Message m = cc in
    let others : map (stated_line false) lines ≡ map Message ms = cc in
    (first, short.0, each_states lines ms others short.1)

-- no version
abbrev pub NoVersions : List StatedMessage → Type 0
NoVersions ms = AllByRecursion (λ (m : StatedMessage). is_version m.event ≡ false) ms

-- what is known after one line
one_read : (plan : SavedPlan) (n : ℕ) (line : List ℕ) (lines : List (List ℕ)) (m : StatedMessage) (known : Known) → stated_line false line ≡ Message m → length line ≤ max_bytes → repeated m (with_mark line known) ≡ None
    → read_after plan false n known (line ∷ lines) ≡ read_after plan false (n + 1) (with_message plan n m (with_mark line known)) lines
one_read plan n line lines m known states short new =
    ap (λ (b : Bool). cond b (Err (TooLong n)) (either (with_line plan false n line known) (λ more. read_after plan false (n + 1) more lines) (λ first. Err (version_again false n first lines)))) (le-ltb max_bytes (length line) short)
    ∙ ap (λ (s : StatedLine). either (with_stated plan n s (with_mark line known)) (λ more. read_after plan false (n + 1) more lines) (λ first. Err (version_again false n first lines))) states
    ∙ ap (λ (o : Option ℕ). either (option_map_or Err o (Ok (with_message plan n m (with_mark line known)))) (λ more. read_after plan false (n + 1) more lines) (λ first. Err (version_again false n first lines))) new

-- what is known at the end
pub record IsReadTo (plan : SavedPlan) (read : Result StreamRead StreamFault) (stream : StreamRead) : Type 0 where
  pub known : Known
  pub read_is : read ≡ at_end false known
  pub stream_is : known.stream ≡ stream
  pub has_message : known.has_message ≡ true

lines_read : (plan : SavedPlan) (lines : List (List ℕ)) (ms : List StatedMessage) (n : ℕ) (known : Known) → StateEach lines ms → NoVersions ms → known.has_message ≡ true
    → IsReadTo plan (read_after plan false n known lines) (after_messages plan n ms known.stream)
unfolding after_messages
lines_read plan [] [] n known each none has = record { known = known; read_is = refl; stream_is = refl; has_message = has }
lines_read plan [] (m ∷ ms) n known each none has = absurd each
lines_read plan (line ∷ lines) [] n known each none has = absurd each
lines_read plan (line ∷ lines) (m ∷ ms) n known each none has =
    let marked = with_mark line known in
    let new : repeated m marked ≡ None = ap (λ (b : Bool). cond b marked.version None) none.0 in
    let rest = lines_read plan lines ms (n + 1) (with_message plan n m marked) each.2 none.1 refl in
    record {
      known = rest.known;
      read_is = one_read plan n line lines m known each.0 each.1 new ∙ rest.read_is;
      stream_is = rest.stream_is;
      has_message = rest.has_message;
    }

-- a stream that begins with its version
pub version_read : (plan : SavedPlan) (lines : List (List ℕ)) (m : StatedMessage) (ms : List StatedMessage) (n : ℕ) (known : Known) → StateEach lines (m ∷ ms) → known.version ≡ None → NoVersions ms
    → IsReadTo plan (read_after plan false n known lines) (after_messages plan n (m ∷ ms) known.stream)
unfolding after_messages
version_read plan [] m ms n known each first none = absurd each
version_read plan (line ∷ lines) m ms n known each first none =
    let marked = with_mark line known in
    let either_way : (b : Bool) → cond b marked.version None ≡ None = λ b. elim b as (λ b. cond b marked.version None ≡ None) [ true ↦ first | false ↦ refl ] in
    let new : repeated m marked ≡ None = either_way (is_version m.event) in
    let rest = lines_read plan lines ms (n + 1) (with_message plan n m marked) each.2 none refl in
    record {
      known = rest.known;
      read_is = one_read plan n line lines m known each.0 each.1 new ∙ rest.read_is;
      stream_is = rest.stream_is;
      has_message = rest.has_message;
    }

-- ---- what one message makes of the stream

-- an event of a step, or of nothing
abbrev pub IsOfStep : Event → Type 0
IsOfStep (event.Version ui) = ⊥
IsOfStep (event.Step step) = Unit {0}
IsOfStep (event.Provisioner provisioner) = Unit {0}
IsOfStep event.Ephemeral = ⊥
IsOfStep (event.Diagnostic note) = ⊥
IsOfStep (event.Summary summary) = ⊥
IsOfStep (event.Outputs outputs) = ⊥
IsOfStep event.Malformed = ⊥
IsOfStep event.Other = Unit {0}

module _ (plan : SavedPlan) (n second : ℕ) (stream : StreamRead) (begun : Begun) (notes : List Note) (outputs : List recorded.Output) (summary : Option Summary) (form : Bool) (has : HasRead stream begun notes outputs summary form) where
  pub of_step : (e : Event) → IsOfStep e → HasRead (after_message plan n (stated_at second e) stream) (after_stated n (pos second) e begun) notes outputs summary form
  of_step (event.Step step) is = record { begun_is = ap (after_stated n (pos second) (event.Step step)) has.begun_is; notes_are = has.notes_are; outputs_are = has.outputs_are; summary_is = has.summary_is; form_is = has.form_is; no_message = has.no_message; ephemeral = has.ephemeral }
  of_step (event.Provisioner provisioner) is = record { begun_is = ap (after_stated n (pos second) (event.Provisioner provisioner)) has.begun_is; notes_are = has.notes_are; outputs_are = has.outputs_are; summary_is = has.summary_is; form_is = has.form_is; no_message = has.no_message; ephemeral = has.ephemeral }
  of_step event.Other is = record { begun_is = has.begun_is; notes_are = has.notes_are; outputs_are = has.outputs_are; summary_is = has.summary_is; form_is = has.form_is; no_message = has.no_message; ephemeral = has.ephemeral }
  of_step (event.Version ui) is = absurd is
  of_step event.Ephemeral is = absurd is
  of_step (event.Diagnostic note) is = absurd is
  of_step (event.Summary summary) is = absurd is
  of_step (event.Outputs outputs) is = absurd is
  of_step event.Malformed is = absurd is

  pub of_note : (note : Note) → HasRead (after_message plan n (stated_at second (event.Diagnostic note)) stream) begun (notes ++ note ∷ []) outputs summary form
  of_note note = record { begun_is = has.begun_is; notes_are = ap (λ (l : List Note). l ++ note ∷ []) has.notes_are; outputs_are = has.outputs_are; summary_is = has.summary_is; form_is = has.form_is; no_message = has.no_message; ephemeral = has.ephemeral }

  pub of_outputs : (os : List recorded.Output) → HasRead (after_message plan n (stated_at second (event.Outputs os)) stream) begun notes os summary form
  of_outputs os = record { begun_is = has.begun_is; notes_are = has.notes_are; outputs_are = refl; summary_is = has.summary_is; form_is = has.form_is; no_message = has.no_message; ephemeral = has.ephemeral }

  pub of_version : (ui : List ℕ) → HasRead (after_message plan n (stated_at second (event.Version (Some ui))) stream) begun notes outputs summary (bytes_eq ui (codes "1.0"))
  of_version ui = record { begun_is = has.begun_is; notes_are = has.notes_are; outputs_are = has.outputs_are; summary_is = has.summary_is; form_is = refl; no_message = has.no_message; ephemeral = has.ephemeral }

  pub of_apply : HasRead (after_message plan n (stated_at second (event.Summary sums.Apply)) stream) begun notes outputs (Some sums.Apply) form
  of_apply = record { begun_is = has.begun_is; notes_are = has.notes_are; outputs_are = has.outputs_are; summary_is = refl; form_is = has.form_is; no_message = has.no_message; ephemeral = has.ephemeral }

  pub of_destroy : HasRead (after_message plan n (stated_at second (event.Summary sums.Destroy)) stream) begun notes outputs (Some sums.Destroy) form
  of_destroy = record { begun_is = has.begun_is; notes_are = has.notes_are; outputs_are = has.outputs_are; summary_is = refl; form_is = has.form_is; no_message = has.no_message; ephemeral = has.ephemeral }
