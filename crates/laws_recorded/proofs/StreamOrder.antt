-- A stream keeps the order in which steps began and ended, line by line.
use Rattle.std.proofs.Common.{◌≡◌, ◌+◌, ℕ, Bool, true, false, cond, List, [], ◌∷◌, length, Option, None, Some, Ok, Err, refl, arith, subst}
use Rattle.std.specs.Prelude.{◌&&◌, Result, ltb, not}
use Rattle.std.specs.Option.{option_map_or}
use Rattle.apply_model.specs.Plan.SavedPlan.{SavedPlan}
use Rattle.stream_lines.specs.Limits.{max_bytes}
use Rattle.stream_record_lines.specs.Lines.{stated_line}
use Rattle.stream_record_lines.specs.declared.event.Event.{Event}
use Rattle.stream_record_lines.specs.declared.event.Event.TheVariants as event
use Rattle.stream_record_lines.specs.declared.stated_line.StatedLine.{StatedLine}
use Rattle.stream_record_lines.specs.declared.stated_line.StatedLine.TheVariants.{Foreign, NoMessage, Message}
use Rattle.stream_record_lines.specs.declared.stated_message.StatedMessage.{StatedMessage}
use Rattle.stream_record_lines.specs.declared.summary.Summary.{Summary}
use Rattle.stream_record_lines.specs.declared.summary.Summary.TheVariants as sums
use Rattle.stream_record_steps.specs.Steps.{planned_steps}
use Rattle.stream_record_stream.specs.Reading.{Known, at_end, either, is_of_another_plan, nothing_known, read_after, read_of, repeated, version_again, with_line, with_mark, with_message, with_stated}
use Rattle.stream_record_stream.specs.Streams.{StreamRead, with_event, with_second, with_summary}
use Rattle.stream_record_stream.specs.declared.stream_fault.StreamFault.TheVariants as fault
use Rattle.laws_recorded.specs.Begins.{BeginInOrder}
use Rattle.laws_recorded.proofs.BegunOrder.{IsKept, later, none_kept, odd_kept, provisioner_kept, step_kept}
use Rattle.laws_recorded.proofs.Places.{have_places}

module _ (plan : SavedPlan) where
  abbrev Keeps : ℕ → StreamRead → Type 0
  Keeps line stream = IsKept (planned_steps plan.changes) line stream.begun

  next : (line : ℕ) (stream : StreamRead) → IsKept (planned_steps plan.changes) line stream.begun → IsKept (planned_steps plan.changes) (line + 1) stream.begun
  next line stream kept = later (planned_steps plan.changes) line (line + 1) stream.begun (omega arith) kept

  summary_keeps : (line : ℕ) (summary : Summary) (stream : StreamRead) → IsKept (planned_steps plan.changes) line stream.begun
      → IsKept (planned_steps plan.changes) line (with_summary plan summary stream).begun
  summary_keeps line sums.Plan stream kept = none_kept (planned_steps plan.changes) line
  summary_keeps line sums.Apply stream kept = kept
  summary_keeps line sums.Destroy stream kept = kept

  event_keeps : (line : ℕ) (stated : Event) (stream : StreamRead) → IsKept (planned_steps plan.changes) line stream.begun
      → IsKept (planned_steps plan.changes) (line + 1) (with_event plan line stated stream).begun
  event_keeps line (event.Version ui) stream kept = next line stream kept
  event_keeps line (event.Step step) stream kept = step_kept (planned_steps plan.changes) (have_places plan.changes) line stream.last_second stream.begun kept step
  event_keeps line (event.Provisioner provisioner) stream kept =
      provisioner_kept (planned_steps plan.changes) (have_places plan.changes) line stream.last_second stream.begun kept provisioner
  event_keeps line event.Ephemeral stream kept = next line stream kept
  event_keeps line (event.Diagnostic note) stream kept = next line stream kept
  event_keeps line (event.Summary summary) stream kept = later (planned_steps plan.changes) line (line + 1) _ (omega arith) (summary_keeps line summary stream kept)
  event_keeps line (event.Outputs outputs) stream kept = next line stream kept
  event_keeps line event.Malformed stream kept = later (planned_steps plan.changes) line (line + 1) _ (omega arith) (odd_kept (planned_steps plan.changes) line line stream.begun kept)
  event_keeps line event.Other stream kept = next line stream kept

  read : {A E : Type 0} (made : Result A E) (a b : A) → made ≡ Ok a → made ≡ Ok b → a ≡ b
  read made a b one other = cc

  message_keeps : (number : ℕ) (message : StatedMessage) (known new : Known) (again : Option ℕ) → IsKept (planned_steps plan.changes) number known.stream.begun
      → option_map_or Err again (Ok (with_message plan number message known)) ≡ Ok new → IsKept (planned_steps plan.changes) (number + 1) new.stream.begun
  message_keeps number message known new None kept same =
      subst (λ (k : Known). IsKept (planned_steps plan.changes) (number + 1) k.stream.begun) (read _ (with_message plan number message known) new refl same)
      (event_keeps number message.event (with_second message.second known.stream) kept)
  message_keeps number message known new (Some first) kept same = absurd cc

  stated_keeps : (number : ℕ) (line : StatedLine) (known new : Known) → IsKept (planned_steps plan.changes) number known.stream.begun → with_stated plan number line known ≡ Ok new
      → IsKept (planned_steps plan.changes) (number + 1) new.stream.begun
  stated_keeps number Foreign known new kept same =
      subst (λ (k : Known). IsKept (planned_steps plan.changes) (number + 1) k.stream.begun) (read _ known new refl same) (next number known.stream kept)
  stated_keeps number NoMessage known new kept same =
      subst (λ (k : Known). IsKept (planned_steps plan.changes) (number + 1) k.stream.begun) (read _ _ new refl same) (next number known.stream kept)
  stated_keeps number (Message message) known new kept same = message_keeps number message known new (repeated message known) kept same

  -- ---- all lines

  end_keeps : (find : Bool) (number : ℕ) (known : Known) (stream : StreamRead) → IsKept (planned_steps plan.changes) number known.stream.begun → at_end find known ≡ Ok stream
      → IsKept (planned_steps plan.changes) number stream.begun
  end_keeps find number known stream kept is = of known.has_message (is_of_another_plan known.stream.begun) is
    where
      of : (has another : Bool)
          → cond (not has) (Err (fault.NoMessage (not find && known.has_mark))) (cond another (Err fault.NoStepOfPlan) (Ok known.stream)) ≡ Ok stream
          → IsKept (planned_steps plan.changes) number stream.begun
      of false another same = absurd cc
      of true true same = absurd cc
      of true false same = let it : known.stream ≡ stream = cc in subst (λ (s : StreamRead). IsKept (planned_steps plan.changes) number s.begun) it kept

  -- what is kept of a stream in the end
  abbrev EndsKept : StreamRead → Type 0
  EndsKept stream = (number : ℕ) × IsKept (planned_steps plan.changes) number stream.begun

  all_keep : (find : Bool) (number : ℕ) (known : Known) (lines : List (List ℕ)) (stream : StreamRead) → IsKept (planned_steps plan.changes) number known.stream.begun
      → read_after plan find number known lines ≡ Ok stream → (last : ℕ) × IsKept (planned_steps plan.changes) last stream.begun
  all_keep find number known [] stream kept is = (number, end_keeps find number known stream kept is)
  all_keep find number known (line ∷ lines) stream kept is =
      of (ltb max_bytes (length line)) (with_line plan find number line known) refl is (λ more keeps rest. all_keep find (number + 1) more lines stream keeps rest)
    where
      of : (long : Bool) (made : Result Known ℕ) → with_line plan find number line known ≡ made
          → cond long (Err (fault.TooLong number)) (either made (λ more. read_after plan find (number + 1) more lines) (λ first. Err (version_again find number first lines))) ≡ Ok stream
          → ((more : Known) → IsKept (planned_steps plan.changes) (number + 1) more.stream.begun → read_after plan find (number + 1) more lines ≡ Ok stream
          → (last : ℕ) × IsKept (planned_steps plan.changes) last stream.begun)
          → (last : ℕ) × IsKept (planned_steps plan.changes) last stream.begun
      of true made at same rest = absurd cc
      of false (Err first) at same rest = absurd cc
      of false (Ok more) at same rest = rest more (stated_keeps number (stated_line find line) (with_mark line known) more kept at) same

  pub stream_in_order : (find : Bool) (before : ℕ) (lines : List (List ℕ)) (stream : StreamRead) → read_of plan find before lines ≡ Ok stream
      → (stream.begun.planned ≡ planned_steps plan.changes) × BeginInOrder stream.begun
  stream_in_order find before lines stream is =
      let last = all_keep find (before + 1) (nothing_known plan) lines stream (none_kept (planned_steps plan.changes) (before + 1)) is in
      (last.1.0, last.1.1)
