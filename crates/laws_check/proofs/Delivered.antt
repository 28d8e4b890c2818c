-- A stream that was delivered, and what is reported of it.
use Rattle.std.proofs.Common.{◌≡◌, ◌+◌, ℕ, Bool, false, List, [], nat_lt, Option, Some, None, Ok, sym, ap, ◌∙◌, subst}
use Rattle.std.specs.Io.KnownBytes.{Appends}
use Rattle.apply_plan.specs.Plan.SavedPlan.{SavedPlan}
use Rattle.stream_lines.specs.Cut.{cut_lines}
use Rattle.stream_check.specs.Lines.{verdict_of}
use Rattle.apply_events.specs.declared.counts.Counts.{Counts}
use Rattle.apply_events.specs.declared.event.Event.{Event}
use Rattle.apply_writer.specs.declared.report.Report.{Report}
use Rattle.apply_writer.specs.Stream.Delivered.{IsDelivered}
use Rattle.laws_check.specs.Accepted.{totals_of_counts, whole_stream}
use Rattle.laws_check.specs.Applied.{HasShortLines, whole_reported}
use Rattle.laws_check.specs.Passing.{plain}

module _ (plan : SavedPlan) (events : List Event) (stream : List ℕ) (report : Report) (before after : Option (List ℕ)) (delivered : IsDelivered plan events stream report before after) where
  reported : whole_stream plan events ≡ whole_reported report
  reported =
      sym (ap (λ (counts : Counts). record { totals = totals_of_counts counts; has_errors = nat_lt 0 (counts.failed + counts.halted); lines = report.taken + 2; is_plan = false; passed = None }) delivered.counts
      ∙ ap (λ (taken : ℕ). record { totals = (whole_stream plan events).totals; has_errors = (whole_stream plan events).has_errors; lines = taken + 2; is_plan = false; passed = None }) delivered.taken)

  pub stream_reported : (plans : Bool) → verdict_of (plain plans) (cut_lines stream) ≡ Ok (whole_stream plan events) → verdict_of (plain plans) (cut_lines stream) ≡ Ok (whole_reported report)
  stream_reported plans verdict = verdict ∙ ap Ok reported

  -- a sink that had no bytes and knows its bytes has the stream
  pub stream_is : (bytes : List ℕ) → before ≡ Some [] → after ≡ Some bytes → stream ≡ bytes
  stream_is bytes none all =
      sym (subst (λ (o : Option (List ℕ)). Appends o (Some bytes) stream) none (subst (λ (o : Option (List ℕ)). Appends before o stream) all delivered.appended))

  pub bytes_reported : (plans : Bool) (bytes : List ℕ) → before ≡ Some [] → after ≡ Some bytes → HasShortLines bytes → (HasShortLines stream → verdict_of (plain plans) (cut_lines stream) ≡ Ok (whole_stream plan events))
      → verdict_of (plain plans) (cut_lines bytes) ≡ Ok (whole_reported report)
  bytes_reported plans bytes none all short verdict =
      let same = stream_is bytes none all in
      ap (λ (b : List ℕ). verdict_of (plain plans) (cut_lines b)) (sym same) ∙ stream_reported plans (verdict (subst HasShortLines (sym same) short))
