-- Each summary has the totals of what was completed before it.
use Rattle.std.proofs.Common.{◌≡◌, eqb, ℕ, List, [], ◌∷◌, Bool, true, false, cond, Option, Some, None, Result, Ok, Err, refl, ◌∙◌, subst}
use Rattle.std.specs.Prelude.{◌&&◌}
use Rattle.std.specs.List.{AllByRecursion}
use Rattle.std.specs.Option.{option_map_or}
use Rattle.std.proofs.lemmas.Bool.{eqb-true}
use Rattle.stream_check.specs.declared.messages.action.Action.{Action}
use Rattle.stream_check.specs.declared.messages.action.Action.TheVariants.{Create, Update, Delete}
use Rattle.stream_check.specs.declared.messages.timed_stage.TimedStage.{TimedStage}
use Rattle.stream_check.specs.declared.messages.totals.Totals.{Totals}
use Rattle.stream_check.specs.declared.rules.fault.Fault.{Fault}
use Rattle.stream_check.specs.declared.rules.fault.Fault.TheVariants.{AfterSummary, Unended, WrongTotals}
use Rattle.stream_check.specs.Laws.{SumsUp}
use Rattle.stream_check.specs.Lines.{as_first, after_version, next}
use Rattle.stream_check.specs.Message.{Message, version, step, provision, planned, plan_summary, summary, diagnostic, outputs, other, foreign}
use Rattle.stream_check.specs.Open.{any_open}
use Rattle.stream_check.specs.Tally.{completed_totals, completes, is_summary, is_version, line_of, same_totals}
use Rattle.stream_check.proofs.WholeStream.{past_line}
use Rattle.stream_check.proofs.Balance.{Fit}
use Rattle.stream_check.proofs.Counting.{same_counts, uncounted}

abbrev done : List Message → Result (List Message) Fault
done x = Ok x

no_summaries : (t : Totals) (ms : List Message) → line_of is_summary ms ≡ None → AllByRecursion (SumsUp t) ms
no_summaries t [] e = tt
no_summaries t (version ∷ ms) e = (tt, no_summaries t ms e)
no_summaries t (step a k stage ∷ ms) e = (tt, no_summaries t ms e)
no_summaries t (provision a stage ∷ ms) e = (tt, no_summaries t ms e)
no_summaries t (planned intent address ∷ ms) e = (tt, no_summaries t ms e)
no_summaries t (plan_summary said ∷ ms) e = (tt, no_summaries t ms e)
no_summaries t (summary said ∷ ms) e = absurd cc
no_summaries t (diagnostic x a ∷ ms) e = (tt, no_summaries t ms e)
no_summaries t (outputs ∷ ms) e = (tt, no_summaries t ms e)
no_summaries t (other ∷ ms) e = (tt, no_summaries t ms e)
no_summaries t (foreign ∷ ms) e = (tt, no_summaries t ms e)

step_before : (a : List ℕ) (k : Action) (stage : TimedStage) (ms later : List Message) → next ms (step a k stage) ≡ Ok later → line_of is_summary ms ≡ None
step_before a k stage ms later e = by_line (line_of is_version ms) e where
  by_line : (o : Option ℕ) → option_map_or (λ first. after_version ms first (step a k stage)) o (as_first ms (step a k stage)) ≡ Ok later → line_of is_summary ms ≡ None
  by_line None f = absurd cc
  by_line (Some first) f = (past_line AfterSummary (line_of is_summary ms) _ later f).0

and_both : (a b : Bool) → (a && b) ≡ true → (a ≡ true) × (b ≡ true)
and_both true b e = (refl, e)
and_both false b e = absurd cc

same_is_equal : (one two : Totals) → same_totals one two ≡ true → one ≡ two
same_is_equal one two e =
    let p = and_both _ (eqb one.removed two.removed) e in
    let q = and_both (eqb one.added two.added) (eqb one.changed two.changed) p.0 in
    same_counts (eqb-true one.added two.added q.0) (eqb-true one.changed two.changed q.1) (eqb-true one.removed two.removed p.1)

agreed : (t found : Totals) (b c : Bool) (x later : List Message) → cond b (Err Unended) (cond c (done x) (Err (WrongTotals t found))) ≡ Ok later → c ≡ true
agreed t found true c x later e = absurd cc
agreed t found false true x later e = refl
agreed t found false false x later e = absurd cc

summary_agrees : (t : Totals) (ms later : List Message) → next ms (summary t) ≡ Ok later → t ≡ completed_totals ms
summary_agrees t ms later e = by_line (line_of is_version ms) e where
  by_line : (o : Option ℕ) → option_map_or (λ first. after_version ms first (summary t)) o (as_first ms (summary t)) ≡ Ok later → t ≡ completed_totals ms
  by_line None f = absurd cc
  by_line (Some first) f =
      same_is_equal t (completed_totals ms)
      (agreed t (completed_totals ms) (any_open ms) (same_totals t (completed_totals ms)) (summary t ∷ ms) later (past_line AfterSummary (line_of is_summary ms) _ later f).1)

-- after a message that completes nothing, summaries state the same
summed_too : (m : Message) (ms : List Message) → completes Create m ≡ false → completes Update m ≡ false → completes Delete m ≡ false → AllByRecursion (SumsUp (completed_totals ms)) ms → AllByRecursion (SumsUp (completed_totals (m ∷ ms))) ms
summed_too m ms c u d all = subst (λ (t : Totals). AllByRecursion (SumsUp t) ms) (uncounted m ms c u d) all

pub all_sum_up : (ms : List Message) → Fit ms → AllByRecursion (SumsUp (completed_totals ms)) ms
all_sum_up [] fit = tt
all_sum_up (version ∷ ms) fit = (tt, summed_too version ms refl refl refl (all_sum_up ms fit.0))
all_sum_up (step a k stage ∷ ms) fit = (tt, no_summaries _ ms (step_before a k stage ms fit.1.0 fit.1.1))
all_sum_up (provision a stage ∷ ms) fit = (tt, summed_too (provision a stage) ms refl refl refl (all_sum_up ms fit.0))
all_sum_up (planned intent address ∷ ms) fit = (tt, summed_too (planned intent address) ms refl refl refl (all_sum_up ms fit.0))
all_sum_up (plan_summary said ∷ ms) fit = (tt, summed_too (plan_summary said) ms refl refl refl (all_sum_up ms fit.0))
all_sum_up (summary t ∷ ms) fit =
    let same = uncounted (summary t) ms refl refl refl in
    (summary_agrees t ms fit.1.0 fit.1.1 ∙ same, summed_too (summary t) ms refl refl refl (all_sum_up ms fit.0))
all_sum_up (diagnostic x a ∷ ms) fit = (tt, summed_too (diagnostic x a) ms refl refl refl (all_sum_up ms fit.0))
all_sum_up (outputs ∷ ms) fit = (tt, summed_too outputs ms refl refl refl (all_sum_up ms fit.0))
all_sum_up (other ∷ ms) fit = (tt, summed_too other ms refl refl refl (all_sum_up ms fit.0))
all_sum_up (foreign ∷ ms) fit = (tt, summed_too foreign ms refl refl refl (all_sum_up ms fit.0))
