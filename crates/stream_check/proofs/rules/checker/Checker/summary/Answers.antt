use Rattle.std.proofs.Common.{◌≡◌, ◌∷◌, ◌∙◌, ap, refl, sym, true, false}
use Rattle.stream_check.specs.declared.rules.tally.Tally.{Tally}
use Rattle.stream_check.specs.Message.{summary}
use Rattle.stream_check.specs.Open.{any_open}
use Rattle.stream_check.specs.Tallied.{with_summary}
use Rattle.stream_check.specs.Tally.{completed_totals, same_totals}
use Rattle.stream_check.proofs.Continuing.{after_summary, no_summary, plain_read, still_summary}
use Rattle.stream_check.proofs.Counting.{summary_tallied}
use Rattle.stream_check.proofs.Summing.{summed_right}
use Rattle.stream_check.proofs.rules.checker.Checker.summary.Goals as goal

pub returns : goal.returns
returns c = λ messages read.
    let closed : any_open messages ≡ false = sym (c.is_open.ensures messages read) ∙ c.if-is_open.false in
    let right : same_totals c.args.totals (completed_totals messages) ≡ true = ap (λ (t : Tally). same_totals c.args.totals t.completed) (sym read.tally) ∙ sym c.if-not-agree.ensures in (
      summary c.args.totals ∷ messages,
      summed_right messages c.args.totals (no_summary c.args.self.now messages read c.in_default.not-Some) closed right,
      plain_read c.args.self.now _ (summary c.args.totals) messages with_summary read (λ b. refl) (λ b. refl) c.with_summary-self.ensures.value (summary_tallied c.args.totals messages) (still_summary c.args.totals messages),
    )

pub returns-in-Some : goal.returns-in-Some
returns-in-Some c = λ messages read. after_summary c.args.self.now messages c.in-Some.line _ read c.in-Some.is

pub with_summary-self-requires : goal.with_summary-self-requires
with_summary-self-requires c = record { few = c.requires; small = c.args.self.now.small }

pub invariant_of-self : goal.invariant_of-self
invariant_of-self c = record { small = c.with_summary-self.ensures.small }
