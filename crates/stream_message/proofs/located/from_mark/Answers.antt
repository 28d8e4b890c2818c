use Rattle.std.proofs.Common.{ap, sym, ◌∙◌, Some, arith}
use Rattle.stream_message.proofs.Marks.{first_mark, no_mark_in}
use Rattle.stream_message.proofs.located.from_mark.Goals as goal

pub returns-in-None-clause-value : goal.returns-in-None-clause-value
returns-in-None-clause-value c = sym (no_mark_in c.args.text.now (λ k below o. c.in-None.ensures k (omega arith) below o))

pub returns-in-Some-clause-value : goal.returns-in-Some-clause-value
returns-in-Some-clause-value c =
    ap Some c.split_at.ensures.back ∙ sym (first_mark c.args.text.now c.in-Some.start c.in-Some.ensures.1 (λ k below o. c.in-Some.ensures.0.before k (omega arith) below o))
