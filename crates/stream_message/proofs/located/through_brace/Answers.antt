use Rattle.std.proofs.Common.{ap, sym, ◌∙◌, Some, add-one, arith, take}
use Rattle.stream_message.proofs.Marks.{last_brace, no_brace_in}
use Rattle.stream_message.proofs.located.through_brace.Goals as goal

pub returns-in-None-clause-value : goal.returns-in-None-clause-value
returns-in-None-clause-value c = sym (no_brace_in c.args.text.now (λ k below is. c.in-None.ensures k (omega arith) below is))

pub returns-in-Some-clause-value : goal.returns-in-Some-clause-value
returns-in-Some-clause-value c =
    ap Some (c.split_at.ensures.front ∙ ap (λ n. take n c.args.text.now) (add-one c.in-Some.end))
    ∙ sym (last_brace c.args.text.now c.in-Some.end c.in-Some.ensures.0.high c.in-Some.ensures.1 (λ k over under is. c.in-Some.ensures.0.after k (omega arith) under is))
