use Rattle.std.proofs.Common.{◌≡◌, ◌+◌, ◌∙◌, ℕ, List, [], length, Option, Result, Ok, Err, sym, refl, ap}
use Rattle.stream_check.specs.Lines.{at_line, passed_of, verdict_after}
use Rattle.stream_check.specs.declared.verdict.finding.Finding.{Finding}
use Rattle.stream_check.specs.declared.verdict.whole.Whole.{Whole}
use Rattle.stream_check.proofs.Continuing.{line_count}
use Rattle.stream_check.proofs.WholeStream.{finding_at, is_done}
use Rattle.stream_check.proofs.verdict.judge.Judge.end.Goals as goal

pub returns-in_ok-whole_text-in-Ok : goal.returns-in_ok-whole_text-in-Ok
returns-in_ok-whole_text-in-Ok c = λ messages has. record {
  answer = is_done c.args.self.now.mode messages (verdict_after c.args.self.now.mode messages []) refl
      ∙ ap (at_line c.args.self.now.mode messages (length messages)) (sym (c.in-Ok.ensures messages has));
  text = c.in_ok-whole_text-in-Ok.ensures;
}

pub returns-in_ok-finding-in-Err : goal.returns-in_ok-finding-in-Err
returns-in_ok-finding-in-Err c = λ messages has.
    let found = c.in_ok-finding-in-Err.ensures messages has in
    let number : length messages ≡ c.count.result = sym (line_count c.args.self.now.checker messages has) ∙ sym c.count.ensures in
    record {
      answer = is_done c.args.self.now.mode messages (verdict_after c.args.self.now.mode messages []) refl
          ∙ ap (at_line c.args.self.now.mode messages (length messages)) (sym (c.in-Err.ensures messages has))
          ∙ ap (λ (n : ℕ). finding_at c.args.self.now.mode messages n c.in-Err.fault) number
          ∙ ap (λ (x : Finding). let e : Result Whole Finding = Err x in e) (sym found.1);
      text = tt;
    }
