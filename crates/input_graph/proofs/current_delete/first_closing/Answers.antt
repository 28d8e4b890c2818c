use Rattle.std.proofs.Common.{◌≤◌, ◌∙◌, ℕ, length, sym, subst}
use Rattle.input_graph.proofs.Opening.{closing_is, closing_within}
use Rattle.input_graph.proofs.current_delete.first_closing.Goals as goal

pub returns-clause-value : goal.returns-clause-value
returns-clause-value c = c.unwrap_or.ensures ∙ closing_is c.args.bytes.now c.memchr.result c.memchr.ensures

pub returns-clause-bound : goal.returns-clause-bound
returns-clause-bound c = subst (λ (n : ℕ). n ≤ length c.args.bytes.now) (sym c.unwrap_or.ensures) (closing_within c.args.bytes.now c.memchr.result c.memchr.ensures)
