use Rattle.std.proofs.Common.{◌≡◌, ◌∙◌, sym, true, false}
use Rattle.std.specs.Prelude.{◌&&◌, is_some, not}
use Rattle.stream_check.proofs.Held.{planned_is, unbegun_is}
use Rattle.stream_check.proofs.rules.checker.Checker.leaves_planned.Goals as goal

pub returns-then-is_summed_up : goal.returns-then-is_summed_up
returns-then-is_summed_up c = λ messages read.
    let checker = c.args.self.now in
    let summed : (is_some checker.tally.summary && not checker.tally.has_failed) ≡ true = sym c.ends_without_error-is_summed_up.ensures ∙ c.if-is_summed_up.true in
    let any = unbegun_is checker messages c.is_any-is_any.result read c.is_any-is_any.ensures.some c.is_any-is_any.ensures.none in
    rw summed at (planned_is checker messages c.is_any-is_any.result read any)

pub returns-else-is_summed_up : goal.returns-else-is_summed_up
returns-else-is_summed_up c = λ messages read.
    let checker = c.args.self.now in
    let unsummed : (is_some checker.tally.summary && not checker.tally.has_failed) ≡ false = sym c.ends_without_error-is_summed_up.ensures ∙ c.if-is_summed_up.false in
    let any = unbegun_is checker messages c.is_any-is_any.result read c.is_any-is_any.ensures.some c.is_any-is_any.ensures.none in
    c.if-is_summed_up.false ∙ rw unsummed at (planned_is checker messages c.is_any-is_any.result read any)
