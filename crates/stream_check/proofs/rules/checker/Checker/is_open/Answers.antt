use Rattle.stream_check.proofs.Held.{open_is}
use Rattle.stream_check.proofs.rules.checker.Checker.is_open.Goals as goal

pub returns : goal.returns
returns c = λ messages read.
    let m = c.args.self.now.pending.states in
    let refreshes = c.criteria.ensures.refreshes in
    let failures = c.criteria.ensures.failures in
    open_is c.args.self.now messages c.has_open.result read
    (λ there. let at = c.has_open.ensures.some there in (at.0, rw (refreshes, failures) at at.1))
    (λ none a. rw (refreshes, failures) at (c.has_open.ensures.none none a))
