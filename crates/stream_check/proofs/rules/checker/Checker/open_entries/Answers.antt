use Rattle.stream_check.proofs.OpenEntries.{from_both, listed_where}
use Rattle.stream_check.proofs.rules.checker.Checker.open_entries.Goals as goal

pub returns : goal.returns
returns c =
    from_both c.open_entries.result _ _ _
    (λ entries sorted listed. λ messages read. listed_where c.args.self.now messages entries.items c.criteria.result.refreshes c.criteria.result.failures c.criteria.ensures.refreshes c.criteria.ensures.failures read sorted listed)
    c.open_entries.ensures.in_order c.open_entries.ensures.listed
