use Rattle.stream_check.proofs.OpenEntries.{from_both, unbegun_listed}
use Rattle.stream_check.proofs.rules.checker.Checker.unbegun_entries.Goals as goal

pub returns : goal.returns
returns c =
    from_both c.entries.result _ _ _
    (λ entries sorted listed. λ messages read. unbegun_listed c.args.self.now messages entries.items read sorted listed)
    c.entries.ensures.in_order c.entries.ensures.listed
