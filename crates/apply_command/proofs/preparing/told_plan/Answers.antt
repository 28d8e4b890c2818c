use Rattle.apply_command.proofs.preparing.told_plan.Goals as goal

pub returns-clause-drifts : goal.returns-clause-drifts
returns-clause-drifts c = λ events begun. c.in_ok-kept_drifts.ensures c.args.failed (record { told = c.args.told.now; events = events }) (c.in_ok-lost.ensures events begun)

pub returns-clause-changes : goal.returns-clause-changes
returns-clause-changes c = λ events begun. c.in_ok-kept_changes.ensures c.args.failed (record { told = c.args.told.now; events = events }) (c.in_ok-lost.ensures events begun)

pub returns-clause-totals : goal.returns-clause-totals
returns-clause-totals c = λ events begun. c.totals_of.ensures c.args.failed (record { told = c.args.told.now; events = events }) (c.in_ok-lost.ensures events begun)
