use Rattle.std.proofs.Common.{◌≡◌, length}
use Rattle.apply_plan.specs.Script.EntriesView.{AreCovered}
use Rattle.apply_plan.proofs.script.entries.clear_outcomes.Given as goal

abbrev pub invariant-loop-change : goal.invariant-loop-change
invariant-loop-change l = AreCovered l.outcomes l.step_counts.items × (length l.outcomes ≡ length l.initial.outcomes)

abbrev pub decreases-loop-change : goal.decreases-loop-change
decreases-loop-change l = length l.step_counts.items
