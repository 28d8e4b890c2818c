use Rattle.std.proofs.Common.{◌-◌, arith, sym, ◌∙◌}
use Rattle.stream_watch.specs.Steps.{runs_at, step_view}
use Rattle.stream_watch.proofs.StepPlaces.{walk_ends, walk_goes_on}
use Rattle.stream_watch.proofs.steps.OpenSteps.last_at.Goals as goal

pub returns-then-runs_at : goal.returns-then-runs_at
returns-then-runs_at c =
    sym (walk_ends step_view (runs_at c.args.address.now) c.args.self.now.list.items (c.loop-index.index - 1) c.loop-index.index c.index.result.now (omega arith) (omega arith) c.index.ensures
    c.loop-index.invariant.1
    (sym c.runs_at.ensures ∙ c.if-runs_at.true))

pub loop-index-preserved : goal.loop-index-preserved
loop-index-preserved c = (
  omega arith,
  walk_goes_on step_view (runs_at c.args.address.now) c.args.self.now.list.items (c.loop-index.index - 1) c.loop-index.index c.index.result.now (omega arith) (omega arith) c.index.ensures
      c.loop-index.invariant.1
      (sym c.runs_at.ensures ∙ c.if-runs_at.false),
)
