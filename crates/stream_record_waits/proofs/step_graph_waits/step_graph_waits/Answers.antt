use Rattle.std.proofs.Common.{◌≡◌, ◌∙◌, Option, Some, ap, subst, sym}
use Rattle.std.specs.Prelude.{filter}
use Rattle.stream_record_waits.specs.declared.step_of_plan.StepRun.{StepRun}
use Rattle.stream_record_waits.specs.Graph.{AreStepWaits}
use Rattle.stream_record_waits.specs.Reached.{is_early, is_wait}
use Rattle.stream_record_waits.specs.Steps.{lists_in, step_at}
use Rattle.stream_record_waits.proofs.InOrder.{early_are, waits_are}
use Rattle.stream_record_waits.proofs.step_graph_waits.step_graph_waits.Goals as goal

pub returns-in_ok-early-in-Some-clause-waits : goal.returns-in_ok-early-in-Some-clause-waits
returns-in_ok-early-in-Some-clause-waits c =
    let is : (step_at c.args.steps.now c.args.step).run ≡ Some c.in-Some.run' = c.in-Some.is in
    let graph = lists_in c.args.graph.now in
    let found = c.search.new.self.steps.items in
    let line = c.in-Some.run'.line in
    subst (λ (run : Option StepRun). AreStepWaits c.args.steps.now graph c.args.step run c.in_order.result.items c.in_order-in-Some.result.items) (sym is) (
      waits_are c.args.steps.now graph c.args.step line found c.in_ok-after-in-Some.after.items c.in_order.result.items
          c.in_ok-search-in-Some.ensures.sound c.in_ok-search-in-Some.ensures.complete
          (c.in_ok-after-in-Some.ensures ∙ ap (filter (is_wait c.args.steps.now c.args.step line)) c.as_slice.ensures.value) c.in_order.ensures,
      early_are c.args.steps.now graph c.args.step line found c.in_ok-early-in-Some.early.items c.in_order-in-Some.result.items
          c.in_ok-search-in-Some.ensures.sound c.in_ok-search-in-Some.ensures.complete
          (c.in_ok-early-in-Some.ensures ∙ ap (filter (is_early c.args.steps.now line)) c.as_slice-in-Some.ensures.value) c.in_order-in-Some.ensures,
    )
