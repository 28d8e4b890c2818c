use Rattle.std.proofs.Common.{◌≡◌, ◌<◌, ◌+◌, ℕ, List, length, sym, arith, subst}
use Rattle.input_graph.specs.AllWaits.{lists_in}
use Rattle.input_graph.specs.Targets.{edge_texts}
use Rattle.input_graph.specs.Waits.{AreWaits}
use Rattle.input_graph.proofs.Counted.{AreCounted, more_counted, too_many}
use Rattle.input_graph.proofs.waits.all_waits.Goals as goal

pub returns-then-len-count-clause-err : goal.returns-then-len-count-clause-err
returns-then-len-count-clause-err c =
    let edges : List (List ℕ × List ℕ) = edge_texts c.args.edges.items in
    let are : AreWaits c.args.nodes.now edges c.loop-step.step c.in_ok-waits.waits.items =
    rw (c.in_ok-graph.ensures.nodes, c.in_ok-graph.ensures.edges, c.in_ok-new.ensures) at c.in_ok-waits.ensures.waits in
    let size : c.len-len.result ≡ length c.in_ok-waits.waits.items = cc (c.len-len.ensures, c.in_ok-waits.waits.ok.0) in
    let more = c.if-len-count.true in
    let within : c.loop-step.step < length c.args.nodes.now = omega (arith, c.loop-step-test.true, c.len-step-end.ensures) in
    let few = c.loop-step.invariant.few in
    too_many c.args.nodes.now edges c.loop-step.all.items c.loop-step.step c.loop-step.count c.in_ok-waits.waits c.loop-step.invariant.are are within few (omega (arith, more, size))

pub loop-step-preserved : goal.loop-step-preserved
loop-step-preserved c =
    let edges : List (List ℕ × List ℕ) = edge_texts c.args.edges.items in
    let are : AreWaits c.args.nodes.now edges c.loop-step.step c.in_ok-waits.waits.items =
    rw (c.in_ok-graph.ensures.nodes, c.in_ok-graph.ensures.edges, c.in_ok-new.ensures) at c.in_ok-waits.ensures.waits in
    let size : c.len-len.result ≡ length c.in_ok-waits.waits.items = cc (c.len-len.ensures, c.in_ok-waits.waits.ok.0) in
    let less = c.if-len-count.false in
    let few = c.loop-step.invariant.few in
    record {
      are = subst (λ (n : ℕ). AreCounted c.args.nodes.now edges (lists_in c.push.new.self.items) (c.loop-step.step + 1) (c.loop-step.count + n)) (sym size)
          (more_counted c.args.nodes.now edges c.loop-step.all.items c.loop-step.step c.loop-step.count c.in_ok-waits.waits c.loop-step.invariant.are are c.push.new.self.items c.in_ok-push.ensures.items);
      few = omega (arith, less, few);
      each = c.in_ok-waits.ensures.each;
      marks = c.in_ok-waits.ensures.marks;
    }
