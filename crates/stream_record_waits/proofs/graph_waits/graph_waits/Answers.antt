use Rattle.std.proofs.Common.{◌≡◌, arith, length, refl}
use Rattle.stream_record_waits.specs.Recorded.{in_graph}
use Rattle.stream_record_waits.specs.Steps.{lists_in}
use Rattle.stream_record_waits.proofs.FirstWaits.{count_vectors, many_waits, more_vectors}
use Rattle.stream_record_waits.proofs.graph_waits.graph_waits.Goals as goal

pub returns-then-waits_len-count-clause-err : goal.returns-then-waits_len-count-clause-err
returns-then-waits_len-count-clause-err c =
    let was = c.loop-step.invariant.counted in
    let few = c.loop-step.invariant.few in
    let size : c.len-waits_len.result ≡ length c.in_ok-waits.waits.after.items = cc (c.len-waits_len.ensures, c.in_ok-waits.waits.after.ok.0) in
    let more = c.if-waits_len-count.true in
    λ other choices. in_graph (lists_in c.args.graph.now) refl (many_waits c.args.steps.now (lists_in c.args.graph.now) c.loop-step.step (lists_in c.loop-step.after.items) (lists_in c.loop-step.early.items)
    c.in_ok-waits.waits.after.items c.in_ok-waits.waits.early.items c.loop-step.invariant.are c.in_ok-waits.ensures.waits c.loop-step-test.true (omega (arith, was, few, size, more)))

pub returns-then-early_len-count-clause-err : goal.returns-then-early_len-count-clause-err
returns-then-early_len-count-clause-err c =
    let was = c.loop-step.invariant.counted in
    let few = c.loop-step.invariant.few in
    let size : c.len-waits_len.result ≡ length c.in_ok-waits.waits.after.items = cc (c.len-waits_len.ensures, c.in_ok-waits.waits.after.ok.0) in
    let size_early : c.len-early_len.result ≡ length c.in_ok-waits.waits.early.items = cc (c.len-early_len.ensures, c.in_ok-waits.waits.early.ok.0) in
    let less = c.if-waits_len-count.false in
    let more = c.if-early_len-count.true in
    λ other choices. in_graph (lists_in c.args.graph.now) refl (many_waits c.args.steps.now (lists_in c.args.graph.now) c.loop-step.step (lists_in c.loop-step.after.items) (lists_in c.loop-step.early.items)
    c.in_ok-waits.waits.after.items c.in_ok-waits.waits.early.items c.loop-step.invariant.are c.in_ok-waits.ensures.waits c.loop-step-test.true (omega (arith, was, few, size, size_early, less, more)))

pub loop-step-preserved : goal.loop-step-preserved
loop-step-preserved c =
    let was = c.loop-step.invariant.counted in
    let few = c.loop-step.invariant.few in
    let size : c.len-waits_len.result ≡ length c.in_ok-waits.waits.after.items = cc (c.len-waits_len.ensures, c.in_ok-waits.waits.after.ok.0) in
    let size_early : c.len-early_len.result ≡ length c.in_ok-waits.waits.early.items = cc (c.len-early_len.ensures, c.in_ok-waits.waits.early.ok.0) in
    let less = c.if-waits_len-count.false in
    let less_early = c.if-early_len-count.false in
    let counted = count_vectors c.args.steps.now (lists_in c.args.graph.now) c.loop-step.step c.loop-step.after.items c.loop-step.early.items c.push.new.self.items c.push-in-loop-step.new.self.items
    c.in_ok-waits.waits.after c.in_ok-waits.waits.early c.loop-step.invariant.are c.in_ok-waits.ensures.waits c.in_ok-push.ensures.items c.in_ok-push-2.ensures.items in
    record {
      latest = c.in_ok-waits.ensures.latest;
      size = c.in_ok-waits.ensures.size;
      search = c.in_ok-waits.ensures.search;
      are = more_vectors c.args.steps.now (lists_in c.args.graph.now) c.loop-step.step c.loop-step.after.items c.loop-step.early.items c.push.new.self.items c.push-in-loop-step.new.self.items
          c.in_ok-waits.waits.after c.in_ok-waits.waits.early c.loop-step.invariant.are c.in_ok-waits.ensures.waits c.in_ok-push.ensures.items c.in_ok-push-2.ensures.items;
      counted = omega (arith, was, size, size_early, counted);
      few = omega (arith, less, less_early, few);
    }
