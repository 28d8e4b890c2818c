use Rattle.std.proofs.Common.{◌≡◌, ◌∙◌, ◌<◌, ◌+◌, ◌*◌, ◌/◌, None, Option, ap, arith}
use Rattle.std.proofs.lemmas.List.{get_or_read, length-set}
use Rattle.stream_record_waits.specs.declared.course.ReadyTurn.{ReadyTurn}
use Rattle.stream_record_waits.specs.ReadyTurns.{first_of, node_at}
use Rattle.stream_record_waits.proofs.TurnTree.{above_set, child_of, elsewhere}
use Rattle.stream_record_waits.proofs.ready_turns.ReadyTurns.set.Goals as goal

pub loop-node-preserved : goal.loop-node-preserved
loop-node-preserved c =
    let node = c.loop-node.node in
    let half = node / 2 in
    let count = c.loop-node.self.count in
    let nodes = c.loop-node.self.nodes.items in
    let kept = c.loop-node.invariant in
    let size = kept.size in
    let inside = kept.inside in
    let more : 1 < node = c.loop-node-test.true in
    let some : 0 < half = omega (arith, more) in
    let low : half < count = omega (arith, inside) in
    let one : c.index.result.now ≡ node_at nodes (2 * half) = get_or_read nodes (2 * half) c.index.result.now (omega (arith, size, low)) c.index.ensures None in
    let other : c.index-in-loop-node.result.now ≡ node_at nodes (2 * half + 1) =
    get_or_read nodes (2 * half + 1) c.index-in-loop-node.result.now (omega (arith, size, low)) c.index-in-loop-node.ensures None in
    let is : c.first_of.result ≡ first_of (node_at nodes (2 * half)) (node_at nodes (2 * half + 1)) =
    c.first_of.ensures ∙ ap (λ (o : Option ReadyTurn). first_of o c.index-in-loop-node.result.now) one ∙ ap (first_of (node_at nodes (2 * half))) other in
    record {
      some = some;
      inside = omega (arith, low);
      count = kept.count;
      size = length-set nodes half c.first_of.result ∙ size;
      past = above_set nodes half c.first_of.result count node some (omega (arith, size, low)) (child_of node) is kept.past;
      turn = elsewhere nodes half c.first_of.result (count + c.args.step) (λ same. omega (arith, same, low)) ∙ kept.turn;
      others = λ step within ne. elsewhere nodes half c.first_of.result (count + step) (λ same. omega (arith, same, low)) ∙ kept.others step within ne;
    }
