use Rattle.std.proofs.Common.{◌≡◌, ◌∙◌, ap, arith, length, List, ℕ, Bor, Some, not}
use Rattle.std.specs.Prelude.{slice_get}
use Rattle.std.proofs.lemmas.List.{length-map}
use Rattle.input_graph.specs.AllWaits.{lists_in}
use Rattle.input_graph.specs.Targets.{texts}
use Rattle.input_graph.proofs.NumberSearch.{begins, finds_all, goes_by_step, goes_through, node_within, read_at, step_there}
use Rattle.input_graph.proofs.reached.reached_nodes.Goals as goal
use Rattle.input_graph.proofs.reached.reached_nodes.Goals.{then-is_none+in_ok-add_targets-2, else-is_none}

pub nodes-init : goal.nodes-init
nodes-init c =
    let graph = c.args.graph.now in
    let long : length (texts graph.names.keys) ≡ length graph.names.keys = length-map graph.names.keys (λ (reference : Bor (List ℕ)). reference.now) in
    let start = c.requires.start in (
      begins graph.nodes.now graph.edges (texts graph.names.keys) (lists_in graph.targets.items) graph.step_of.items graph.starts.items c.requires.numbered c.args.start c.add_targets.new.found.items
          (omega (arith, start, long)) (rw c.new-found.ensures.items at c.in_ok-add_targets.ensures.joined),
      c.in_ok-add_targets.ensures.seen,
    )

pub returns-then-place-len-clause-reached : goal.returns-then-place-len-clause-reached
returns-then-place-len-clause-reached c =
    let graph = c.args.graph.now in
    finds_all graph.nodes.now graph.edges (texts graph.names.keys) (lists_in graph.targets.items) graph.step_of.items graph.starts.items c.requires.numbered c.args.start c.nodes.place c.nodes.found.items
    c.nodes.invariant.0 (omega arith)

pub index-requires : goal.index-requires
index-requires c =
    let graph = c.args.graph.now in
    let here = read_at c.nodes.found.items c.nodes.place c.index-node.result.now (omega arith) c.index-node.ensures in
    let inside = node_within graph.nodes.now graph.edges (texts graph.names.keys) (lists_in graph.targets.items) graph.step_of.items graph.starts.items c.requires.numbered c.args.start c.nodes.place c.nodes.found.items
    c.index-node.result.now c.nodes.invariant.0 here in
    let there = step_there graph.nodes.now graph.edges (texts graph.names.keys) (lists_in graph.targets.items) graph.step_of.items graph.starts.items c.requires.numbered c.index-node.result.now inside in
    let ok = graph.step_of.ok.0 in
    omega (arith, there, ok)

pub add_targets-requires-then-is_none-clause-node : goal.add_targets-requires-then-is_none-clause-node
add_targets-requires-then-is_none-clause-node c =
    let graph = c.args.graph.now in
    let here = read_at c.nodes.found.items c.nodes.place c.index-node.result.now (omega arith) c.index-node.ensures in
    let inside = node_within graph.nodes.now graph.edges (texts graph.names.keys) (lists_in graph.targets.items) graph.step_of.items graph.starts.items c.requires.numbered c.args.start c.nodes.place c.nodes.found.items
    c.index-node.result.now c.nodes.invariant.0 here in
    let long : length (texts c.args.graph.now.names.keys) ≡ length c.args.graph.now.names.keys = length-map c.args.graph.now.names.keys (λ (reference : Bor (List ℕ)). reference.now) in
    omega (arith, inside, long)

pub nodes-preserved : goal.nodes-preserved
nodes-preserved c =
    let graph = c.args.graph.now in
    let here = read_at c.nodes.found.items c.nodes.place c.index-node.result.now (omega arith) c.index-node.ensures in
    let inside = node_within graph.nodes.now graph.edges (texts graph.names.keys) (lists_in graph.targets.items) graph.step_of.items graph.starts.items c.requires.numbered c.args.start c.nodes.place c.nodes.found.items
    c.index-node.result.now c.nodes.invariant.0 here in
    let there = step_there graph.nodes.now graph.edges (texts graph.names.keys) (lists_in graph.targets.items) graph.step_of.items graph.starts.items c.requires.numbered c.index-node.result.now inside in
    let of_is : slice_get graph.step_of.items c.index-node.result.now ≡ Some c.index.result.now = read_at graph.step_of.items c.index-node.result.now c.index.result.now there c.index.ensures in
    elim c.if-is_none.branch [
      | then-is_none+in_ok-add_targets-2 w ↦
          rw (w.found-is, w.seen-is) (
            goes_through graph.nodes.now graph.edges (texts graph.names.keys) (lists_in graph.targets.items) graph.step_of.items graph.starts.items c.requires.numbered c.args.start c.nodes.place
                c.nodes.found.items c.index-node.result.now c.nodes.invariant.0 here c.index.result.now _ of_is (c.is_none.ensures ∙ ap not w.if-is_none.true) w.in_ok-add_targets-2.ensures.joined,
            w.in_ok-add_targets-2.ensures.seen,
          )
      | else-is_none w ↦
          rw (w.found-is, w.seen-is) (
            goes_by_step graph.nodes.now graph.edges (texts graph.names.keys) (lists_in graph.targets.items) graph.step_of.items graph.starts.items c.requires.numbered c.args.start c.nodes.place
                c.nodes.found.items c.index-node.result.now c.nodes.invariant.0 here c.index.result.now of_is (c.is_none.ensures ∙ ap not w.if-is_none.false),
            c.nodes.invariant.1,
          )
    ]
