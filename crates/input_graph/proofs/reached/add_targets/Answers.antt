use Rattle.std.proofs.Common.{◌≡◌, ◌<◌, ◌∙◌, sym, arith, subst, length, get_or, All, List, ℕ, [], Bor}
use Rattle.std.specs.Prelude.{OnOk}
use Rattle.std.specs.declared.alloc.Global.{Global}
use Rattle.std.specs.declared.vec.Vec.{Vec}
use Rattle.std.proofs.lemmas.List.{length-map}
use Rattle.input_graph.specs.AllWaits.{lists_in}
use Rattle.input_graph.specs.Numbering.{HaveJoined, IsNumbered}
use Rattle.input_graph.specs.Targets.{texts}
use Rattle.input_graph.specs.declared.numbered_graph.NumberedGraph.{NumberedGraph}
use Rattle.input_graph.proofs.NumberSearch.{list_read, list_there, list_within}
use Rattle.input_graph.proofs.reached.add_targets.Goals as goal

module _ (graph : NumberedGraph) (is : IsNumbered graph) (node : ℕ) (within : node < length graph.names.keys) where
  as_many : length (texts graph.names.keys) ≡ length graph.names.keys
  as_many = length-map graph.names.keys (λ (reference : Bor (List ℕ)). reference.now)

  inside : node < length (texts graph.names.keys)
  inside = omega (arith, within, as_many)

  -- the targets that are read of the node
  targets_are : (list : Vec ℕ Global) → list ≡ get_or graph.targets.items node list → list.items ≡ get_or (lists_in graph.targets.items) node []
  targets_are list here =
      let there = list_there graph.nodes.now graph.edges (texts graph.names.keys) (lists_in graph.targets.items) graph.step_of.items graph.starts.items is node inside in
      let same : length (lists_in graph.targets.items) ≡ length graph.targets.items = length-map graph.targets.items (λ (v : Vec ℕ Global). v.items) in
      list_read graph.targets.items node list [] (omega (arith, there, same)) here

pub add_all-requires-clause-within : goal.add_all-requires-clause-within
add_all-requires-clause-within c =
    let graph = c.args.graph.now in
    let list_is = c.deref.ensures.value ∙ targets_are graph c.requires.numbered c.args.node c.requires.node c.index.result.now c.index.ensures in
    subst (λ (n : ℕ). All (λ k. k < n) c.deref.result.now) (as_many graph c.requires.numbered c.args.node c.requires.node ∙ sym c.requires.seen.each)
    (rw list_is (list_within graph.nodes.now graph.edges (texts graph.names.keys) (lists_in graph.targets.items) graph.step_of.items graph.starts.items c.requires.numbered c.args.node
    (inside graph c.requires.numbered c.args.node c.requires.node)))

pub returns-clause-joined : goal.returns-clause-joined
returns-clause-joined c =
    let list_is = c.deref.ensures.value ∙ targets_are c.args.graph.now c.requires.numbered c.args.node c.requires.node c.index.result.now c.index.ensures in
    subst (λ (list : List ℕ). OnOk c.add_all.result (HaveJoined c.args.found.now.items list c.add_all.new.found.items)) list_is c.add_all.ensures.joined
