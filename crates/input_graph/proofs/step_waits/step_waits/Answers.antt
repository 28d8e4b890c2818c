use Rattle.std.proofs.Common.{◌≡◌, arith, eqb, length, get_or, List, ℕ, [], Bor}
use Rattle.std.proofs.lemmas.List.{length-map}
use Rattle.std.proofs.lemmas.List.Filters.{dedup_is}
use Rattle.std.proofs.lemmas.Option.{slice_get-get_or, slice_get_within}
use Rattle.input_graph.specs.AllWaits.{lists_in}
use Rattle.input_graph.specs.Targets.{texts}
use Rattle.input_graph.proofs.NumberSearch.{steps_there}
use Rattle.input_graph.proofs.Numbering.{start_named}
use Rattle.input_graph.proofs.WaitsFound.{waits_found}
use Rattle.input_graph.proofs.step_waits.step_waits.Goals as goal

pub reached_nodes-requires-clause-start : goal.reached_nodes-requires-clause-start
reached_nodes-requires-clause-start c =
    let graph = c.args.graph.now in
    let named = start_named graph.nodes.now (texts graph.names.keys) graph.starts.items c.args.step c.index-start.result.now c.requires.step c.requires.numbered.begins c.index-start.ensures in
    let inside = slice_get_within (texts graph.names.keys) c.index-start.result.now (get_or graph.nodes.now c.args.step []) named in
    let long : length (texts graph.names.keys) ≡ length graph.names.keys = length-map graph.names.keys (λ (reference : Bor (List ℕ)). reference.now) in
    omega (arith, inside, long)

pub other_steps-requires : goal.other_steps-requires
other_steps-requires c =
    let graph = c.args.graph.now in
    let start = get_or graph.nodes.now c.args.step [] in
    let named = start_named graph.nodes.now (texts graph.names.keys) graph.starts.items c.args.step c.index-start.result.now c.requires.step c.requires.numbered.begins c.index-start.ensures in
    let there = steps_there graph.nodes.now graph.edges (texts graph.names.keys) (lists_in graph.targets.items) graph.step_of.items graph.starts.items c.requires.numbered start c.in_ok-nodes.nodes.items
    (c.in_ok-nodes.ensures.reached start named).sound in
    rw (c.deref.ensures.value, c.deref-2.ensures.value) there

pub returns-clause-waits : goal.returns-clause-waits
returns-clause-waits c =
    let graph = c.args.graph.now in
    let start = get_or graph.nodes.now c.args.step [] in
    let named = start_named graph.nodes.now (texts graph.names.keys) graph.starts.items c.args.step c.index-start.result.now c.requires.step c.requires.numbered.begins c.index-start.ensures in
    waits_found graph.nodes.now graph.edges c.args.step start (texts graph.names.keys) graph.step_of.items c.in_ok-nodes.nodes.items c.in_ok-waits.waits.items c.sort_unstable.new.self.items c.dedup.new.self.items
    (slice_get-get_or graph.nodes.now c.args.step [] c.requires.step) c.requires.numbered.knows (c.in_ok-nodes.ensures.reached start named)
    (rw (c.deref.ensures.value, c.deref-2.ensures.value) at c.in_ok-waits.ensures) c.sort_unstable.ensures.permutation c.sort_unstable.ensures.sorted
    (dedup_is eqb c.sort_unstable.new.self.items c.dedup.new.self.items c.dedup.ensures.filtered)
