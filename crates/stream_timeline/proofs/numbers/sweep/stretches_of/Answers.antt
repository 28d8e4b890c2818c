use Rattle.std.proofs.Common.{◌+◌, ◌<◌, ◌^◌, take, drop, get_or, false, arith}
use Rattle.std.proofs.lemmas.List.{take_all, take_more}
use Rattle.std.proofs.lemmas.List.Elements.{recursion_from_All}
use Rattle.stream_timeline.specs.declared.numbers.edge.Edge.{Edge}
use Rattle.stream_timeline.specs.Stretches.{IsSmallInterval}
use Rattle.stream_timeline.proofs.SweptSoFar.{AreEdges, AreSmall, IsSweptSoFar, are_edges, begun_le, begun_places_le, ended_le, ended_places_le, edges_at, is_ready, so_far_all, so_far_more, place_small}
use Rattle.stream_timeline.proofs.numbers.sweep.stretches_of.Goals as goal

-- what an index out of range would give
abbrev nothing : Edge
nothing = record { time = 0; place = 0; is_end = false }

pub take-requires-clause-ready : goal.take-requires-clause-ready
take-requires-clause-ready c = λ at e l.
    let is = c.args.intervals.now in
    let es = c.deref-edge-items.result.now in
    let i = c.loop-edge.edge-index in
    let s = c.loop-edge.sweep in
    let all : AreEdges is es = are_edges is c.in_ok-edges.edges.items es c.deref-edge-items.ensures.value c.requires.ordered c.in_ok-edges.ensures.all c.in_ok-edges.ensures.ordered in
    let small : AreSmall is = recursion_from_All IsSmallInterval is c.requires.small in
    is_ready is at (take i es) (get_or es i nothing) (drop (i + 1) es) s.running s.stretches.items s.last small (edges_at is es i nothing c.loop-edge-test.true all) c.loop-edge.invariant.swept_so_far e l

pub loop-edge-preserved : goal.loop-edge-preserved
loop-edge-preserved c =
    let is = c.args.intervals.now in
    let es = c.deref-edge-items.result.now in
    let i = c.loop-edge.edge-index in
    let s = c.loop-edge.sweep in
    let x = get_or es i nothing in
    let all : AreEdges is es = are_edges is c.in_ok-edges.edges.items es c.deref-edge-items.ensures.value c.requires.ordered c.in_ok-edges.ensures.all c.in_ok-edges.ensures.ordered in
    let small : AreSmall is = recursion_from_All IsSmallInterval is c.requires.small in
    let place : x.place < 2 ^ 64 = place_small is es small all i nothing c.loop-edge-test.true in
    let inv = c.loop-edge.invariant in
    record {
      swept_so_far = rw (take_more es i nothing c.loop-edge-test.true, c.in_ok-take.ensures.running, c.in_ok-take.ensures.last, c.in_ok-take.ensures.stretches)
          (so_far_more is (take i es) x (drop (i + 1) es) s.running s.stretches.items s.last (edges_at is es i nothing c.loop-edge-test.true all) inv.swept_so_far);
      begun = rw c.in_ok-take.ensures.running (omega (arith, begun_le x s.running, inv.begun));
      ended = rw c.in_ok-take.ensures.running (omega (arith, ended_le x s.running, inv.ended));
      begun_places = rw c.in_ok-take.ensures.running (omega (arith, begun_places_le x s.running, inv.begun_places, place));
      ended_places = rw c.in_ok-take.ensures.running (omega (arith, ended_places_le x s.running, inv.ended_places, place));
    }

pub returns : goal.returns
returns c =
    let is = c.args.intervals.now in
    let es = c.deref-edge-items.result.now in
    let s = c.loop-edge.sweep in
    let all : AreEdges is es = are_edges is c.in_ok-edges.edges.items es c.deref-edge-items.ensures.value c.requires.ordered c.in_ok-edges.ensures.all c.in_ok-edges.ensures.ordered in
    let swept_so_far : IsSweptSoFar is es s.running s.last s.stretches.items = rw (take_all c.loop-edge.edge-index es c.loop-edge-test.false) at c.loop-edge.invariant.swept_so_far in
    so_far_all is es s.running s.stretches.items s.last all swept_so_far
