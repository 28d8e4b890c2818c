use Rattle.std.proofs.Common.{arith}
use Rattle.std.proofs.lemmas.List.{nil_from_length}
use Rattle.input_graph.specs.Targets.{texts}
use Rattle.input_graph.proofs.Members.{found_member}
use Rattle.input_graph.proofs.PathLeft.{less_entered, less_passed}
use Rattle.input_graph.proofs.PathSearch.{edge_to, ends, started, then_closes, then_done, then_enters, then_passes}
use Rattle.input_graph.proofs.Texts.{joined_text, tested}
use Rattle.input_graph.proofs.circle.circle_from.Goals as goal

pub returns-then-contains-clause-begun : goal.returns-then-contains-clause-begun
returns-then-contains-clause-begun c =
    found_member c.args.start.now (texts c.args.seen.now.keys) (tested c.args.start.now c.args.seen.now.keys c.contains.result _ c.contains.ensures c.if-contains.true)

pub loop-visit-init : goal.loop-visit-init
loop-visit-init c =
    started c.args.edges.now (texts c.args.seen.now.keys) (texts c.args.done.now.keys) c.args.start (texts c.insert.new.self.keys) c.push.new.self.items c.requires
    (joined_text c.args.start c.args.seen.now.keys c.insert.new.self.keys c.in_ok-insert.ensures.keys) (rw c.new-path.ensures.items at c.in_ok-push.ensures.items)

pub loop-visit-preserved-in_default-target_at : goal.loop-visit-preserved-in_default-target_at
loop-visit-preserved-in_default-target_at c =
    then_done c.args.edges.now (texts c.args.seen.now.keys) c.args.start.now (texts c.loop-visit.seen.keys) (texts c.loop-visit.done.keys) c.loop-visit.path.items c.pop.new.self.items c.in-Some.visit
    c.loop-visit.invariant c.in-Some.ensures.items (texts c.insert-in_default-target_at.new.self.keys) c.in_default-target_at.ensures.target
    (joined_text c.in-Some.visit.node c.loop-visit.done.keys c.insert-in_default-target_at.new.self.keys c.in_ok-insert-2.ensures.keys)

pub loop-visit-smaller-then-contains-2 : goal.loop-visit-smaller-then-contains-2
loop-visit-smaller-then-contains-2 c =
    less_passed c.args.edges.now (texts c.loop-visit.seen.keys) c.loop-visit.path.items c.pop.new.self.items c.in-Some.visit c.in-Some.ensures.items
    c.in-Some-target_at.next.now c.push-then-contains-2.new.self.items c.in-Some-target_at.ensures.target c.in_ok-push-2.ensures.items

pub loop-visit-preserved-then-contains-2 : goal.loop-visit-preserved-then-contains-2
loop-visit-preserved-then-contains-2 c =
    then_passes c.args.edges.now (texts c.args.seen.now.keys) c.args.start.now (texts c.loop-visit.seen.keys) (texts c.loop-visit.done.keys) c.loop-visit.path.items c.pop.new.self.items c.in-Some.visit
    c.loop-visit.invariant c.in-Some.ensures.items c.in-Some-target_at.next.now c.push-then-contains-2.new.self.items c.in-Some-target_at.ensures.target
    (tested c.in-Some-target_at.next.now c.loop-visit.done.keys c.contains-in-Some.result _ c.contains-in-Some.ensures c.if-contains-2.true) c.in_ok-push-2.ensures.items

pub returns-then-contains-3-clause-circle : goal.returns-then-contains-3-clause-circle
returns-then-contains-3-clause-circle c =
    then_closes c.args.edges.now (texts c.args.seen.now.keys) c.args.start.now (texts c.loop-visit.seen.keys) (texts c.loop-visit.done.keys) c.loop-visit.path.items c.pop.new.self.items c.in-Some.visit
    c.loop-visit.invariant c.in-Some.ensures.items c.in-Some-target_at.next.now c.in-Some-target_at.ensures.target
    (tested c.in-Some-target_at.next.now c.loop-visit.done.keys c.contains-in-Some.result _ c.contains-in-Some.ensures c.if-contains-2.false)
    (tested c.in-Some-target_at.next.now c.loop-visit.seen.keys c.contains-in-Some-2.result _ c.contains-in-Some-2.ensures c.if-contains-3.true)

pub loop-visit-smaller : goal.loop-visit-smaller
loop-visit-smaller c =
    less_entered c.args.edges.now (texts c.loop-visit.seen.keys) c.loop-visit.path.items c.pop.new.self.items c.in-Some.visit c.in-Some.ensures.items
    c.in-Some-target_at.next (texts c.insert-in-Some.new.self.keys) c.push-in-Some.new.self.items c.push-in-Some-2.new.self.items
    (edge_to c.args.edges.now (texts c.args.seen.now.keys) c.args.start.now (texts c.loop-visit.seen.keys) (texts c.loop-visit.done.keys) c.loop-visit.path.items c.pop.new.self.items c.in-Some.visit
    c.loop-visit.invariant c.in-Some.ensures.items c.in-Some-target_at.next.now c.in-Some-target_at.ensures.target)
    (tested c.in-Some-target_at.next.now c.loop-visit.seen.keys c.contains-in-Some-2.result _ c.contains-in-Some-2.ensures c.if-contains-3.false)
    (joined_text c.in-Some-target_at.next c.loop-visit.seen.keys c.insert-in-Some.new.self.keys c.in_ok-insert-3.ensures.keys) c.in_ok-push-3.ensures.items c.in_ok-push-4.ensures.items

pub loop-visit-preserved : goal.loop-visit-preserved
loop-visit-preserved c =
    then_enters c.args.edges.now (texts c.args.seen.now.keys) c.args.start.now (texts c.loop-visit.seen.keys) (texts c.loop-visit.done.keys) c.loop-visit.path.items c.pop.new.self.items c.in-Some.visit
    c.loop-visit.invariant c.in-Some.ensures.items c.in-Some-target_at.next (texts c.insert-in-Some.new.self.keys) c.push-in-Some.new.self.items c.push-in-Some-2.new.self.items
    c.in-Some-target_at.ensures.target (joined_text c.in-Some-target_at.next c.loop-visit.seen.keys c.insert-in-Some.new.self.keys c.in_ok-insert-3.ensures.keys)
    c.in_ok-push-3.ensures.items c.in_ok-push-4.ensures.items

pub returns-clause-settled : goal.returns-clause-settled
returns-clause-settled c =
    ends c.args.edges.now (texts c.loop-visit.seen.keys) (texts c.loop-visit.done.keys) c.loop-visit.path.items c.loop-visit.invariant.searching
    (nil_from_length c.loop-visit.path.items (omega (arith, c.in_default.ensures.cases.0, c.loop-visit.path.ok.0)))
