use Rattle.std.proofs.Common.{◌∙◌, ◌+◌, ◌++◌, ◌∷◌, [], ap, append_assoc, refl, sym}
use Rattle.apply_events.specs.Lanes.ToCome.{to_come}
use Rattle.apply_run.proofs.Runs.Places.{one_fewer}
use Rattle.apply_run.proofs.lanes.write_all_events.Goals as goal

pub loop-event-init : goal.loop-event-init
loop-event-init g c =
    let w = c.write_head.ensures in
    record {
      work = refl;
      form = w.same;
      count = w.none ∙ sym c.requires.none_emitted;
      counts_fit = w.counts_fit;
      accepted = ([], refl, w.accepted);
    }

pub loop-event-smaller : goal.loop-event-smaller
loop-event-smaller g c = one_fewer (to_come c.loop-event.lanes) (to_come c.next.new.self) c.in-Some.event c.in-Some.ensures.next

pub loop-event-preserved : goal.loop-event-preserved
loop-event-preserved g c =
    let i = c.loop-event.invariant in
    let n = c.in-Some.ensures in
    let t = c.accept.ensures in
    let accepted = rw i.form at t.accepted in
    let events = i.accepted.0 in
    record {
      work = n.work ∙ i.work;
      form = t.same ∙ i.form;
      count = t.one_event ∙ ap (λ k. k + 1) i.count ∙ sym n.one_more;
      counts_fit = t.counts_fit;
      accepted = (
        events ++ c.in-Some.event ∷ [],
        append_assoc events (c.in-Some.event ∷ []) (to_come c.next.new.self) ∙ ap (λ rest. events ++ rest) (sym n.next) ∙ i.accepted.1,
        accepted _ _ _ i.accepted.2,
      );
    }

pub returns-clause-same : goal.returns-clause-same
returns-clause-same g c = c.loop-event.invariant.form
