use Rattle.std.proofs.Common.{◌≡◌, ◌≤◌, ◌∙◌, All, length, refl, sym, ap, subst, subst₂, arith}
use Rattle.std.proofs.lemmas.Bool.{ltb-false}
use Rattle.apply_bus.specs.Bus.{Account, NamesWorkersBelow}
use Rattle.apply_bus.specs.Items.{closes, events}
use Rattle.apply_events.specs.Fits.{IsOfPlan}
use Rattle.apply_writer.specs.Stream.WriterState.{HasAccepted, writer_state}
use Rattle.apply_run.proofs.Collecting.{count_more, fewer_to_lose, fewer_to_take, room_to_accept, accepted_more_items, accepted_no_items}
use Rattle.apply_run.proofs.collector.collect.Goals as goal
use Rattle.apply_run.proofs.collector.collect.Goals.{then-loop-rx-test+else-lost_takes-lt-MAX_LOST, else-loop-rx-test}

pub loop-rx-init : goal.loop-rx-init
loop-rx-init g c =
    let w = c.write_head.ensures in
    record {
      bus = refl;
      workers = refl;
      form = w.same;
      counts_fit = w.counts_fit;
      few = let none = w.none in omega (arith, none);
      accepted = accepted_no_items _ _ _ c.args.rx.taken (writer_state g.S.Sink.bytes g.S.Sink.failed c.write_head.new.self) c.requires.none w.accepted;
      lost = omega arith;
    }

pub note-requires-clause-few : goal.note-requires-clause-few
note-requires-clause-few g c = room_to_accept _ c.loop-rx.rx.taken c.take.new.self.taken c.in-Ok.item (ap (λ rx. rx.taken) c.in-Ok.ensures.ok) c.take.ensures.few c.loop-rx.invariant.few

pub loop-rx-smaller-in-Ok : goal.loop-rx-smaller-in-Ok
loop-rx-smaller-in-Ok g c = fewer_to_take _ c.loop-rx.rx.taken c.take.new.self.taken c.in-Ok.item (ap (λ rx. rx.taken) c.in-Ok.ensures.ok) c.take.ensures.few

pub loop-rx-preserved-in-Ok : goal.loop-rx-preserved-in-Ok
loop-rx-preserved-in-Ok g c =
    let i = c.loop-rx.invariant in
    let n = c.note.ensures in
    let taken = c.loop-rx.rx.taken in
    let new = c.take.new.self.taken in
    let is = ap (λ rx. rx.taken) c.in-Ok.ensures.ok in
    record {
      bus = ap (λ rx. rx.bus) c.in-Ok.ensures.ok ∙ i.bus;
      workers = ap (λ rx. rx.workers) c.in-Ok.ensures.ok ∙ i.workers;
      form = n.same ∙ i.form;
      counts_fit = n.counts_fit;
      few = count_more _ _ taken new c.in-Ok.item is n.one_event i.few;
      accepted = accepted_more_items _ _ _ _ taken new c.in-Ok.item (writer_state g.S.Sink.bytes g.S.Sink.failed c.loop-rx.stream) _ i.form is i.accepted (n.accepted _ _ _);
      lost = i.lost;
    }

pub loop-rx-smaller : goal.loop-rx-smaller
loop-rx-smaller g c = fewer_to_lose _ c.loop-rx.rx.taken c.take.new.self.taken (ap (λ rx. rx.taken) c.in-Err.ensures.err) c.if-lost_takes-lt-MAX_LOST.true

pub loop-rx-preserved : goal.loop-rx-preserved
loop-rx-preserved g c =
    let i = c.loop-rx.invariant in
    let s = c.args.stream in
    let same = c.in-Err.ensures.err in
    let is = sym (ap (λ rx. rx.taken) same) in
    record {
      bus = ap (λ rx. rx.bus) same ∙ i.bus;
      workers = ap (λ rx. rx.workers) same ∙ i.workers;
      form = i.form;
      counts_fit = i.counts_fit;
      few = subst (λ items. c.loop-rx.stream.taken ≤ length items) is i.few;
      accepted = subst (λ items. All (IsOfPlan (g.F.FormLines.form s.lines).plan) (events items) → HasAccepted (g.F.FormLines.form s.lines) (g.S.Sink.bytes s.output.sink) (g.S.Sink.failed s.output.sink) (events items) (writer_state g.S.Sink.bytes g.S.Sink.failed c.loop-rx.stream)) is i.accepted;
      lost = let low = c.if-lost_takes-lt-MAX_LOST.true in omega (arith, low);
    }

pub returns-clause-bus : goal.returns-clause-bus
returns-clause-bus g c =
    let i = c.loop-rx.invariant in
    let is = c.give_up.ensures.taken in
    (ap (λ (a : Account). a.bus) is ∙ i.bus, ap (λ (a : Account). a.workers) is ∙ i.workers, ap (λ (a : Account). a.sent_lists) is)

pub returns-clause-named : goal.returns-clause-named
returns-clause-named g c = subst₂ NamesWorkersBelow c.loop-rx.invariant.workers (sym (ap (λ (a : Account). a.taken) c.give_up.ensures.taken)) c.give_up.ensures.named

pub returns-clause-same : goal.returns-clause-same
returns-clause-same g c = c.loop-rx.invariant.form

pub returns-clause-accepted : goal.returns-clause-accepted
returns-clause-accepted g c =
    let s = c.args.stream in
    subst (λ items. All (IsOfPlan (g.F.FormLines.form s.lines).plan) (events items) → HasAccepted (g.F.FormLines.form s.lines) (g.S.Sink.bytes s.output.sink) (g.S.Sink.failed s.output.sink) (events items) (writer_state g.S.Sink.bytes g.S.Sink.failed c.loop-rx.stream)) (sym (ap (λ (a : Account). a.taken) c.give_up.ensures.taken)) c.loop-rx.invariant.accepted

pub returns-clause-counts_fit : goal.returns-clause-counts_fit
returns-clause-counts_fit g c = c.loop-rx.invariant.counts_fit

pub returns-clause-lost : goal.returns-clause-lost
returns-clause-lost g c none =
    let low = ltb-false 0 c.loop-rx.lost_takes none in
    let ended : closes c.loop-rx.rx.taken ≡ c.loop-rx.rx.workers = elim c.loop-rx-test.branch [
      | then-loop-rx-test+else-lost_takes-lt-MAX_LOST w ↦ let many = w.if-lost_takes-lt-MAX_LOST.false in absurd (omega arith)
      | else-loop-rx-test w ↦ let sum = c.open_left.ensures.left in let nothing = w.loop-rx-test.false in omega arith
    ] in
    ap (λ (a : Account). closes a.taken) c.give_up.ensures.taken ∙ ended ∙ c.loop-rx.invariant.workers
