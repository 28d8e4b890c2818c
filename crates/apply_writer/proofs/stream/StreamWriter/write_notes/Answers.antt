use Rattle.std.proofs.Common.{◌≡◌, ◌<◌, ◌≤◌, ◌+◌, ◌++◌, ◌∷◌, ◌∙◌, [], length, get_or, take, take_all, append_assoc, append-nil, refl, sym, ap, subst, arith}
use Rattle.std.proofs.lemmas.List.{take_more}
use Rattle.std.proofs.lemmas.List.Elements.{All-get_or}
use Rattle.apply_events.specs.Fits.{IsOfPlan}
use Rattle.apply_writer.specs.Stream.WriterState.{HasLines, writer_state}
use Rattle.apply_writer.proofs.stream.StreamWriter.write_notes.Goals as goal

pub loop-place-init : goal.loop-place-init
loop-place-init g c =
    let s = c.args.self.now in
    record {
      same = refl;
      notes = refl;
      counts = refl;
      taken = refl;
      in_time = c.requires.in_time;
      few = omega (arith, c.requires.written);
      may_fail = c.requires.may_fail;
      written = λ before failures events was.
          subst (λ es. HasLines (g.F.FormLines.form s.lines) before failures es (writer_state g.S.Sink.bytes g.S.Sink.failed s)) (sym (append-nil events)) was;
    }

pub write_event-requires-clause-event : goal.write_event-requires-clause-event
write_event-requires-clause-event g c =
    let i = c.loop-place.invariant in
    let plan = (g.F.FormLines.form c.args.self.now.lines).plan in let notes = c.args.self.now.notes.items in let note = c.index.result.now in
    let low : c.loop-place.place < length notes = omega (arith, c.loop-place-test.true, c.len-place-end.ensures, c.args.self.now.notes.ok.0) in
    let here : note ≡ get_or notes c.loop-place.place note = c.index.ensures ∙ ap (λ xs. get_or xs c.loop-place.place note) i.notes in
    subst (λ p. IsOfPlan p note) (sym (ap (λ f. f.plan) i.same)) (subst (IsOfPlan plan) (sym here) (All-get_or (IsOfPlan plan) notes c.loop-place.place note low c.requires.notes))

pub write_event-requires-clause-may_write : goal.write_event-requires-clause-may_write
write_event-requires-clause-may_write g c =
    let i = c.loop-place.invariant in
    let low : c.loop-place.place < length c.args.self.now.notes.items = omega (arith, c.loop-place-test.true, c.len-place-end.ensures, c.args.self.now.notes.ok.0) in
    record { in_time = i.in_time; written = omega (arith, i.few, low, c.requires.few); may_fail = i.may_fail }

pub loop-place-preserved : goal.loop-place-preserved
loop-place-preserved g c =
    let i = c.loop-place.invariant in let w = c.write_event.ensures in
    let s = c.args.self.now in let notes = s.notes.items in let note = c.index.result.now in let place = c.loop-place.place in
    let low : place < length notes = omega (arith, c.loop-place-test.true, c.len-place-end.ensures, s.notes.ok.0) in
    let here : note ≡ get_or notes place note = c.index.ensures ∙ ap (λ xs. get_or xs place note) i.notes in
    let so_far : take place notes ++ note ∷ [] ≡ take (place + 1) notes = sym (take_more notes place note low ∙ ap (λ n. take place notes ++ n ∷ []) (sym here)) in
    let written = rw i.same at w.written in
    record {
      same = w.same ∙ i.same;
      notes = w.accepted.2 ∙ i.notes;
      counts = w.accepted.0 ∙ i.counts;
      taken = w.accepted.1 ∙ i.taken;
      in_time = w.in_time;
      few = omega (arith, w.more, i.few);
      may_fail = w.may_fail;
      written = λ before failures events was.
          subst (λ es. HasLines (g.F.FormLines.form s.lines) before failures es (writer_state g.S.Sink.bytes g.S.Sink.failed c.write_event.new.self))
          (append_assoc events (take place notes) (note ∷ []) ∙ ap (λ l. events ++ l) so_far)
          (written before failures (events ++ take place notes) (i.written before failures events was));
    }

pub returns-clause-written : goal.returns-clause-written
returns-clause-written g c before failures events was =
    let i = c.loop-place.invariant in
    let s = c.args.self.now in let notes = s.notes.items in
    let all : length notes ≤ c.loop-place.place = omega (arith, c.loop-place-test.false, c.len-place-end.ensures, s.notes.ok.0) in
    subst (λ es. HasLines (g.F.FormLines.form s.lines) before failures es (writer_state g.S.Sink.bytes g.S.Sink.failed c.loop-place.self))
    (ap (λ l. events ++ l) (take_all c.loop-place.place notes all)) (i.written before failures events was)

pub returns-clause-may_write : goal.returns-clause-may_write
returns-clause-may_write g c =
    let i = c.loop-place.invariant in
    record {
      in_time = i.in_time;
      written = omega (arith, i.few, c.loop-place.auto.place-end, c.len-place-end.ensures, c.args.self.now.notes.ok.0, c.requires.few);
      may_fail = i.may_fail;
    }

pub returns-clause-accepted : goal.returns-clause-accepted
returns-clause-accepted g c = (c.loop-place.invariant.counts, c.loop-place.invariant.taken)

pub returns-clause-same : goal.returns-clause-same
returns-clause-same g c = c.loop-place.invariant.same
