use Rattle.std.proofs.Common.{◌∷◌, [], ◌∙◌, ap, sym}
use Rattle.apply_events.specs.Totals.{plus, totals_of}
use Rattle.apply_text.specs.Order.{hook_messages_of}
use Rattle.apply_writer.specs.Stream.WriterState.{writer_state}
use Rattle.apply_writer.proofs.Streams.WriterState.{accepted_message, accepted_note}
use Rattle.apply_writer.proofs.stream.StreamWriter.accept.Goals as goal

pub returns-then-is_note-clause-accepted : goal.returns-then-is_note-clause-accepted
returns-then-is_note-clause-accepted g c before failures events was =
    let s = c.args.self.now in let k = c.store_note.ensures in
    let old = writer_state g.S.Sink.bytes g.S.Sink.failed s in
    let new = writer_state g.S.Sink.bytes g.S.Sink.failed c.store_note.new.self in
    accepted_note (g.F.FormLines.form s.lines) before failures events c.args.event.now old new
    (sym c.is_note.ensures ∙ c.if-is_note.true) (k.accepted.0 ∙ c.count.ensures ∙ ap (λ p. plus s.counts (totals_of p (c.args.event.now ∷ []))) c.plan.ensures) k.accepted.1 k.stored
    (c.totals_of_joined_lists_add_up.ensures ((g.F.FormLines.form s.lines).plan) events (c.args.event.now ∷ []))
    (k.written (hook_messages_of events) before failures (record { lines = was.written.lines; latest = was.written.latest })) was

pub returns-else-is_note-clause-accepted : goal.returns-else-is_note-clause-accepted
returns-else-is_note-clause-accepted g c before failures events was =
    let s = c.args.self.now in let w = c.write_event.ensures in
    let old = writer_state g.S.Sink.bytes g.S.Sink.failed s in
    let new = writer_state g.S.Sink.bytes g.S.Sink.failed c.write_event.new.self in
    accepted_message (g.F.FormLines.form s.lines) before failures events c.args.event.now old new
    (sym c.is_note.ensures ∙ c.if-is_note.false) (w.accepted.0 ∙ c.count.ensures ∙ ap (λ p. plus s.counts (totals_of p (c.args.event.now ∷ []))) c.plan.ensures) w.accepted.1 w.accepted.2 w.goes
    (c.totals_of_joined_lists_add_up.ensures ((g.F.FormLines.form s.lines).plan) events (c.args.event.now ∷ []))
    (w.written before failures (hook_messages_of events) (record { lines = was.written.lines; latest = was.written.latest })) was
