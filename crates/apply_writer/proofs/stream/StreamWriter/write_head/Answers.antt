use Rattle.std.proofs.Common.{◌≡◌, ◌<◌, ◌≤◌, ◌+◌, ◌*◌, ◌^◌, ◌++◌, ◌∙◌, [], length, take, take_all, refl, sym, ap, subst, arith}
use Rattle.std.specs.Prelude.{slice_index_or}
use Rattle.std.specs.List.{concat}
use Rattle.apply_writer.specs.Stream.Outlet.{HasWritten, outlet_of}
use Rattle.apply_writer.specs.Stream.WriterState.{writer_state}
use Rattle.apply_writer.proofs.Streams.WriterState.{first_head, accepted_none, written_none}
use Rattle.apply_writer.proofs.Streams.Writing.{pieces_more}
use Rattle.apply_writer.proofs.stream.StreamWriter.write_head.Goals as goal

pub loop-place-init : goal.loop-place-init
loop-place-init g c =
    let n = c.requires in
    record {
      form = refl;
      head_chunks = refl;
      counts = refl;
      taken = refl;
      latest = refl;
      notes = refl;
      few = let none = n.written in omega (arith, none);
      may_fail = λ _. n.may_fail;
      written = written_none (outlet_of g.S.Sink.bytes g.S.Sink.failed c.args.self.now.output) n.going n.written;
    }

pub write_head_chunk-requires-clause-place : goal.write_head_chunk-requires-clause-place
write_head_chunk-requires-clause-place g c =
    let count = c.head_chunk_count-place-end.ensures.count in
    let low : c.loop-place.place < length (g.F.FormLines.head_chunks c.args.self.now.lines) = omega (arith, c.loop-place-test.true, count) in
    subst (λ xs. c.loop-place.place < length xs) (sym c.loop-place.invariant.head_chunks) low

pub write_head_chunk-requires-clause-open : goal.write_head_chunk-requires-clause-open
write_head_chunk-requires-clause-open g c = c.loop-place.invariant.may_fail

pub write_head_chunk-requires-clause-few : goal.write_head_chunk-requires-clause-few
write_head_chunk-requires-clause-few g c = omega (arith, c.loop-place.invariant.few, c.loop-place-test.true, c.head_chunk_count-place-end.ensures.few)

pub loop-place-preserved : goal.loop-place-preserved
loop-place-preserved g c =
    let i = c.loop-place.invariant in let w = c.write_head_chunk.ensures in let s = c.args.self.now in
    let head_chunks = g.F.FormLines.head_chunks s.lines in let place = c.loop-place.place in
    let low : place < length head_chunks = omega (arith, c.loop-place-test.true, c.head_chunk_count-place-end.ensures.count) in
    let before = g.S.Sink.bytes s.output.sink in let failures = g.S.Sink.failed s.output.sink in
    let new = outlet_of g.S.Sink.bytes g.S.Sink.failed c.write_head_chunk.new.self.output in
    record {
      form = w.same ∙ i.form;
      head_chunks = w.head_chunks ∙ i.head_chunks;
      counts = w.accepted.0 ∙ i.counts;
      taken = w.accepted.1 ∙ i.taken;
      latest = w.accepted.2 ∙ i.latest;
      notes = w.accepted.3 ∙ i.notes;
      few = let more = w.more in omega (arith, more, i.few);
      may_fail = w.open;
      written = subst (λ all. HasWritten before failures all new)
          (ap (λ xs. concat (take place head_chunks) ++ slice_index_or xs place []) i.head_chunks ∙ pieces_more head_chunks place low)
          (w.written before failures (concat (take place head_chunks)) i.written);
    }

pub returns-clause-accepted : goal.returns-clause-accepted
returns-clause-accepted g c =
    let i = c.loop-place.invariant in let s = c.args.self.now in
    let head_chunks = g.F.FormLines.head_chunks s.lines in
    let ends = c.head_chunk_count-place-end.ensures in
    let all : length head_chunks ≤ c.loop-place.place = omega (arith, c.loop-place-test.false, ends.count) in
    accepted_none (g.F.FormLines.form s.lines) (writer_state g.S.Sink.bytes g.S.Sink.failed s) (writer_state g.S.Sink.bytes g.S.Sink.failed c.loop-place.self) c.requires
    (subst (λ bytes. HasWritten (g.S.Sink.bytes s.output.sink) (g.S.Sink.failed s.output.sink) bytes (outlet_of g.S.Sink.bytes g.S.Sink.failed c.loop-place.self.output))
    (ap concat (take_all c.loop-place.place head_chunks all) ∙ ends.whole) i.written)
    i.counts i.taken i.latest (ap (λ v. v.items) i.notes)

pub returns-clause-counts_fit : goal.returns-clause-counts_fit
returns-clause-counts_fit g c =
    let i = c.loop-place.invariant in let n = c.requires in
    first_head _ (writer_state g.S.Sink.bytes g.S.Sink.failed c.args.self.now) (writer_state g.S.Sink.bytes g.S.Sink.failed c.loop-place.self) c.loop-place.place n
    i.counts i.taken i.latest (ap (λ v. v.items) i.notes) i.few (omega (arith, c.loop-place.auto.place-end, c.head_chunk_count-place-end.ensures.few)) i.may_fail

pub returns-clause-none : goal.returns-clause-none
returns-clause-none g c = c.loop-place.invariant.taken ∙ c.requires.taken

pub returns-clause-same : goal.returns-clause-same
returns-clause-same g c = c.loop-place.invariant.form
