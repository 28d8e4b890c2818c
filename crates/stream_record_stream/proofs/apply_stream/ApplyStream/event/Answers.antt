use Rattle.std.proofs.Common.{◌≡◌, ◌∙◌, Err, OnOk, Ok, SFits, ap, of_z, rules, sym, to_z, w64, ℤ}
use Rattle.std.proofs.lemmas.Int.{to_z-of_z}
use Rattle.std.specs.Prelude.{Result}
use Rattle.stream_record_lines.specs.declared.event.Event.{Event}
use Rattle.stream_record_steps.specs.Begun.{Begun}
use Rattle.stream_record_steps.specs.Taken.{after_provisioner}
use Rattle.stream_record_stream.specs.Streams.{StreamRead, with_event}
use Rattle.stream_record_stream.proofs.apply_stream.ApplyStream.event.Goals as goal

on_ok : {T E : Type 0} (r : Result T E) (P Q : Type 0) → (P → Q) → OnOk r P → OnOk r Q
on_ok (Ok x) P Q f h = f h
on_ok (Err e) P Q f h = tt

pub returns-in-Provisioner : goal.returns-in-Provisioner
returns-in-Provisioner c =
    let line = c.args.line in
    let provisioner = c.in-Provisioner.provisioner in
    let inside = c.self-in-Provisioner.inside in
    let fits : SFits w64 inside.last_second = search rules in
    let second : to_z w64 (of_z w64 inside.last_second) ≡ inside.last_second = to_z-of_z w64 inside.last_second fits in
    let is = ap (λ (event : Event). with_event c.args.plan.now line event c.args.self.now) c.in-Provisioner.is in
    let viewed : StreamRead = record {
      begun = inside.begun;
      notes = inside.notes.items;
      outputs = inside.outputs;
      no_message = inside.no_message;
      ephemeral = inside.ephemeral;
      summary = inside.summary;
      is_default_form = inside.is_default_form;
      last_second = inside.last_second;
    } in
    on_ok c.take_provisioner.result _ _
    (λ (begun : c.take_provisioner.new.self ≡ after_provisioner line (to_z w64 (of_z w64 inside.last_second)) provisioner inside.begun).
    ap (λ (b : Begun). record viewed { begun = b }) (begun ∙ ap (λ (s : ℤ). after_provisioner line s provisioner inside.begun) second)
    ∙ ap (λ (s : StreamRead). record s { begun = after_provisioner line s.last_second provisioner s.begun }) c.self-in-Provisioner.view_is
    ∙ sym is)
    c.take_provisioner.ensures
