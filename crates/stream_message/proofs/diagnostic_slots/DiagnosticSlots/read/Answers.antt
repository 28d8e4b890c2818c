use Rattle.std.proofs.Common.{Bool, refl, subst}
use Rattle.apply_json.specs.declared.read_fault.ReadFault.TheVariants.{NotJson}
use Rattle.apply_json.proofs.VerbatimValues.{as_whole}
use Rattle.stream_message.specs.Slots.{HoldsDiagnostic, inside}
use Rattle.std.specs.Prelude.{Some}
use Rattle.stream_message.proofs.ReadValues.{no_fault, same_fault}
use Rattle.stream_message.proofs.diagnostic_slots.DiagnosticSlots.read.Goals as goal

pub read_object-requires : goal.read_object-requires
read_object-requires c = λ k. ((refl, tt), record { texts_are = refl; holds = c.new.ensures.holds c.args.texts })

pub returns-in-Ok : goal.returns-in-Ok
returns-in-Ok c =
    let done = c.in-Ok.ensures.ok in
    let held = subst (λ (texts : Bool). HoldsDiagnostic texts c.read_object.new.slots.slots (inside (Some done.0))) done.3.texts_are done.3.holds in
    record {
      ok = (done.0, as_whole c.args.depth c.args.reader.now done.0 c.read_object.new.reader done.1, c.of-diagnostic.ensures done.0 done.2, record { severity = held.severity; address = held.address; summary = held.summary; detail = held.detail; range = held.range });
      shorter = c.in-Ok.ensures.shorter;
      err = no_fault tt NotJson;
    }

pub returns-in-Err : goal.returns-in-Err
returns-in-Err c = record {
  ok = tt;
  shorter = tt;
  err = λ same. c.in-Err.ensures.err (same_fault c.in-Err.fault NotJson same);
}
