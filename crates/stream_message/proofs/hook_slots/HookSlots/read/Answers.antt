use Rattle.apply_json.specs.declared.read_fault.ReadFault.TheVariants.{NotJson}
use Rattle.apply_json.proofs.VerbatimValues.{as_whole}
use Rattle.stream_message.proofs.ReadValues.{no_fault, same_fault}
use Rattle.stream_message.proofs.hook_slots.HookSlots.read.Goals as goal

pub returns-in-Ok : goal.returns-in-Ok
returns-in-Ok c =
    let done = c.in-Ok.ensures.ok in
    record {
      ok = (done.0, as_whole c.args.depth c.args.reader.now done.0 c.read_object.new.reader done.1, c.of-hook.ensures done.0 done.2, record { resource = done.3.resource; action = done.3.action; seconds = done.3.seconds; provisioner = done.3.provisioner });
      shorter = c.in-Ok.ensures.shorter;
      err = no_fault tt NotJson;
    }

pub returns-in-Err : goal.returns-in-Err
returns-in-Err c = record {
  ok = tt;
  shorter = tt;
  err = λ same. c.in-Err.ensures.err (same_fault c.in-Err.fault NotJson same);
}
