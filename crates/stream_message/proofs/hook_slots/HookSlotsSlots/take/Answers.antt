use Rattle.std.proofs.Common.{◌≡◌, codes, true, sym, ◌∙◌}
use Rattle.std.specs.Str.{bytes_eq}
use Rattle.apply_json.proofs.Copied.{if_ok}
use Rattle.apply_json.proofs.Held.{left}
use Rattle.apply_json.proofs.VerbatimValues.{as_member}
use Rattle.stream_message.specs.Slots.{inner_of, shallow_value}
use Rattle.stream_message.proofs.Slots.{hook_after}
use Rattle.stream_message.proofs.hook_slots.HookSlotsSlots.take.Goals as goal

pub returns-then-is_text : goal.returns-then-is_text
returns-then-is_text c =
    let k = c.args.name.now in
    let here : bytes_eq k (codes "resource") ≡ true = sym c.is_text.ensures ∙ c.if-is_text.true in
    record {
      ok = if_ok c.read.result (λ done. (done.0, as_member c.args.depth c.args.reader.now done.0 c.read.new.reader k done.1, λ start ms holds. hook_after k (codes "resource") done.0 ms here _ done.2 holds.action holds.seconds holds.provisioner)) c.read.ensures.ok;
      shorter = c.read.ensures.shorter;
      err = c.read.ensures.err;
    }

pub returns-then-is_text-2 : goal.returns-then-is_text-2
returns-then-is_text-2 c =
    let k = c.args.name.now in
    let here : bytes_eq k (codes "action") ≡ true = sym c.is_text-else-is_text.ensures ∙ c.if-is_text-2.true in
    record {
      ok = if_ok c.read_into_slot.result (λ done. (done.0, as_member c.args.depth c.args.reader.now done.0 c.read_into_slot.new.reader k done.1, λ start ms holds. hook_after k (codes "action") done.0 ms here _ holds.resource done.2 holds.seconds holds.provisioner)) c.read_into_slot.ensures.ok;
      shorter = c.read_into_slot.ensures.shorter;
      err = c.read_into_slot.ensures.err;
    }

pub returns-then-is_text-3 : goal.returns-then-is_text-3
returns-then-is_text-3 c =
    let k = c.args.name.now in
    let here : bytes_eq k (codes "elapsed_seconds") ≡ true = sym c.is_text-else-is_text-2.ensures ∙ c.if-is_text-3.true in
    record {
      ok = if_ok c.read_into_slot-then-is_text-3.result (λ done. (done.0, as_member c.args.depth c.args.reader.now done.0 c.read_into_slot-then-is_text-3.new.reader k done.1, λ start ms holds. hook_after k (codes "elapsed_seconds") done.0 ms here _ holds.resource holds.action done.2 holds.provisioner)) c.read_into_slot-then-is_text-3.ensures.ok;
      shorter = c.read_into_slot-then-is_text-3.ensures.shorter;
      err = c.read_into_slot-then-is_text-3.ensures.err;
    }

pub returns-then-is_text-4 : goal.returns-then-is_text-4
returns-then-is_text-4 c =
    let k = c.args.name.now in
    let here : bytes_eq k (codes "provisioner") ≡ true = sym c.is_text-else-is_text-3.ensures ∙ c.if-is_text-4.true in
    record {
      ok = if_ok c.read_into_slot-then-is_text-4.result (λ done. (done.0, as_member c.args.depth c.args.reader.now done.0 c.read_into_slot-then-is_text-4.new.reader k done.1, λ start ms holds. hook_after k (codes "provisioner") done.0 ms here _ holds.resource holds.action holds.seconds done.2)) c.read_into_slot-then-is_text-4.ensures.ok;
      shorter = c.read_into_slot-then-is_text-4.ensures.shorter;
      err = c.read_into_slot-then-is_text-4.ensures.err;
    }

pub returns-else-is_text-4 : goal.returns-else-is_text-4
returns-else-is_text-4 c =
    let k = c.args.name.now in
    record {
      ok = if_ok c.skip_member.result
          (λ done. (
            done.0,
            as_member c.args.depth c.args.reader.now done.0 c.skip_member.new.reader k done.1,
            λ start ms holds. record {
              resource = left (inner_of (codes "addr")) (codes "resource") k done.0 ms _ (sym c.is_text.ensures ∙ c.if-is_text.false) holds.resource;
              action = left shallow_value (codes "action") k done.0 ms _ (sym c.is_text-else-is_text.ensures ∙ c.if-is_text-2.false) holds.action;
              seconds = left shallow_value (codes "elapsed_seconds") k done.0 ms _ (sym c.is_text-else-is_text-2.ensures ∙ c.if-is_text-3.false) holds.seconds;
              provisioner = left shallow_value (codes "provisioner") k done.0 ms _ (sym c.is_text-else-is_text-3.ensures ∙ c.if-is_text-4.false) holds.provisioner;
            },
          ))
          c.skip_member.ensures.ok;
      shorter = c.skip_member.ensures.shorter;
      err = c.skip_member.ensures.err;
    }
