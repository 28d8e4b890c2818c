use Rattle.std.proofs.Common.{◌≡◌, codes, true, sym, ◌∙◌}
use Rattle.std.specs.Str.{bytes_eq}
use Rattle.apply_json.proofs.Copied.{if_ok}
use Rattle.apply_json.proofs.Held.{left}
use Rattle.apply_json.proofs.VerbatimValues.{as_member}
use Rattle.stream_message.specs.Slots.{shallow_value}
use Rattle.stream_message.proofs.Slots.{changes_after}
use Rattle.stream_message.proofs.changes_slots.ChangesSlotsSlots.take.Goals as goal

pub returns-then-is_text : goal.returns-then-is_text
returns-then-is_text c =
    let k = c.args.name.now in
    let here : bytes_eq k (codes "operation") ≡ true = sym c.is_text.ensures ∙ c.if-is_text.true in
    record {
      ok = if_ok c.read_into_slot.result (λ done. (done.0, as_member c.args.depth c.args.reader.now done.0 c.read_into_slot.new.reader k done.1, λ start ms holds. changes_after k (codes "operation") done.0 ms here _ done.2 holds.added holds.changed holds.removed holds.imported)) c.read_into_slot.ensures.ok;
      shorter = c.read_into_slot.ensures.shorter;
      err = c.read_into_slot.ensures.err;
    }

pub returns-then-is_text-2 : goal.returns-then-is_text-2
returns-then-is_text-2 c =
    let k = c.args.name.now in
    let here : bytes_eq k (codes "add") ≡ true = sym c.is_text-else-is_text.ensures ∙ c.if-is_text-2.true in
    record {
      ok = if_ok c.read_into_slot-then-is_text-2.result (λ done. (done.0, as_member c.args.depth c.args.reader.now done.0 c.read_into_slot-then-is_text-2.new.reader k done.1, λ start ms holds. changes_after k (codes "add") done.0 ms here _ holds.operation done.2 holds.changed holds.removed holds.imported)) c.read_into_slot-then-is_text-2.ensures.ok;
      shorter = c.read_into_slot-then-is_text-2.ensures.shorter;
      err = c.read_into_slot-then-is_text-2.ensures.err;
    }

pub returns-then-is_text-3 : goal.returns-then-is_text-3
returns-then-is_text-3 c =
    let k = c.args.name.now in
    let here : bytes_eq k (codes "change") ≡ true = sym c.is_text-else-is_text-2.ensures ∙ c.if-is_text-3.true in
    record {
      ok = if_ok c.read_into_slot-then-is_text-3.result (λ done. (done.0, as_member c.args.depth c.args.reader.now done.0 c.read_into_slot-then-is_text-3.new.reader k done.1, λ start ms holds. changes_after k (codes "change") done.0 ms here _ holds.operation holds.added done.2 holds.removed holds.imported)) c.read_into_slot-then-is_text-3.ensures.ok;
      shorter = c.read_into_slot-then-is_text-3.ensures.shorter;
      err = c.read_into_slot-then-is_text-3.ensures.err;
    }

pub returns-then-is_text-4 : goal.returns-then-is_text-4
returns-then-is_text-4 c =
    let k = c.args.name.now in
    let here : bytes_eq k (codes "remove") ≡ true = sym c.is_text-else-is_text-3.ensures ∙ c.if-is_text-4.true in
    record {
      ok = if_ok c.read_into_slot-then-is_text-4.result (λ done. (done.0, as_member c.args.depth c.args.reader.now done.0 c.read_into_slot-then-is_text-4.new.reader k done.1, λ start ms holds. changes_after k (codes "remove") done.0 ms here _ holds.operation holds.added holds.changed done.2 holds.imported)) c.read_into_slot-then-is_text-4.ensures.ok;
      shorter = c.read_into_slot-then-is_text-4.ensures.shorter;
      err = c.read_into_slot-then-is_text-4.ensures.err;
    }

pub returns-then-is_text-5 : goal.returns-then-is_text-5
returns-then-is_text-5 c =
    let k = c.args.name.now in
    let here : bytes_eq k (codes "import") ≡ true = sym c.is_text-else-is_text-4.ensures ∙ c.if-is_text-5.true in
    record {
      ok = if_ok c.read_into_slot-then-is_text-5.result (λ done. (done.0, as_member c.args.depth c.args.reader.now done.0 c.read_into_slot-then-is_text-5.new.reader k done.1, λ start ms holds. changes_after k (codes "import") done.0 ms here _ holds.operation holds.added holds.changed holds.removed done.2)) c.read_into_slot-then-is_text-5.ensures.ok;
      shorter = c.read_into_slot-then-is_text-5.ensures.shorter;
      err = c.read_into_slot-then-is_text-5.ensures.err;
    }

pub returns-else-is_text-5 : goal.returns-else-is_text-5
returns-else-is_text-5 c =
    let k = c.args.name.now in
    record {
      ok = if_ok c.skip_member.result
          (λ done. (
            done.0,
            as_member c.args.depth c.args.reader.now done.0 c.skip_member.new.reader k done.1,
            λ start ms holds. record {
              operation = left shallow_value (codes "operation") k done.0 ms _ (sym c.is_text.ensures ∙ c.if-is_text.false) holds.operation;
              added = left shallow_value (codes "add") k done.0 ms _ (sym c.is_text-else-is_text.ensures ∙ c.if-is_text-2.false) holds.added;
              changed = left shallow_value (codes "change") k done.0 ms _ (sym c.is_text-else-is_text-2.ensures ∙ c.if-is_text-3.false) holds.changed;
              removed = left shallow_value (codes "remove") k done.0 ms _ (sym c.is_text-else-is_text-3.ensures ∙ c.if-is_text-4.false) holds.removed;
              imported = left shallow_value (codes "import") k done.0 ms _ (sym c.is_text-else-is_text-4.ensures ∙ c.if-is_text-5.false) holds.imported;
            },
          ))
          c.skip_member.ensures.ok;
      shorter = c.skip_member.ensures.shorter;
      err = c.skip_member.ensures.err;
    }
