use Rattle.std.proofs.Common.{List, ℕ, ap, sym, ◌∙◌}
use Rattle.std.specs.Str.{bytes_eq}
use Rattle.apply_json.proofs.Copied.{if_ok}
use Rattle.apply_json.proofs.Held.{left, taken}
use Rattle.apply_json.proofs.VerbatimValues.{as_member}
use Rattle.stream_message.specs.Slots.{shallow_value}
use Rattle.stream_message.proofs.named_slot.NamedSlotSlots.take.Goals as goal

pub returns-then-is_text : goal.returns-then-is_text
returns-then-is_text c =
    let k = c.args.name.now in
    record {
      ok = if_ok c.read_into_slot.result
          (λ done. (
            done.0,
            as_member c.args.depth c.args.reader.now done.0 c.read_into_slot.new.reader k done.1,
            λ start ms holds. record {
              named = holds.named;
              value = taken shallow_value start.name.now k done.0 ms _ (ap (λ (q : List ℕ). bytes_eq k q) (sym holds.named) ∙ sym c.is_text.ensures ∙ c.if-is_text.true) done.2;
            },
          ))
          c.read_into_slot.ensures.ok;
      shorter = c.read_into_slot.ensures.shorter;
      err = c.read_into_slot.ensures.err;
    }

pub returns-else-is_text : goal.returns-else-is_text
returns-else-is_text c =
    let k = c.args.name.now in
    record {
      ok = if_ok c.skip_member.result
          (λ done. (
            done.0,
            as_member c.args.depth c.args.reader.now done.0 c.skip_member.new.reader k done.1,
            λ start ms holds. record {
              named = holds.named;
              value = left shallow_value start.name.now k done.0 ms _ (ap (λ (q : List ℕ). bytes_eq k q) (sym holds.named) ∙ sym c.is_text.ensures ∙ c.if-is_text.false) holds.value;
            },
          ))
          c.skip_member.ensures.ok;
      shorter = c.skip_member.ensures.shorter;
      err = c.skip_member.ensures.err;
    }
