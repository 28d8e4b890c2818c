use Rattle.std.proofs.Common.{◌≡◌, codes, true, sym, ◌∙◌}
use Rattle.std.specs.Str.{bytes_eq}
use Rattle.apply_json.proofs.Copied.{if_ok}
use Rattle.apply_json.proofs.Held.{left}
use Rattle.apply_json.proofs.VerbatimValues.{as_member}
use Rattle.apply_json.specs.ShallowView.{shallow_of}
use Rattle.stream_message.specs.Slots.{inner_of}
use Rattle.stream_message.proofs.Slots.{range_after}
use Rattle.stream_message.proofs.range_slots.RangeSlotsSlots.take.Goals as goal

pub returns-then-is_text : goal.returns-then-is_text
returns-then-is_text c =
    let k = c.args.name.now in
    let here : bytes_eq k (codes "filename") ≡ true = sym c.is_text.ensures ∙ c.if-is_text.true in
    record {
      ok = if_ok c.read_shallow_into.result (λ done. (done.0, as_member c.args.depth c.args.reader.now done.0 c.read_shallow_into.new.reader k done.1, λ start ms holds. range_after k (codes "filename") done.0 ms here _ done.2 holds.start)) c.read_shallow_into.ensures.ok;
      shorter = c.read_shallow_into.ensures.shorter;
      err = c.read_shallow_into.ensures.err;
    }

pub returns-then-is_text-2 : goal.returns-then-is_text-2
returns-then-is_text-2 c =
    let k = c.args.name.now in
    let here : bytes_eq k (codes "start") ≡ true = sym c.is_text-else-is_text.ensures ∙ c.if-is_text-2.true in
    record {
      ok = if_ok c.read.result (λ done. (done.0, as_member c.args.depth c.args.reader.now done.0 c.read.new.reader k done.1, λ start ms holds. range_after k (codes "start") done.0 ms here _ holds.filename done.2)) c.read.ensures.ok;
      shorter = c.read.ensures.shorter;
      err = c.read.ensures.err;
    }

pub returns-else-is_text-2 : goal.returns-else-is_text-2
returns-else-is_text-2 c =
    let k = c.args.name.now in
    record {
      ok = if_ok c.skip_member.result
          (λ done. (
            done.0,
            as_member c.args.depth c.args.reader.now done.0 c.skip_member.new.reader k done.1,
            λ start ms holds. record {
              filename = left shallow_of (codes "filename") k done.0 ms _ (sym c.is_text.ensures ∙ c.if-is_text.false) holds.filename;
              start = left (inner_of (codes "line")) (codes "start") k done.0 ms _ (sym c.is_text-else-is_text.ensures ∙ c.if-is_text-2.false) holds.start;
            },
          ))
          c.skip_member.ensures.ok;
      shorter = c.skip_member.ensures.shorter;
      err = c.skip_member.ensures.err;
    }
