use Rattle.std.proofs.Common.{◌≡◌, codes, true, sym, ◌∙◌}
use Rattle.std.specs.Str.{bytes_eq}
use Rattle.apply_json.proofs.Copied.{if_ok}
use Rattle.apply_json.proofs.Held.{left}
use Rattle.apply_json.proofs.VerbatimValues.{as_member}
use Rattle.apply_json.specs.ShallowView.{shallow_of}
use Rattle.stream_message.proofs.Slots.{head_after}
use Rattle.stream_message.proofs.line_head.LineHeadSlots.take.Goals as goal

pub returns-then-is_text : goal.returns-then-is_text
returns-then-is_text c =
    let k = c.args.name.now in
    let here : bytes_eq k (codes "type") ≡ true = sym c.is_text.ensures ∙ c.if-is_text.true in
    record {
      ok = if_ok c.read_shallow_into.result (λ done. (done.0, as_member c.args.depth c.args.reader.now done.0 c.read_shallow_into.new.reader k done.1, λ start ms holds. head_after k (codes "type") done.0 ms here _ done.2 holds.timestamp)) c.read_shallow_into.ensures.ok;
      shorter = c.read_shallow_into.ensures.shorter;
      err = c.read_shallow_into.ensures.err;
    }

pub returns-then-is_text-2 : goal.returns-then-is_text-2
returns-then-is_text-2 c =
    let k = c.args.name.now in
    let here : bytes_eq k (codes "@timestamp") ≡ true = sym c.is_text-else-is_text.ensures ∙ c.if-is_text-2.true in
    record {
      ok = if_ok c.read_shallow_into-then-is_text-2.result (λ done. (done.0, as_member c.args.depth c.args.reader.now done.0 c.read_shallow_into-then-is_text-2.new.reader k done.1, λ start ms holds. head_after k (codes "@timestamp") done.0 ms here _ holds.type_name done.2)) c.read_shallow_into-then-is_text-2.ensures.ok;
      shorter = c.read_shallow_into-then-is_text-2.ensures.shorter;
      err = c.read_shallow_into-then-is_text-2.ensures.err;
    }

pub returns-else-is_text-2 : goal.returns-else-is_text-2
returns-else-is_text-2 c =
    let k = c.args.name.now in
    record {
      ok = if_ok c.skip_member.result
          (λ done. (
            done.0,
            as_member c.args.depth c.args.reader.now done.0 c.skip_member.new.reader k done.1,
            λ start ms holds. record {
              type_name = left shallow_of (codes "type") k done.0 ms _ (sym c.is_text.ensures ∙ c.if-is_text.false) holds.type_name;
              timestamp = left shallow_of (codes "@timestamp") k done.0 ms _ (sym c.is_text-else-is_text.ensures ∙ c.if-is_text-2.false) holds.timestamp;
            },
          ))
          c.skip_member.ensures.ok;
      shorter = c.skip_member.ensures.shorter;
      err = c.skip_member.ensures.err;
    }
