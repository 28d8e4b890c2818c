use Rattle.std.proofs.Common.{◌≡◌, codes, true, refl, sym, ◌∙◌}
use Rattle.std.specs.Str.{bytes_eq}
use Rattle.json.specs.Json.{value}
use Rattle.apply_json.specs.ShallowView.{shallow_of}
use Rattle.apply_json.proofs.Held.{left}
use Rattle.apply_plan.proofs.Scripts.VerbatimParts.{passed_read, scalar_read}
use Rattle.apply_plan.proofs.Scripts.Slots.{output_behind}
use Rattle.apply_plan.proofs.script.output_slots.OutputSlotsSlots.take.Goals as goal

pub returns-then-is_text : goal.returns-then-is_text
returns-then-is_text c =
    let here : bytes_eq c.args.name.now (codes "after") ≡ true = sym c.is_text.ensures ∙ c.if-is_text.true in
    record {
      ok = scalar_read c.read_shallow_into.result c.args.name.now (codes "after") here (value c.args.depth c.args.reader.now) c.read_shallow_into.new.reader refl (λ d is start ms holds. output_behind c.args.name.now (codes "after") d ms here _ is holds.text) c.read_shallow_into.ensures.ok;
      shorter = c.read_shallow_into.ensures.shorter;
      err = c.read_shallow_into.ensures.err;
    }

pub returns-then-is_text-2 : goal.returns-then-is_text-2
returns-then-is_text-2 c =
    let here : bytes_eq c.args.name.now (codes "text") ≡ true = sym c.is_text-else-is_text.ensures ∙ c.if-is_text-2.true in
    record {
      ok = scalar_read c.read_shallow_into-then-is_text-2.result c.args.name.now (codes "text") here (value c.args.depth c.args.reader.now) c.read_shallow_into-then-is_text-2.new.reader refl (λ d is start ms holds. output_behind c.args.name.now (codes "text") d ms here _ holds.after is) c.read_shallow_into-then-is_text-2.ensures.ok;
      shorter = c.read_shallow_into-then-is_text-2.ensures.shorter;
      err = c.read_shallow_into-then-is_text-2.ensures.err;
    }

pub returns-else-is_text-2 : goal.returns-else-is_text-2
returns-else-is_text-2 c =
    let k = c.args.name.now in
    record {
      ok = passed_read c.skip_member.result k (value c.args.depth c.args.reader.now) c.skip_member.new.reader
          (λ d start ms holds. record {
            after = left shallow_of (codes "after") k d ms _ (sym c.is_text.ensures ∙ c.if-is_text.false) holds.after;
            text = left shallow_of (codes "text") k d ms _ (sym c.is_text-else-is_text.ensures ∙ c.if-is_text-2.false) holds.text;
          })
          c.skip_member.ensures.ok;
      shorter = c.skip_member.ensures.shorter;
      err = c.skip_member.ensures.err;
    }
