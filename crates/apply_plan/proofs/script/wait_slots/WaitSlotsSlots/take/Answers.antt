use Rattle.std.proofs.Common.{◌≡◌, codes, true, refl, sym, ◌∙◌}
use Rattle.std.specs.Str.{bytes_eq}
use Rattle.json.specs.Json.{value}
use Rattle.apply_json.specs.ShallowView.{shallow_of}
use Rattle.apply_json.proofs.Held.{left}
use Rattle.apply_plan.proofs.Scripts.VerbatimParts.{passed_read, scalar_read}
use Rattle.apply_plan.proofs.Scripts.Slots.{wait_behind}
use Rattle.apply_plan.proofs.script.wait_slots.WaitSlotsSlots.take.Goals as goal

pub returns-then-is_text : goal.returns-then-is_text
returns-then-is_text c =
    let here : bytes_eq c.args.name.now (codes "address") ≡ true = sym c.is_text.ensures ∙ c.if-is_text.true in
    record {
      ok = scalar_read c.read_shallow_into.result c.args.name.now (codes "address") here (value c.args.depth c.args.reader.now) c.read_shallow_into.new.reader refl (λ d is start ms holds. wait_behind c.args.name.now (codes "address") d ms here _ is holds.deposed holds.step) c.read_shallow_into.ensures.ok;
      shorter = c.read_shallow_into.ensures.shorter;
      err = c.read_shallow_into.ensures.err;
    }

pub returns-then-is_text-2 : goal.returns-then-is_text-2
returns-then-is_text-2 c =
    let here : bytes_eq c.args.name.now (codes "deposed") ≡ true = sym c.is_text-else-is_text.ensures ∙ c.if-is_text-2.true in
    record {
      ok = scalar_read c.read_shallow_into-then-is_text-2.result c.args.name.now (codes "deposed") here (value c.args.depth c.args.reader.now) c.read_shallow_into-then-is_text-2.new.reader refl (λ d is start ms holds. wait_behind c.args.name.now (codes "deposed") d ms here _ holds.address is holds.step) c.read_shallow_into-then-is_text-2.ensures.ok;
      shorter = c.read_shallow_into-then-is_text-2.ensures.shorter;
      err = c.read_shallow_into-then-is_text-2.ensures.err;
    }

pub returns-then-is_text-3 : goal.returns-then-is_text-3
returns-then-is_text-3 c =
    let here : bytes_eq c.args.name.now (codes "step") ≡ true = sym c.is_text-else-is_text-2.ensures ∙ c.if-is_text-3.true in
    record {
      ok = scalar_read c.read_shallow_into-then-is_text-3.result c.args.name.now (codes "step") here (value c.args.depth c.args.reader.now) c.read_shallow_into-then-is_text-3.new.reader refl (λ d is start ms holds. wait_behind c.args.name.now (codes "step") d ms here _ holds.address holds.deposed is) c.read_shallow_into-then-is_text-3.ensures.ok;
      shorter = c.read_shallow_into-then-is_text-3.ensures.shorter;
      err = c.read_shallow_into-then-is_text-3.ensures.err;
    }

pub returns-else-is_text-3 : goal.returns-else-is_text-3
returns-else-is_text-3 c =
    let k = c.args.name.now in
    record {
      ok = passed_read c.skip_member.result k (value c.args.depth c.args.reader.now) c.skip_member.new.reader
          (λ d start ms holds. record {
            address = left shallow_of (codes "address") k d ms _ (sym c.is_text.ensures ∙ c.if-is_text.false) holds.address;
            deposed = left shallow_of (codes "deposed") k d ms _ (sym c.is_text-else-is_text.ensures ∙ c.if-is_text-2.false) holds.deposed;
            step = left shallow_of (codes "step") k d ms _ (sym c.is_text-else-is_text-2.ensures ∙ c.if-is_text-3.false) holds.step;
          })
          c.skip_member.ensures.ok;
      shorter = c.skip_member.ensures.shorter;
      err = c.skip_member.ensures.err;
    }
