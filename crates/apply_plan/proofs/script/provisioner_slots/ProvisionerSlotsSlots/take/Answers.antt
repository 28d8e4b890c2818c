use Rattle.std.proofs.Common.{◌≡◌, codes, true, refl, sym, ◌∙◌}
use Rattle.std.specs.Str.{bytes_eq}
use Rattle.json.specs.Json.{value}
use Rattle.apply_json.specs.ShallowView.{shallow_of}
use Rattle.apply_json.proofs.Held.{left}
use Rattle.apply_plan.specs.Script.Entry.{output_from}
use Rattle.apply_plan.specs.Script.Members.{diag_member, each_member}
use Rattle.apply_plan.proofs.Scripts.VerbatimParts.{other_read, passed_read, scalar_read}
use Rattle.apply_plan.proofs.Scripts.Slots.{provisioner_behind}
use Rattle.apply_plan.proofs.script.provisioner_slots.ProvisionerSlotsSlots.take.Goals as goal

pub returns-then-is_text : goal.returns-then-is_text
returns-then-is_text c =
    let here : bytes_eq c.args.name.now (codes "provisioner") ≡ true = sym c.is_text.ensures ∙ c.if-is_text.true in
    record {
      ok = scalar_read c.read_shallow_into.result c.args.name.now (codes "provisioner") here (value c.args.depth c.args.reader.now) c.read_shallow_into.new.reader refl (λ d is start ms holds. provisioner_behind c.args.name.now (codes "provisioner") d ms here _ is holds.seconds holds.failed holds.output holds.on_failure) c.read_shallow_into.ensures.ok;
      shorter = c.read_shallow_into.ensures.shorter;
      err = c.read_shallow_into.ensures.err;
    }

pub returns-then-is_text-2 : goal.returns-then-is_text-2
returns-then-is_text-2 c =
    let here : bytes_eq c.args.name.now (codes "seconds") ≡ true = sym c.is_text-else-is_text.ensures ∙ c.if-is_text-2.true in
    record {
      ok = scalar_read c.read_shallow_into-then-is_text-2.result c.args.name.now (codes "seconds") here (value c.args.depth c.args.reader.now) c.read_shallow_into-then-is_text-2.new.reader refl (λ d is start ms holds. provisioner_behind c.args.name.now (codes "seconds") d ms here _ holds.name is holds.failed holds.output holds.on_failure) c.read_shallow_into-then-is_text-2.ensures.ok;
      shorter = c.read_shallow_into-then-is_text-2.ensures.shorter;
      err = c.read_shallow_into-then-is_text-2.ensures.err;
    }

pub returns-then-is_text-3 : goal.returns-then-is_text-3
returns-then-is_text-3 c =
    let here : bytes_eq c.args.name.now (codes "failed") ≡ true = sym c.is_text-else-is_text-2.ensures ∙ c.if-is_text-3.true in
    record {
      ok = other_read c.read.result c.args.name.now (codes "failed") here (value c.args.depth c.args.reader.now) c.read.new.reader refl (λ d is start ms holds. provisioner_behind c.args.name.now (codes "failed") d ms here _ holds.name holds.seconds is holds.output holds.on_failure) c.read.ensures.ok;
      shorter = c.read.ensures.shorter;
      err = c.read.ensures.err;
    }

pub returns-then-is_text-4 : goal.returns-then-is_text-4
returns-then-is_text-4 c =
    let here : bytes_eq c.args.name.now (codes "output") ≡ true = sym c.is_text-else-is_text-3.ensures ∙ c.if-is_text-4.true in
    record {
      ok = other_read c.read_items.result c.args.name.now (codes "output") here (value c.args.depth c.args.reader.now) c.read_items.new.reader refl (λ d is start ms holds. provisioner_behind c.args.name.now (codes "output") d ms here _ holds.name holds.seconds holds.failed is holds.on_failure) c.read_items.ensures.ok;
      shorter = c.read_items.ensures.shorter;
      err = c.read_items.ensures.err;
    }

pub returns-then-is_text-5 : goal.returns-then-is_text-5
returns-then-is_text-5 c =
    let here : bytes_eq c.args.name.now (codes "on_failure") ≡ true = sym c.is_text-else-is_text-4.ensures ∙ c.if-is_text-5.true in
    record {
      ok = scalar_read c.read_shallow_into-then-is_text-5.result c.args.name.now (codes "on_failure") here (value c.args.depth c.args.reader.now) c.read_shallow_into-then-is_text-5.new.reader refl (λ d is start ms holds. provisioner_behind c.args.name.now (codes "on_failure") d ms here _ holds.name holds.seconds holds.failed holds.output is) c.read_shallow_into-then-is_text-5.ensures.ok;
      shorter = c.read_shallow_into-then-is_text-5.ensures.shorter;
      err = c.read_shallow_into-then-is_text-5.ensures.err;
    }

pub returns-else-is_text-5 : goal.returns-else-is_text-5
returns-else-is_text-5 c =
    let k = c.args.name.now in
    record {
      ok = passed_read c.skip_member.result k (value c.args.depth c.args.reader.now) c.skip_member.new.reader
          (λ d start ms holds. record {
            name = left shallow_of (codes "provisioner") k d ms _ (sym c.is_text.ensures ∙ c.if-is_text.false) holds.name;
            seconds = left shallow_of (codes "seconds") k d ms _ (sym c.is_text-else-is_text.ensures ∙ c.if-is_text-2.false) holds.seconds;
            failed = left diag_member (codes "failed") k d ms _ (sym c.is_text-else-is_text-2.ensures ∙ c.if-is_text-3.false) holds.failed;
            output = left (each_member output_from) (codes "output") k d ms _ (sym c.is_text-else-is_text-3.ensures ∙ c.if-is_text-4.false) holds.output;
            on_failure = left shallow_of (codes "on_failure") k d ms _ (sym c.is_text-else-is_text-4.ensures ∙ c.if-is_text-5.false) holds.on_failure;
          })
          c.skip_member.ensures.ok;
      shorter = c.skip_member.ensures.shorter;
      err = c.skip_member.ensures.err;
    }
