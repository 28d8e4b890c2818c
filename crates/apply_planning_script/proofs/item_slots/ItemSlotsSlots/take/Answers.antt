use Rattle.std.proofs.Common.{◌≡◌, codes, true, refl, sym, ◌∙◌}
use Rattle.std.specs.Str.{bytes_eq}
use Rattle.json.specs.Json.{value}
use Rattle.apply_json.specs.ShallowView.{shallow_of}
use Rattle.apply_json.proofs.Held.{left}
use Rattle.apply_plan.specs.Script.Members.{failure_member}
use Rattle.apply_plan.proofs.Scripts.VerbatimParts.{other_read, passed_read, scalar_read}
use Rattle.apply_planning_script.proofs.Items.{item_behind}
use Rattle.apply_planning_script.proofs.item_slots.ItemSlotsSlots.take.Goals as goal

pub returns-then-is_text : goal.returns-then-is_text
returns-then-is_text c =
    let here : bytes_eq c.args.name.now (codes "address") ≡ true = sym c.is_text.ensures ∙ c.if-is_text.true in
    record {
      ok = scalar_read c.read_shallow_into.result c.args.name.now (codes "address") here (value c.args.depth c.args.reader.now) c.read_shallow_into.new.reader refl (λ d is start ms holds. item_behind c.args.name.now (codes "address") d ms here _ is holds.deposed holds.seconds holds.id holds.failed holds.gone holds.skipped) c.read_shallow_into.ensures.ok;
      shorter = c.read_shallow_into.ensures.shorter;
      err = c.read_shallow_into.ensures.err;
    }

pub returns-then-is_text-2 : goal.returns-then-is_text-2
returns-then-is_text-2 c =
    let here : bytes_eq c.args.name.now (codes "deposed") ≡ true = sym c.is_text-else-is_text.ensures ∙ c.if-is_text-2.true in
    record {
      ok = scalar_read c.read_shallow_into-then-is_text-2.result c.args.name.now (codes "deposed") here (value c.args.depth c.args.reader.now) c.read_shallow_into-then-is_text-2.new.reader refl (λ d is start ms holds. item_behind c.args.name.now (codes "deposed") d ms here _ holds.address is holds.seconds holds.id holds.failed holds.gone holds.skipped) c.read_shallow_into-then-is_text-2.ensures.ok;
      shorter = c.read_shallow_into-then-is_text-2.ensures.shorter;
      err = c.read_shallow_into-then-is_text-2.ensures.err;
    }

pub returns-then-is_text-3 : goal.returns-then-is_text-3
returns-then-is_text-3 c =
    let here : bytes_eq c.args.name.now (codes "seconds") ≡ true = sym c.is_text-else-is_text-2.ensures ∙ c.if-is_text-3.true in
    record {
      ok = scalar_read c.read_shallow_into-then-is_text-3.result c.args.name.now (codes "seconds") here (value c.args.depth c.args.reader.now) c.read_shallow_into-then-is_text-3.new.reader refl (λ d is start ms holds. item_behind c.args.name.now (codes "seconds") d ms here _ holds.address holds.deposed is holds.id holds.failed holds.gone holds.skipped) c.read_shallow_into-then-is_text-3.ensures.ok;
      shorter = c.read_shallow_into-then-is_text-3.ensures.shorter;
      err = c.read_shallow_into-then-is_text-3.ensures.err;
    }

pub returns-then-is_text-4 : goal.returns-then-is_text-4
returns-then-is_text-4 c =
    let here : bytes_eq c.args.name.now (codes "id") ≡ true = sym c.is_text-else-is_text-3.ensures ∙ c.if-is_text-4.true in
    record {
      ok = scalar_read c.read_shallow_into-then-is_text-4.result c.args.name.now (codes "id") here (value c.args.depth c.args.reader.now) c.read_shallow_into-then-is_text-4.new.reader refl (λ d is start ms holds. item_behind c.args.name.now (codes "id") d ms here _ holds.address holds.deposed holds.seconds is holds.failed holds.gone holds.skipped) c.read_shallow_into-then-is_text-4.ensures.ok;
      shorter = c.read_shallow_into-then-is_text-4.ensures.shorter;
      err = c.read_shallow_into-then-is_text-4.ensures.err;
    }

pub returns-then-is_text-5 : goal.returns-then-is_text-5
returns-then-is_text-5 c =
    let here : bytes_eq c.args.name.now (codes "failed") ≡ true = sym c.is_text-else-is_text-4.ensures ∙ c.if-is_text-5.true in
    record {
      ok = other_read c.read.result c.args.name.now (codes "failed") here (value c.args.depth c.args.reader.now) c.read.new.reader refl (λ d is start ms holds. item_behind c.args.name.now (codes "failed") d ms here _ holds.address holds.deposed holds.seconds holds.id is holds.gone holds.skipped) c.read.ensures.ok;
      shorter = c.read.ensures.shorter;
      err = c.read.ensures.err;
    }

pub returns-then-is_text-6 : goal.returns-then-is_text-6
returns-then-is_text-6 c =
    let here : bytes_eq c.args.name.now (codes "gone") ≡ true = sym c.is_text-else-is_text-5.ensures ∙ c.if-is_text-6.true in
    record {
      ok = scalar_read c.read_shallow_into-then-is_text-6.result c.args.name.now (codes "gone") here (value c.args.depth c.args.reader.now) c.read_shallow_into-then-is_text-6.new.reader refl (λ d is start ms holds. item_behind c.args.name.now (codes "gone") d ms here _ holds.address holds.deposed holds.seconds holds.id holds.failed is holds.skipped) c.read_shallow_into-then-is_text-6.ensures.ok;
      shorter = c.read_shallow_into-then-is_text-6.ensures.shorter;
      err = c.read_shallow_into-then-is_text-6.ensures.err;
    }

pub returns-then-is_text-7 : goal.returns-then-is_text-7
returns-then-is_text-7 c =
    let here : bytes_eq c.args.name.now (codes "skipped") ≡ true = sym c.is_text-else-is_text-6.ensures ∙ c.if-is_text-7.true in
    record {
      ok = scalar_read c.read_shallow_into-then-is_text-7.result c.args.name.now (codes "skipped") here (value c.args.depth c.args.reader.now) c.read_shallow_into-then-is_text-7.new.reader refl (λ d is start ms holds. item_behind c.args.name.now (codes "skipped") d ms here _ holds.address holds.deposed holds.seconds holds.id holds.failed holds.gone is) c.read_shallow_into-then-is_text-7.ensures.ok;
      shorter = c.read_shallow_into-then-is_text-7.ensures.shorter;
      err = c.read_shallow_into-then-is_text-7.ensures.err;
    }

pub returns-else-is_text-7 : goal.returns-else-is_text-7
returns-else-is_text-7 c =
    let k = c.args.name.now in
    record {
      ok = passed_read c.skip_member.result k (value c.args.depth c.args.reader.now) c.skip_member.new.reader
          (λ d start ms holds. record {
            address = left shallow_of (codes "address") k d ms _ (sym c.is_text.ensures ∙ c.if-is_text.false) holds.address;
            deposed = left shallow_of (codes "deposed") k d ms _ (sym c.is_text-else-is_text.ensures ∙ c.if-is_text-2.false) holds.deposed;
            seconds = left shallow_of (codes "seconds") k d ms _ (sym c.is_text-else-is_text-2.ensures ∙ c.if-is_text-3.false) holds.seconds;
            id = left shallow_of (codes "id") k d ms _ (sym c.is_text-else-is_text-3.ensures ∙ c.if-is_text-4.false) holds.id;
            failed = left failure_member (codes "failed") k d ms _ (sym c.is_text-else-is_text-4.ensures ∙ c.if-is_text-5.false) holds.failed;
            gone = left shallow_of (codes "gone") k d ms _ (sym c.is_text-else-is_text-5.ensures ∙ c.if-is_text-6.false) holds.gone;
            skipped = left shallow_of (codes "skipped") k d ms _ (sym c.is_text-else-is_text-6.ensures ∙ c.if-is_text-7.false) holds.skipped;
          })
          c.skip_member.ensures.ok;
      shorter = c.skip_member.ensures.shorter;
      err = c.skip_member.ensures.err;
    }
