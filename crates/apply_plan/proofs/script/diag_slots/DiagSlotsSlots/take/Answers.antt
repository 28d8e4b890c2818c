use Rattle.std.proofs.Common.{◌≡◌, codes, true, refl, sym, ◌∙◌}
use Rattle.std.specs.Str.{bytes_eq}
use Rattle.serde_json.specs.Data.{string}
use Rattle.json.specs.Json.{value}
use Rattle.apply_json.specs.ShallowView.{shallow_of}
use Rattle.apply_json.proofs.Held.{left}
use Rattle.apply_plan.specs.Script.Members.{object_member}
use Rattle.apply_plan.proofs.Scripts.VerbatimParts.{passed_read, scalar_read, text_read}
use Rattle.apply_plan.proofs.Scripts.Slots.{diag_behind}
use Rattle.apply_plan.proofs.script.diag_slots.DiagSlotsSlots.take.Goals as goal

pub returns-then-is_text : goal.returns-then-is_text
returns-then-is_text c =
    let here : bytes_eq c.args.name.now (codes "summary") ≡ true = sym c.is_text.ensures ∙ c.if-is_text.true in
    record {
      ok = scalar_read c.read_shallow_into.result c.args.name.now (codes "summary") here (value c.args.depth c.args.reader.now) c.read_shallow_into.new.reader refl (λ d is start ms holds. diag_behind c.args.name.now (codes "summary") d ms here _ is holds.detail holds.range holds.snippet holds.severity) c.read_shallow_into.ensures.ok;
      shorter = c.read_shallow_into.ensures.shorter;
      err = c.read_shallow_into.ensures.err;
    }

pub returns-then-is_text-2 : goal.returns-then-is_text-2
returns-then-is_text-2 c =
    let here : bytes_eq c.args.name.now (codes "detail") ≡ true = sym c.is_text-else-is_text.ensures ∙ c.if-is_text-2.true in
    record {
      ok = scalar_read c.read_shallow_into-then-is_text-2.result c.args.name.now (codes "detail") here (value c.args.depth c.args.reader.now) c.read_shallow_into-then-is_text-2.new.reader refl (λ d is start ms holds. diag_behind c.args.name.now (codes "detail") d ms here _ holds.summary is holds.range holds.snippet holds.severity) c.read_shallow_into-then-is_text-2.ensures.ok;
      shorter = c.read_shallow_into-then-is_text-2.ensures.shorter;
      err = c.read_shallow_into-then-is_text-2.ensures.err;
    }

pub returns-then-is_text-3 : goal.returns-then-is_text-3
returns-then-is_text-3 c =
    let here : bytes_eq c.args.name.now (codes "range") ≡ true = sym c.is_text-else-is_text-2.ensures ∙ c.if-is_text-3.true in
    record {
      ok = text_read c.read_object_text.result c.args.name.now (codes "range") here (value c.args.depth c.args.reader.now) c.read_object_text.new.reader _ refl (λ text is start ms holds. diag_behind c.args.name.now (codes "range") (string text) ms here _ holds.summary holds.detail is holds.snippet holds.severity) c.read_object_text.ensures.ok;
      shorter = c.read_object_text.ensures.shorter;
      err = c.read_object_text.ensures.err;
    }

pub returns-then-is_text-4 : goal.returns-then-is_text-4
returns-then-is_text-4 c =
    let here : bytes_eq c.args.name.now (codes "snippet") ≡ true = sym c.is_text-else-is_text-3.ensures ∙ c.if-is_text-4.true in
    record {
      ok = text_read c.read_object_text-then-is_text-4.result c.args.name.now (codes "snippet") here (value c.args.depth c.args.reader.now) c.read_object_text-then-is_text-4.new.reader _ refl (λ text is start ms holds. diag_behind c.args.name.now (codes "snippet") (string text) ms here _ holds.summary holds.detail holds.range is holds.severity) c.read_object_text-then-is_text-4.ensures.ok;
      shorter = c.read_object_text-then-is_text-4.ensures.shorter;
      err = c.read_object_text-then-is_text-4.ensures.err;
    }

pub returns-then-is_text-5 : goal.returns-then-is_text-5
returns-then-is_text-5 c =
    let here : bytes_eq c.args.name.now (codes "severity") ≡ true = sym c.is_text-else-is_text-4.ensures ∙ c.if-is_text-5.true in
    record {
      ok = scalar_read c.read_shallow_into-then-is_text-5.result c.args.name.now (codes "severity") here (value c.args.depth c.args.reader.now) c.read_shallow_into-then-is_text-5.new.reader refl (λ d is start ms holds. diag_behind c.args.name.now (codes "severity") d ms here _ holds.summary holds.detail holds.range holds.snippet is) c.read_shallow_into-then-is_text-5.ensures.ok;
      shorter = c.read_shallow_into-then-is_text-5.ensures.shorter;
      err = c.read_shallow_into-then-is_text-5.ensures.err;
    }

pub returns-else-is_text-5 : goal.returns-else-is_text-5
returns-else-is_text-5 c =
    let k = c.args.name.now in
    record {
      ok = passed_read c.skip_member.result k (value c.args.depth c.args.reader.now) c.skip_member.new.reader
          (λ d start ms holds. record {
            summary = left shallow_of (codes "summary") k d ms _ (sym c.is_text.ensures ∙ c.if-is_text.false) holds.summary;
            detail = left shallow_of (codes "detail") k d ms _ (sym c.is_text-else-is_text.ensures ∙ c.if-is_text-2.false) holds.detail;
            range = left object_member (codes "range") k d ms _ (sym c.is_text-else-is_text-2.ensures ∙ c.if-is_text-3.false) holds.range;
            snippet = left object_member (codes "snippet") k d ms _ (sym c.is_text-else-is_text-3.ensures ∙ c.if-is_text-4.false) holds.snippet;
            severity = left shallow_of (codes "severity") k d ms _ (sym c.is_text-else-is_text-4.ensures ∙ c.if-is_text-5.false) holds.severity;
          })
          c.skip_member.ensures.ok;
      shorter = c.skip_member.ensures.shorter;
      err = c.skip_member.ensures.err;
    }
