use Rattle.std.proofs.Common.{◌≡◌, codes, true, refl, sym, ◌∙◌, string_bytes}
use Rattle.std.specs.Str.{bytes_eq}
use Rattle.json.specs.Json.{value}
use Rattle.serde_json.specs.Data.{string}
use Rattle.serde_json.specs.Find.{as_str}
use Rattle.apply_json.specs.ShallowView.{shallow_of}
use Rattle.apply_json.specs.Tree.{◌>>=◌}
use Rattle.apply_json.proofs.Held.{left}
use Rattle.apply_json.proofs.VerbatimValues.{own}
use Rattle.stream_record_lines.specs.Outputs.{is_json}
use Rattle.stream_record_lines.proofs.OutputLists.{output_after, passed_read, scalar_read}
use Rattle.stream_record_lines.proofs.outputs.output_slots.OutputSlotsSlots.take.Goals as goal

pub returns-then-is_text-clause-ok : goal.returns-then-is_text-clause-ok
returns-then-is_text-clause-ok c =
    let k = c.args.name.now in
    let here : bytes_eq k (codes "action") ≡ true = sym c.is_text.ensures ∙ c.if-is_text.true in
    scalar_read c.read_shallow_into.result k (codes "action") here refl (value c.args.depth c.args.reader.now) c.read_shallow_into.new.reader
    (λ d is start ms holds. output_after k (codes "action") d ms here _ is holds.sensitive holds.type_json holds.value_json)
    c.read_shallow_into.ensures.ok

pub returns-then-is_text-2-clause-ok : goal.returns-then-is_text-2-clause-ok
returns-then-is_text-2-clause-ok c =
    let k = c.args.name.now in
    let here : bytes_eq k (codes "sensitive") ≡ true = sym c.is_text-else-is_text.ensures ∙ c.if-is_text-2.true in
    scalar_read c.read_shallow_into-then-is_text-2.result k (codes "sensitive") here refl (value c.args.depth c.args.reader.now) c.read_shallow_into-then-is_text-2.new.reader
    (λ d is start ms holds. output_after k (codes "sensitive") d ms here _ holds.action is holds.type_json holds.value_json)
    c.read_shallow_into-then-is_text-2.ensures.ok

-- `type`
pub returns-in_ok-read_verbatim-clause-ok : goal.returns-in_ok-read_verbatim-clause-ok
returns-in_ok-read_verbatim-clause-ok c =
    let k = c.args.name.now in
    let here : bytes_eq k (codes "type") ≡ true = sym c.is_text-else-is_text-2.ensures ∙ c.if-is_text-3.true in
    let text = string_bytes c.in_ok-read_verbatim.field-0 in (
      string text,
      own is_json (value c.args.depth c.args.reader.now) k text c.read_verbatim.new.reader (rw here refl) c.in_ok-read_verbatim.ensures.ok,
      λ start ms holds. output_after k (codes "type") (string text) ms here _ holds.action holds.sensitive refl holds.value_json,
    )

-- `value`
pub returns-in_ok-read_verbatim-2-clause-ok : goal.returns-in_ok-read_verbatim-2-clause-ok
returns-in_ok-read_verbatim-2-clause-ok c =
    let k = c.args.name.now in
    let apart = sym c.is_text-else-is_text-2.ensures ∙ c.if-is_text-3.false in
    let here : bytes_eq k (codes "value") ≡ true = sym c.is_text-else-is_text-3.ensures ∙ c.if-is_text-4.true in
    let text = string_bytes c.in_ok-read_verbatim-2.field-0 in (
      string text,
      own is_json (value c.args.depth c.args.reader.now) k text c.read_verbatim-then-is_text-4.new.reader (rw apart here) c.in_ok-read_verbatim-2.ensures.ok,
      λ start ms holds. output_after k (codes "value") (string text) ms here _ holds.action holds.sensitive holds.type_json refl,
    )

pub returns-else-is_text-4-clause-ok : goal.returns-else-is_text-4-clause-ok
returns-else-is_text-4-clause-ok c =
    let k = c.args.name.now in
    passed_read c.skip_member.result is_json k (value c.args.depth c.args.reader.now) c.skip_member.new.reader
    (λ d start ms holds. record {
      action = left shallow_of (codes "action") k d ms _ (sym c.is_text.ensures ∙ c.if-is_text.false) holds.action;
      sensitive = left shallow_of (codes "sensitive") k d ms _ (sym c.is_text-else-is_text.ensures ∙ c.if-is_text-2.false) holds.sensitive;
      type_json = left (λ o. o >>= as_str) (codes "type") k d ms _ (sym c.is_text-else-is_text-2.ensures ∙ c.if-is_text-3.false) holds.type_json;
      value_json = left (λ o. o >>= as_str) (codes "value") k d ms _ (sym c.is_text-else-is_text-3.ensures ∙ c.if-is_text-4.false) holds.value_json;
    })
    c.skip_member.ensures.ok
