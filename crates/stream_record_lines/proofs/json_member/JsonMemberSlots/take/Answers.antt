use Rattle.std.proofs.Common.{List, ℕ, ap, refl, sym, ◌∙◌, string_bytes}
use Rattle.std.specs.Str.{bytes_eq}
use Rattle.json.specs.Json.{value}
use Rattle.serde_json.specs.Data.{string}
use Rattle.serde_json.specs.Find.{as_str}
use Rattle.apply_json.specs.Tree.{◌>>=◌}
use Rattle.apply_json.proofs.Held.{left, taken}
use Rattle.apply_json.proofs.VerbatimValues.{own}
use Rattle.stream_record_lines.specs.JsonMembers.{each_member}
use Rattle.stream_record_lines.proofs.OutputLists.{passed_read}
use Rattle.stream_record_lines.proofs.json_member.JsonMemberSlots.take.Goals as goal

pub returns-in_ok-read_verbatim-clause-ok : goal.returns-in_ok-read_verbatim-clause-ok
returns-in_ok-read_verbatim-clause-ok c =
    let k = c.args.name.now in
    let text = string_bytes c.in_ok-read_verbatim.field-0 in (
      string text,
      own each_member (value c.args.depth c.args.reader.now) k text c.read_verbatim.new.reader refl c.in_ok-read_verbatim.ensures.ok,
      λ start ms holds. record {
        named = holds.named;
        json = taken (λ o. o >>= as_str) start.name.now k (string text) ms _
            (ap (λ (q : List ℕ). bytes_eq k q) (sym holds.named) ∙ sym c.is_text.ensures ∙ c.if-is_text.true) refl;
      },
    )

pub returns-else-is_text-clause-ok : goal.returns-else-is_text-clause-ok
returns-else-is_text-clause-ok c =
    let k = c.args.name.now in
    passed_read c.skip_member.result each_member k (value c.args.depth c.args.reader.now) c.skip_member.new.reader
    (λ d start ms holds. record {
      named = holds.named;
      json = left (λ o. o >>= as_str) start.name.now k d ms _
          (ap (λ (q : List ℕ). bytes_eq k q) (sym holds.named) ∙ sym c.is_text.ensures ∙ c.if-is_text.false) holds.json;
    })
    c.skip_member.ensures.ok
