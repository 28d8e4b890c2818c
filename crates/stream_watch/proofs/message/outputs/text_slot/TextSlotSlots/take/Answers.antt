use Rattle.std.proofs.Common.{◌≡◌, codes, true, refl, sym, ◌∙◌, string_bytes}
use Rattle.std.specs.Str.{bytes_eq}
use Rattle.json.specs.Json.{value}
use Rattle.serde_json.specs.Data.{string}
use Rattle.serde_json.specs.Find.{as_str}
use Rattle.apply_json.specs.Tree.{◌>>=◌}
use Rattle.apply_json.proofs.Held.{left, taken}
use Rattle.apply_json.proofs.VerbatimValues.{own}
use Rattle.stream_watch.specs.Outputs.{is_outputs}
use Rattle.stream_watch.proofs.OutputLists.{passed_read}
use Rattle.stream_watch.proofs.message.outputs.text_slot.TextSlotSlots.take.Goals as goal

pub returns-in_ok-read_verbatim-clause-ok : goal.returns-in_ok-read_verbatim-clause-ok
returns-in_ok-read_verbatim-clause-ok c =
    let k = c.args.name.now in
    let here : bytes_eq k (codes "outputs") ≡ true = sym c.is_text.ensures ∙ c.if-is_text.true in
    let text = string_bytes c.in_ok-read_verbatim.field-0 in (
      string text,
      own is_outputs (value c.args.depth c.args.reader.now) k text c.read_verbatim.new.reader here c.in_ok-read_verbatim.ensures.ok,
      λ start ms holds. taken (λ o. o >>= as_str) (codes "outputs") k (string text) ms _ here refl,
    )

pub returns-else-is_text-clause-ok : goal.returns-else-is_text-clause-ok
returns-else-is_text-clause-ok c =
    let k = c.args.name.now in
    passed_read c.skip_member.result is_outputs k (value c.args.depth c.args.reader.now) c.skip_member.new.reader
    (λ d start ms holds. left (λ o. o >>= as_str) (codes "outputs") k d ms _ (sym c.is_text.ensures ∙ c.if-is_text.false) holds) c.skip_member.ensures.ok
