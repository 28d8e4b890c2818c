use Rattle.std.proofs.Common.{◌++◌, codes, ap, ◌∙◌}
use Rattle.apply_text.proofs.CachedTexts.{appended}
use Rattle.apply_text_terraform.specs.Escapes.{escaped}
use Rattle.apply_text_terraform.proofs.OutputTexts.{whole_written}
use Rattle.apply_text_terraform.proofs.outputs.push_message.Goals as goal

pub returns-clause-ok : goal.returns-clause-ok
returns-clause-ok c =
    let r = c.extend_from_slice.result in
    let second = c.push_all.new.lines.items in
    let new = c.extend_from_slice.new.self.items in
    let front = c.as_bytes.result.now in
    whole_written r c.args.lines.now.items c.push_escaped.new.lines.items second new front c.args.timestamp.now c.args.outputs.now (c.as_bytes.ensures.value ∙ c.in_ok-write_front.ensures)
    (c.in_ok-push_escaped.ensures.ok ∙ ap (λ old. old ++ escaped front) c.in_ok-reserve.ensures.items) c.in_ok-push_all.ensures.ok (appended r second new (codes "},\"type\":\"outputs\"}\n") c.extend_from_slice.ensures.items)
