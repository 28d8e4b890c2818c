use Rattle.std.proofs.Common.{◌++◌, codes, ap, ◌∙◌}
use Rattle.std.proofs.lemmas.Result.{on_ok_weaker}
use Rattle.apply_text.proofs.CachedTexts.{appended}
use Rattle.apply_text_terraform.specs.Escapes.{escaped}
use Rattle.apply_text_terraform.proofs.OutputTexts.{hidden_written, shown_written}
use Rattle.apply_text_terraform.proofs.Utf8.{text_begins}
use Rattle.apply_text_terraform.proofs.outputs.push_output.Goals as goal

pub returns-then-output-clause-ok : goal.returns-then-output-clause-ok
returns-then-output-clause-ok c =
    let r = c.extend_from_slice.result in
    let old = c.args.lines.now.items in
    let first = c.push_escaped.new.lines.items in
    let second = c.push_escaped-2.new.lines.items in
    let new = c.extend_from_slice.new.self.items in
    let kind = c.as_bytes-2.result.now in
    on_ok_weaker r (λ e. hidden_written old first second new c.args.comma.now kind c.args.output.now c.if-output.true (text_begins kind c.as_bytes-2.ensures.utf8) (c.as_bytes-2.ensures.value ∙ c.as_str.ensures)
    (c.in_ok-push_escaped.ensures.ok ∙ ap (λ t. old ++ escaped t) (c.as_bytes.ensures.value ∙ c.in_ok-write_name.ensures)) c.in_ok-push_escaped-2.ensures.ok e)
    (appended r second new (codes "}") c.extend_from_slice.ensures.items)

pub returns-else-output-clause-ok : goal.returns-else-output-clause-ok
returns-else-output-clause-ok c =
    let old = c.args.lines.now.items in
    let first = c.push_escaped.new.lines.items in
    let second = c.push_escaped-2.new.lines.items in
    let kind = c.as_bytes-2.result.now in
    shown_written c.push_value.result old first second c.push_value.new.lines.items c.args.comma.now kind c.as_str-else-output.result.now c.args.output.now c.if-output.false (text_begins kind c.as_bytes-2.ensures.utf8)
    (c.as_bytes-2.ensures.value ∙ c.as_str.ensures) c.as_str-else-output.ensures
    (c.in_ok-push_escaped.ensures.ok ∙ ap (λ t. old ++ escaped t) (c.as_bytes.ensures.value ∙ c.in_ok-write_name.ensures)) c.in_ok-push_escaped-2.ensures.ok c.push_value.ensures.ok
