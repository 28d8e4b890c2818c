use Rattle.std.proofs.Common.{◌++◌, codes, ap, ◌∙◌}
use Rattle.std.proofs.lemmas.Result.{on_ok_weaker}
use Rattle.apply_text.proofs.CachedTexts.{appended}
use Rattle.apply_text_terraform.specs.Escapes.{escaped}
use Rattle.apply_text_terraform.proofs.OutputTexts.{value_written}
use Rattle.apply_text_terraform.proofs.outputs.push_value.Goals as goal

pub returns-clause-ok : goal.returns-clause-ok
returns-clause-ok c =
    let r = c.extend_from_slice-2.result in
    let old = c.args.lines.now.items in
    let first = c.extend_from_slice.new.self.items in
    let second = c.push_escaped.new.lines.items in
    let new = c.extend_from_slice-2.new.self.items in
    on_ok_weaker r (λ e. value_written old first second new c.args.value.now c.in_ok-extend_from_slice.ensures.items (c.in_ok-push_escaped.ensures.ok ∙ ap (λ v. first ++ escaped v) c.as_bytes.ensures.value) e)
    (appended r second new (codes "}") c.extend_from_slice-2.ensures.items)
