use Rattle.std.proofs.Common.{◌+◌, ◌++◌, ap, ap₂, ◌∙◌}
use Rattle.std.proofs.lemmas.Result.{on_ok_weaker}
use Rattle.apply_text.specs.HookLines.{hook_fields_view}
use Rattle.apply_text.proofs.CachedTexts.{appended}
use Rattle.apply_text_terraform.specs.HookLines.{hook_text}
use Rattle.apply_text_terraform.specs.Lines.{line_of_text}
use Rattle.apply_text_terraform.proofs.HookLines.{line_is}
use Rattle.apply_text_terraform.proofs.terraform_buffer.TerraformBuffer.push_hook.Goals as goal

pub returns-clause-ok : goal.returns-clause-ok
returns-clause-ok c =
    let change = c.args.change.now in
    let fields = hook_fields_view c.args.fields in
    let is = c.as_bytes.ensures.value ∙ c.in_ok-put_hook.ensures ∙ line_is change c.args.step (c.seconds.result + c.args.clock) fields c.requires.id c.requires.order
    ∙ ap (λ start. line_of_text (hook_text (start + c.args.clock) change c.args.step fields)) c.seconds.ensures.value in
    on_ok_weaker c.extend_from_slice.result (λ e. e ∙ ap₂ (λ old line. old ++ line) c.self.view_is is) (appended c.extend_from_slice.result c.self.inside.bytes.items c.extend_from_slice.new.self.items c.as_bytes.result.now c.extend_from_slice.ensures.items)
