use Rattle.std.proofs.Common.{◌+◌, ◌++◌, sym, ap, ap₂, ◌∙◌, subst}
use Rattle.std.specs.Str.{IsUtf8}
use Rattle.std.proofs.lemmas.Result.{on_ok_weaker}
use Rattle.apply_text.specs.HookLines.{fields_message, hook_fields_view}
use Rattle.apply_text.specs.Lines.{message_line}
use Rattle.apply_text.proofs.CachedTexts.{appended, grown_utf8}
use Rattle.apply_text.proofs.HookLines.{line_is}
use Rattle.apply_text.proofs.line_buffer.LineBuffer.push_hook.Goals as goal

pub invariant_of-self-2 : goal.invariant_of-self-2
invariant_of-self-2 c = subst IsUtf8 (sym c.extend_from_slice.ensures.items) (grown_utf8 _ _ _ c.self.invariant c.as_bytes.ensures.utf8)

pub returns-clause-ok : goal.returns-clause-ok
returns-clause-ok c =
    let change = c.args.change.now in
    let fields = hook_fields_view c.args.fields in
    let is = c.as_bytes.ensures.value ∙ c.as_str.ensures.value ∙ c.in_ok-put_hook.ensures ∙ line_is change c.args.step (c.seconds.result + c.args.clock) fields c.requires.id c.requires.order
    ∙ ap (λ start. message_line (start + c.args.clock) (fields_message change c.args.step fields)) c.seconds.ensures.value in
    on_ok_weaker c.extend_from_slice.result (λ e. e ∙ ap₂ (λ old line. old ++ line) c.self.view_is is) (appended c.extend_from_slice.result c.self.inside.bytes.items c.extend_from_slice.new.self.items c.as_bytes.result.now c.extend_from_slice.ensures.items)
