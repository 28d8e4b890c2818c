use Rattle.std.proofs.Common.{◌+◌, ◌++◌, sym, ap, ap₂, ◌∙◌, subst}
use Rattle.std.specs.Str.{IsUtf8}
use Rattle.std.proofs.lemmas.Result.{on_ok_weaker}
use Rattle.apply_text.specs.Lines.{message_line}
use Rattle.apply_text.specs.Message.{progress_message}
use Rattle.apply_text.proofs.CachedTexts.{appended, grown_utf8}
use Rattle.apply_text.proofs.Progress.{pieces_are}
use Rattle.apply_text.proofs.line_buffer.LineBuffer.push_progress.Goals as goal

pub invariant_of-self-2 : goal.invariant_of-self-2
invariant_of-self-2 c = subst IsUtf8 (sym c.extend_from_slice.ensures.items) (grown_utf8 _ _ _ c.self.invariant c.as_bytes.ensures.utf8)

pub returns-clause-ok : goal.returns-clause-ok
returns-clause-ok c =
    let change = c.args.change.now in
    let is = c.as_bytes.ensures.value ∙ c.as_str.ensures.value ∙ c.in_ok-put_line.ensures ∙ pieces_are change c.args.step (c.seconds.result + c.args.clock) c.args.seconds
    ∙ ap (λ start. message_line (start + c.args.clock) (progress_message change c.args.step c.args.seconds)) c.seconds.ensures.value in
    on_ok_weaker c.extend_from_slice.result (λ e. e ∙ ap₂ (λ old line. old ++ line) c.self.view_is is) (appended c.extend_from_slice.result c.self.inside.bytes.items c.extend_from_slice.new.self.items c.as_bytes.result.now c.extend_from_slice.ensures.items)
