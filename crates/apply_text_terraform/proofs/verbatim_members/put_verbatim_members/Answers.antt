use Rattle.std.proofs.Common.{◌++◌, ap, ◌∙◌, arith}
use Rattle.std.proofs.lemmas.Result.{on_ok_weaker}
use Rattle.apply_text.specs.AppliedStep.{diag_view}
use Rattle.apply_text.proofs.CachedTexts.{appended}
use Rattle.apply_text_terraform.proofs.NotesAdded.{kept_put}
use Rattle.apply_text_terraform.proofs.verbatim_members.put_verbatim_members.Goals as goal

pub returns : goal.returns
returns c =
    kept_put c.extend_from_slice.result c.args.line.now.items c.truncate.new.self.items c.push_member.new.line.items c.push_member-2.new.line.items c.extend_from_slice.new.self.items c.saturating_sub.result (diag_view c.args.diag)
    (omega arith) c.truncate.ensures.items c.in_ok-push_member.ensures c.in_ok-push_member-2.ensures
    (on_ok_weaker c.extend_from_slice.result (λ e. e ∙ ap (λ end. c.push_member-2.new.line.items ++ end) c.as_bytes.ensures.value)
    (appended c.extend_from_slice.result c.push_member-2.new.line.items c.extend_from_slice.new.self.items c.as_bytes.result.now c.extend_from_slice.ensures.items))
