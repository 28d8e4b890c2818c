use Rattle.std.proofs.Common.{◌∙◌, append_assoc}
use Rattle.std.proofs.lemmas.Result.{on_ok_weaker}
use Rattle.apply_text.proofs.Texts.{cleared}
use Rattle.apply_text.proofs.messages.write_totals.Goals as goal

pub returns-in-Apply : goal.returns-in-Apply
returns-in-Apply c = rw c.in-Apply.is (on_ok_weaker c.write.result (λ e. cleared _ _ _ c.clear.ensures.bytes e ∙ simp append_assoc) c.write.ensures.bytes)

pub returns-in-Destroy : goal.returns-in-Destroy
returns-in-Destroy c = rw c.in-Destroy.is (on_ok_weaker c.write-in-Destroy.result (λ e. cleared _ _ _ c.clear.ensures.bytes e ∙ simp append_assoc) c.write-in-Destroy.ensures.bytes)
