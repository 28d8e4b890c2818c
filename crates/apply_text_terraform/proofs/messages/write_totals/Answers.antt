use Rattle.std.proofs.Common.{◌∙◌, append_assoc}
use Rattle.std.proofs.lemmas.Result.{on_ok_weaker}
use Rattle.apply_text.proofs.Texts.{cleared}
use Rattle.apply_text_terraform.proofs.Texts.{none_imported, some_imported}
use Rattle.apply_text_terraform.proofs.messages.write_totals.Goals as goal

pub returns-in-Apply : goal.returns-in-Apply
returns-in-Apply c = rw c.in-Apply.is (on_ok_weaker c.write.result (λ e. cleared _ _ _ c.clear.ensures.bytes e ∙ none_imported c.args.counts.now c.args.imported c.if-imported-eq0.true) c.write.ensures.bytes)

pub returns-in-Apply-2 : goal.returns-in-Apply-2
returns-in-Apply-2 c = rw c.in-Apply-2.is (on_ok_weaker c.write-in-Apply-2.result (λ e. cleared _ _ _ c.clear.ensures.bytes e ∙ some_imported c.args.counts.now c.args.imported c.if-imported-eq0.false) c.write-in-Apply-2.ensures.bytes)

pub returns-in-Destroy : goal.returns-in-Destroy
returns-in-Destroy c = rw c.in-Destroy.is (on_ok_weaker c.write-in-Destroy.result (λ e. cleared _ _ _ c.clear.ensures.bytes e ∙ simp append_assoc) c.write-in-Destroy.ensures.bytes)
