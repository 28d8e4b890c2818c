use Rattle.std.proofs.Common.{◌∙◌}
use Rattle.std.proofs.lemmas.Result.{on_ok_weaker}
use Rattle.apply_text.proofs.Texts.{cleared, complete_text}
use Rattle.apply_text_terraform.proofs.messages.write_complete_text.Goals as goal

pub returns : goal.returns
returns c = on_ok_weaker c.write.result (λ e. cleared _ _ _ c.clear.ensures.bytes e ∙ complete_text c.args.step.change.now c.args.step.kind c.args.seconds _ _ _ _ c.address-address.ensures c.new.ensures.noun c.told_id.ensures) c.write.ensures.bytes
