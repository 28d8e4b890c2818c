use Rattle.std.proofs.Common.{◌∙◌}
use Rattle.std.proofs.lemmas.Result.{on_ok_weaker}
use Rattle.apply_text.proofs.Texts.{cleared, complete_text, provision_complete_text, provision_errored_text}
use Rattle.apply_text.proofs.messages.write_event_text.Goals as goal

pub returns-in-Complete : goal.returns-in-Complete
returns-in-Complete c = rw c.in-Complete.is (on_ok_weaker c.write-in-Complete.result (λ e. cleared _ _ _ c.clear.ensures.bytes e ∙ complete_text c.args.step.change.now c.args.step.kind c.in-Complete.seconds _ _ _ _ c.address-address.ensures c.new-in-Complete.ensures.noun c.end_id.ensures) c.write-in-Complete.ensures.bytes)

pub returns-in-ProvisionComplete : goal.returns-in-ProvisionComplete
returns-in-ProvisionComplete c = rw c.in-ProvisionComplete.is (on_ok_weaker c.write-in-ProvisionComplete.result (λ e. cleared _ _ _ c.clear.ensures.bytes e ∙ provision_complete_text c.args.step.change.now _ _ _ c.address-address.ensures c.provisioner_name-name-in-ProvisionComplete.ensures) c.write-in-ProvisionComplete.ensures.bytes)

pub returns-in-ProvisionErrored : goal.returns-in-ProvisionErrored
returns-in-ProvisionErrored c = rw c.in-ProvisionErrored.is (on_ok_weaker c.write-in-ProvisionErrored.result (λ e. cleared _ _ _ c.clear.ensures.bytes e ∙ provision_errored_text c.args.step.change.now _ _ _ c.address-address.ensures c.provisioner_name-name-in-ProvisionErrored.ensures) c.write-in-ProvisionErrored.ensures.bytes)
