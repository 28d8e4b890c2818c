use Rattle.std.proofs.Common.{ap}
use Rattle.apply_text.specs.Objects.{key_data, resource_object}
use Rattle.apply_text.specs.Sending.{data_tokens}
use Rattle.apply_text.proofs.Sending.{one, then_one, then_sends_same, then_text}
use Rattle.apply_text.proofs.objects.resource_object.put_resource.Goals as goal

pub returns : goal.returns
unfolding resource_object
returns c =
    then_one _ _ c.in_ok-key.ensures
    (then_one _ _ c.in_ok-begin_object.ensures
    (then_text _ _ _ _ c.address.ensures c.in_ok-put_text.ensures
    (then_text _ _ _ _ c.provider.ensures c.in_ok-put_text-2.ensures
    (then_text _ _ _ _ c.module.ensures c.in_ok-put_text-3.ensures
    (then_text _ _ _ _ c.resource.ensures c.in_ok-put_text-4.ensures
    (then_one _ _ c.in_ok-key-2.ensures
    (then_sends_same _ _ _ (ap (λ k. data_tokens (key_data k)) c.key-3.ensures) c.in_ok-put_key.ensures
    (then_text _ _ _ _ c.name.ensures c.in_ok-put_text-5.ensures
    (then_text _ _ _ _ c.kind_name.ensures c.in_ok-put_text-6.ensures
    (one c.end_object.ensures))))))))))
