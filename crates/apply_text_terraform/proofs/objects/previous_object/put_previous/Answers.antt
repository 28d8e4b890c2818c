use Rattle.apply_text.proofs.Sending.{one, then, then_one, then_text}
use Rattle.apply_text_terraform.specs.Objects.{previous_object}
use Rattle.apply_text_terraform.proofs.objects.previous_object.put_previous.Goals as goal

pub returns : goal.returns
unfolding previous_object
returns c =
    then_one _ _ c.in_ok-key.ensures
    (then_one _ _ c.in_ok-begin_object.ensures
    (then_text _ _ _ _ c.as_str.ensures c.in_ok-put_text.ensures
    (then_text _ _ _ _ c.as_str-2.ensures c.in_ok-put_text-2.ensures
    (then_text _ _ _ _ c.as_str-3.ensures c.in_ok-put_text-3.ensures
    (then_text _ _ _ _ c.provider.ensures c.in_ok-put_text-4.ensures
    (then_text _ _ _ _ c.as_str-4.ensures c.in_ok-put_text-5.ensures
    (then_text _ _ _ _ c.as_str-5.ensures c.in_ok-put_text-6.ensures
    (then_one _ _ c.in_ok-key-2.ensures
    (then _ _ c.in_ok-put_key.ensures
    (one c.end_object.ensures))))))))))
