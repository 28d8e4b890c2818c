use Rattle.apply_text.specs.Objects.{diagnostic_object}
use Rattle.apply_text.proofs.Sending.{one, then, then_one}
use Rattle.apply_text.proofs.objects.diagnostic_object.put_diagnostic.Goals as goal

pub returns : goal.returns
unfolding diagnostic_object
returns c =
    then_one _ _ c.in_ok-key.ensures
    (then_one _ _ c.in_ok-begin_object.ensures
    (then _ _ c.in_ok-put_text.ensures
    (then _ _ c.in_ok-put_text-2.ensures
    (then _ _ c.in_ok-put_text-3.ensures
    (then _ _ c.in_ok-put_text-4.ensures
    (one c.end_object.ensures))))))
