use Rattle.apply_text.proofs.Sending.{one, then, then_one, then_text}
use Rattle.apply_text_terraform.specs.Objects.{changes_object}
use Rattle.apply_text_terraform.proofs.objects.changes_object.put_changes.Goals as goal

pub returns : goal.returns
unfolding changes_object
returns c =
    then_one _ _ c.in_ok-key.ensures
    (then_one _ _ c.in_ok-begin_object.ensures
    (then _ _ c.in_ok-put_number.ensures
    (then _ _ c.in_ok-put_number-2.ensures
    (then _ _ c.in_ok-put_number-3.ensures
    (then _ _ c.in_ok-put_number-4.ensures
    (then_text _ _ _ _ c.word.ensures c.in_ok-put_text.ensures
    (one c.end_object.ensures)))))))
