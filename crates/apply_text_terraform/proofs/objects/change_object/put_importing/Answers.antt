use Rattle.std.proofs.Common.{codes, ap, sym}
use Rattle.std.specs.Option.{option_copied}
use Rattle.apply_text.proofs.Sending.{one, sends_same, then_one, then_sends_same}
use Rattle.apply_text_terraform.specs.Sending.{importing_tokens, text_tokens}
use Rattle.apply_text_terraform.proofs.objects.change_object.put_importing.Goals as goal

pub returns-in_ok-put_text_if-in-Some : goal.returns-in_ok-put_text_if-in-Some
returns-in_ok-put_text_if-in-Some c =
    sends_same (ap (λ i. importing_tokens (option_copied i)) (sym c.in-Some.is))
    (then_one _ _ c.in_ok-key-in-Some.ensures
    (then_one _ _ c.in_ok-begin_object-in-Some.ensures
    (then_sends_same _ _ _ (ap (text_tokens (codes "id")) c.id.ensures) c.in_ok-put_text_if-in-Some.ensures
    (one c.end_object.ensures))))
