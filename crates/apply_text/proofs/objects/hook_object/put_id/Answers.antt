use Rattle.std.proofs.Common.{ap, sym}
use Rattle.std.specs.Option.{option_copied}
use Rattle.apply_text.specs.Sending.{id_tokens}
use Rattle.apply_text.proofs.Sending.{sends_same, then}
use Rattle.apply_text.proofs.objects.hook_object.put_id.Goals as goal

pub returns-in_ok-put_text-in-Some : goal.returns-in_ok-put_text-in-Some
returns-in_ok-put_text-in-Some c = sends_same (ap (λ id. id_tokens (option_copied id)) (sym c.in-Some.is)) (then _ _ c.in_ok-put_text-in-Some.ensures c.put_text-in-Some.ensures)
