use Rattle.std.proofs.Common.{codes, Some, refl, ap, ◌∙◌}
use Rattle.apply_text.specs.AppliedStep.{diag_view}
use Rattle.apply_text.specs.Message.{halted_with}
use Rattle.apply_text.specs.Sending.{member_tokens}
use Rattle.apply_text.proofs.Sending.{sends_same}
use Rattle.apply_text.proofs.Texts.{cleared, halt_text}
use Rattle.apply_text_terraform.specs.Objects.{diagnostic_object}
use Rattle.apply_text_terraform.proofs.Events.{same_diagnostic}
use Rattle.apply_text_terraform.proofs.messages.put_body.Goals as goal

pub returns-in-ErrorNote : goal.returns-in-ErrorNote
returns-in-ErrorNote c = rw c.in-ErrorNote.is (sends_same (same_diagnostic _ _ _ _ _ _ c.address_of.ensures refl c.failure.ensures) c.put_diagnostic.ensures)

pub returns-in_ok-write-in-Halted : goal.returns-in_ok-write-in-Halted
returns-in_ok-write-in-Halted c =
    let step = c.args.step in
    let written = cleared _ _ _ c.clear.ensures.bytes c.in_ok-write-in-Halted.ensures.bytes in
    let detail = c.as_str.ensures.value ∙ written ∙ halt_text step.kind c.in-Halted.phase c.in-Halted.hook _ _ c.phase_words-words.ensures c.new.ensures.action in
    let halt = c.of_halt-halt.ensures ∙ ap halted_with detail in
    rw c.in-Halted.is (sends_same (ap (λ a. member_tokens (codes "diagnostic") (diagnostic_object (Some a) (codes "error") (diag_view c.of_halt-halt.result))) c.address.ensures
    ∙ ap (λ d. member_tokens (codes "diagnostic") (diagnostic_object (Some step.change.now.address) (codes "error") d)) halt) c.put_diagnostic-in-Halted.ensures)
