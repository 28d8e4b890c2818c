use Rattle.std.proofs.Common.{◌≡◌, ◌∙◌, ℕ, List, true, false, subst}
use Rattle.stream_check.specs.Objects.{with_text}
use Rattle.stream_check.specs.Putting.{Puts}
use Rattle.stream_check.proofs.command.members.Members.readable.Goals as goal

pub returns-in-Ok : goal.returns-in-Ok
returns-in-Ok c =
    subst (λ (text : List ℕ). Puts c.args.self.now c.text.new.self (with_text c.args.name.now text)) (c.as_str.ensures.value ∙ c.in-Ok.ensures) c.text.ensures

refused : {R : Type 0} → false ≡ true → R
refused same = absurd cc

pub returns-in-Err : goal.returns-in-Err
returns-in-Err c = refused
