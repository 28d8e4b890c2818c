use Rattle.std.proofs.Common.{◌≡◌, Option, None, sym, ap, ◌∙◌, ⊎_elim}
use Rattle.std.specs.Option.{option_or}
use Rattle.apply_model.specs.declared.script.diag.Diag.{Diag}
use Rattle.apply_model.specs.Script.Outcome.{diag_of_ending, first_diag}
use Rattle.apply_model.proofs.script.outcome.Outcome.failure.Goals as goal

-- a provider that succeeds, or only warns, states no error
pub returns-in-Done : goal.returns-in-Done
returns-in-Done c =
    let none : diag_of_ending c.args.self.now.result ≡ None = ⊎_elim (λ done. ap diag_of_ending done.2) (λ warned. ap diag_of_ending warned.1) c.in-Done.is in
    c.first_failure.ensures ∙ ap (λ (stated : Option Diag). option_or stated (first_diag c.args.self.now.provisioners)) (sym none)
