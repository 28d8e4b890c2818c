use Rattle.std.proofs.Common.{◌≡◌, ℕ, List, ◌++◌, append-nil, sym, ap, ◌∙◌}
use Rattle.apply_model.specs.declared.details.output.Output.{Output}
use Rattle.apply_events.specs.declared.counts.Counts.{Counts}
use Rattle.apply_text.specs.declared.operation.Operation.{Operation}
use Rattle.apply_text.specs.declared.operation.Operation.TheVariants.{Destroy}
use Rattle.apply_text_terraform.specs.Lines.{summary_text}
use Rattle.apply_writer.specs.Stream.Terraform.{outputs_of_apply}
use Rattle.apply_writer.proofs.forms.terraform_lines.TerraformLines.push_totals.Goals as goal

-- no outputs follow the summary of a destroy
no_outputs : (start latest : ℕ) (operation : Operation) (counts : Counts) (imported imports : ℕ) (outputs : List Output) (old new : List ℕ) → operation ≡ Destroy → imported ≡ imports
    → new ≡ old ++ summary_text start latest operation counts imported
    → new ≡ old ++ (summary_text start latest operation counts imports ++ outputs_of_apply operation start latest outputs)
no_outputs start latest operation counts imported imports outputs old new is same grown =
    let summary = summary_text start latest operation counts imports in
    grown ∙ ap (λ n. old ++ summary_text start latest operation counts n) same
    ∙ ap (λ text. old ++ text) (sym (append-nil summary) ∙ ap (λ more. summary ++ more) (sym (ap (λ o. outputs_of_apply o start latest outputs) is)))

pub returns-in-Destroy-clause-ok : goal.returns-in-Destroy-clause-ok
returns-in-Destroy-clause-ok c =
    let s = c.args.self.now in
    no_outputs s.start c.args.latest s.operation c.args.counts.now _ _ s.extras.outputs.now s.buffer _ c.in-Destroy.is c.imported-imported.ensures c.in_ok-push_summary.ensures.ok
