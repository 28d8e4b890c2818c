use Rattle.std.proofs.Common.{subst, sym}
use Rattle.std.specs.Prelude.{◌↔◌}
use Rattle.apply_cli.specs.Invocation.{reading_for}
use Rattle.apply_run.specs.FromBytes.{WasReportedBy, WasReportedOf}
use Rattle.apply_text_terraform.specs.declared.command.Command.{Command}
use Rattle.laws_command.proofs.saved.a_saved_plan_is_applied_in_its_form_alone.Goals as goal

pub returns : goal.returns
returns c = record {
  applied = λ form refresh parallelism schedule given start operation report before after. ((λ h. h), (λ h. h));
  refused = λ form refresh parallelism schedule given start operation refusal before after. ((λ h. h), (λ h. h));
  asked = λ invocation schedule given start operation report before after is.
      subst (λ (command : Command). WasReportedOf schedule (reading_for invocation.form command invocation.refresh invocation.parallelism) given start operation report before after
      ↔ WasReportedBy schedule invocation.form given start operation report before after) (sym is) ((λ h. h), (λ h. h));
}
