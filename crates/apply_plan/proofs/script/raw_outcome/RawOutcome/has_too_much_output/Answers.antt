use Rattle.std.proofs.Common.{sym, ◌∙◌}
use Rattle.apply_model.specs.Script.Outcome.{puts_out_too_much}
use Rattle.apply_plan.specs.Script.RawView.{provisioner_view}
use Rattle.apply_plan.proofs.Scripts.Refusals.{list_any-map}
use Rattle.apply_plan.proofs.script.raw_outcome.RawOutcome.has_too_much_output.Goals as goal

pub returns : goal.returns
returns c = rw (← c.deref.ensures.value) (c.puts_any_out_too_much.ensures ∙ sym (list_any-map puts_out_too_much provisioner_view c.deref.result.now))
