use Rattle.std.proofs.Common.{ap, ap₂, map, ◌∙◌}
use Rattle.apply_model.specs.declared.script.ending.Ending.{Ending}
use Rattle.apply_model.specs.declared.script.outcome.Outcome.{Outcome}
use Rattle.apply_model.specs.declared.script.provisioners.Provisioners.{Provisioners}
use Rattle.apply_plan.specs.Script.RawView.{provisioner_view}
use Rattle.apply_plan.proofs.Scripts.ValidItems.{made}
use Rattle.apply_plan.proofs.script.raw_outcome.RawOutcome.copied.Goals as goal

pub returns-in-Ok : goal.returns-in-Ok
returns-in-Ok c =
    let both = c.in-Ok.ensures in
    let outcome : Provisioners → Ending → Outcome = λ provisioners result. record { seconds = c.args.self.now.seconds; provisioners = provisioners; result = result; after = c.args.after } in
    ap₂ outcome
    (made _ c.copied_provisioners-provisioners.result c.in-Ok.provisioners both.0 c.copied_provisioners-provisioners.ensures ∙ ap (map provisioner_view) c.deref.ensures.value)
    (made _ c.copied.result c.in-Ok.result both.1 c.copied.ensures)
