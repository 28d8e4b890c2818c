use Rattle.std.proofs.Common.{inl, refl}
use Rattle.std.specs.Option.{option_copied}
use Rattle.apply_run.specs.ReadStated.{stated_view}
use Rattle.apply_run.proofs.FromBytes.{plain_read, terraform_read, terraform_unread}
use Rattle.apply_run.proofs.Sizes.{plan_within}
use Rattle.apply_run.proofs.read_inputs.read_inputs.Goals as goal

pub returns-in_ok-read-in-Applystream-clause-ok : goal.returns-in_ok-read-in-Applystream-clause-ok
returns-in_ok-read-in-Applystream-clause-ok c hooks =
    let read = c.in_ok-read-in-Applystream.ensures in
    plain_read c.args.form (record { plan = c.args.plan.now; script = option_copied c.args.script; hooks = hooks })
    (record { plan = c.in_ok-read-in-Applystream.read.plan; script = c.in_ok-read-in-Applystream.read.script }) c.without_extras.result c.in-Applystream.is
    (record { plan_is = read.plan; script_is = read.script }) c.without_extras.ensures

pub returns-in-Ok-clause-ok : goal.returns-in-Ok-clause-ok
returns-in-Ok-clause-ok c hooks =
    let stated = c.in_ok-stated-in-Terraform in
    terraform_read c.args.form (record { plan = c.args.plan.now; script = option_copied c.args.script; hooks = hooks })
    (stated_view stated.stated) c.in-Ok.read c.in-Terraform.is stated.ensures.ok c.in-Ok.ensures

pub returns-in-Err-clause-err : goal.returns-in-Err-clause-err
returns-in-Err-clause-err c hooks =
    let stated = c.in_ok-stated-in-Terraform in
    terraform_unread c.args.form _ _ c.in-Terraform.is
    (inl (refl, plan_within c.args.plan.now stated.stated.read.plan stated.ensures.ok.plan_is))
