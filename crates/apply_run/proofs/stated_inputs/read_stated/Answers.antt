use Rattle.std.proofs.Common.{inl, refl}
use Rattle.std.specs.Option.{option_copied}
use Rattle.apply_run.proofs.Sizes.{plan_within, script_within}
use Rattle.apply_run.proofs.stated_inputs.read_stated.Goals as goal

pub returns-in_default-clause-err : goal.returns-in_default-clause-err
returns-in_default-clause-err c = inl (refl, plan_within c.args.plan.now c.in_ok-read.read.plan c.in_ok-read.ensures.plan)

pub read_given_extras-requires : goal.read_given_extras-requires
read_given_extras-requires c = script_within c.in_ok-read.read.plan (option_copied c.args.script) c.in_ok-read.read.script c.in_ok-read.ensures.script
