use Rattle.std.proofs.Common.{inl, inr, refl}
use Rattle.apply_run.specs.ReadStated.{stated_view}
use Rattle.apply_run.proofs.Sizes.{plan_within}
use Rattle.apply_command.proofs.reading.read_command.Goals as goal

pub returns-in_default-clause-err : goal.returns-in_default-clause-err
returns-in_default-clause-err c = λ hooks. inl (refl, plan_within c.args.plan.now c.in_ok-stated.stated.read.plan c.in_ok-stated.ensures.ok.plan_is)

pub returns-then-is_memory-clause-err : goal.returns-then-is_memory-clause-err
returns-then-is_memory-clause-err c = λ hooks. inl (refl, plan_within c.args.plan.now c.in_ok-stated.stated.read.plan c.in_ok-stated.ensures.ok.plan_is)

pub returns-in-Ok-told-clause-ok : goal.returns-in-Ok-told-clause-ok
returns-in-Ok-told-clause-ok c = λ hooks. record {
  stated = c.in_ok-stated.ensures.ok;
  prior = c.in-Ok.prior;
  prior_is = c.in-Ok.ensures.ok;
  drifts_are = refl;
  outputs_are = refl;
  told_are = rw (c.rules_of-rules.ensures, c.deref.ensures.value, c.deref-2.ensures.value) at c.in-Ok-told.ensures;
}

pub returns-else-is_memory-clause-err : goal.returns-else-is_memory-clause-err
returns-else-is_memory-clause-err c = λ hooks. inr (record {
  stated = stated_view c.in_ok-stated.stated;
  stated_is = c.in_ok-stated.ensures.ok;
  prior = c.in-Ok.prior;
  prior_is = c.in-Ok.ensures.ok;
  refused = rw (c.rules_of-rules.ensures, c.deref.ensures.value, c.deref-2.ensures.value) at (c.in-Err.ensures (λ same. let e = c.is_memory.ensures.told same in absurd (cc)));
})
