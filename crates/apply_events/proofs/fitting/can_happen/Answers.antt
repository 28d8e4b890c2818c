use Rattle.std.proofs.Common.{◌≡◌, ℕ, Bool, true, ◌&&◌, sym, ap, ◌∙◌}
use Rattle.std.specs.Prelude.{nat_lt}
use Rattle.apply_hooks.specs.declared.phase.Phase.{Phase}
use Rattle.apply_hooks.specs.Hooks.{max_hooks}
use Rattle.apply_model.specs.declared.plan.step_kind.StepKind.{StepKind}
use Rattle.apply_model.specs.declared.script.outcome.Outcome.{Outcome}
use Rattle.apply_model.specs.Script.Outcome.{fails}
use Rattle.apply_model.specs.Script.OutcomeMap.{outcome_of}
use Rattle.apply_events.specs.declared.what.What.{What}
use Rattle.apply_events.specs.declared.what.What.TheVariants.{Halted}
use Rattle.apply_events.specs.Fits.{can_happen, may_be_asked}
use Rattle.apply_events.proofs.fitting.can_happen.Goals as goal

-- where hooks are asked, each of those that there may be can halt
halt_happens : (kind : StepKind) (outcome : Outcome) (what : What) (phase : Phase) (hook : ℕ) (failed asked : Bool) → what ≡ Halted phase hook
    → failed ≡ fails outcome → asked ≡ may_be_asked failed phase → asked ≡ true → nat_lt hook max_hooks ≡ can_happen kind outcome what
halt_happens kind outcome what phase hook failed asked is same test allowed =
    sym (ap (can_happen kind outcome) is ∙ ap (λ b. b && nat_lt hook max_hooks) (sym (test ∙ ap (λ b. may_be_asked b phase) same) ∙ allowed))

pub returns-then-may_be_asked : goal.returns-then-may_be_asked
returns-then-may_be_asked c =
    halt_happens c.args.kind (outcome_of c.args.script.now c.args.event.now.change c.args.event.now.step) c.args.event.now.what c.in-Halted.phase c.in-Halted.hook c.new-seconds.result.fails c.may_be_asked.result
    c.in-Halted.is c.new-seconds.ensures.fails c.may_be_asked.ensures c.if-may_be_asked.true
