use Rattle.std.proofs.Common.{◌≡◌, Bool, ◌∙◌, ap, refl, sym, true, false, Ok, Err, Result}
use Rattle.std.specs.Prelude.{◌&&◌}
use Rattle.stream_check.specs.declared.rules.fault.Fault.{Fault}
use Rattle.stream_check.specs.declared.rules.tally.Tally.{Tally}
use Rattle.stream_check.specs.declared.verdict.whole.Whole.{Whole}
use Rattle.stream_check.specs.Lines.{whole_with}
use Rattle.stream_check.specs.Open.{any_open}
use Rattle.stream_check.specs.Tallied.{has_nothing_begun}
use Rattle.stream_check.proofs.Held.{ends_as_plan, ends_badly, ends_open, ends_planned, ends_well}
use Rattle.stream_check.proofs.rules.checker.Checker.end.Goals as goal

abbrev done : Whole → Result Whole Fault
done whole = Ok whole

abbrev faulty : Fault → Result Whole Fault
faulty fault = Err fault

and_left : (a b : Bool) → (a && b) ≡ true → (a ≡ true) × (b ≡ true)
and_left true b e = (refl, e)
and_left false b e = absurd cc

pub returns-then-is_open : goal.returns-then-is_open
returns-then-is_open c = λ messages read. sym (ends_open c.args.mode messages (sym (c.is_open.ensures messages read) ∙ c.if-is_open.true))

pub returns-then-ends_as_plan : goal.returns-then-ends_as_plan
returns-then-ends_as_plan c = λ messages read.
    let closed : any_open messages ≡ false = sym (c.is_open.ensures messages read) ∙ c.if-is_open.false in
    let both = and_left c.args.mode.plan (has_nothing_begun c.args.self.now.tally) (sym c.ends_as_plan.ensures ∙ c.if-ends_as_plan.true) in
    ap done (c.whole.ensures messages read ∙ ap (λ (t : Tally). whole_with c.args.mode true t.planned messages) read.tally)
    ∙ sym (ends_as_plan c.args.mode c.args.self.now messages read closed both.0 both.1)

pub returns-then-leaves_planned : goal.returns-then-leaves_planned
returns-then-leaves_planned c = λ messages read.
    let closed : any_open messages ≡ false = sym (c.is_open.ensures messages read) ∙ c.if-is_open.false in
    sym (ends_planned c.args.mode c.args.self.now messages read closed (sym c.ends_as_plan.ensures ∙ c.if-ends_as_plan.false) (sym (c.leaves_planned.ensures messages read) ∙ c.if-leaves_planned.true))

pub returns-then-ends_as_apply : goal.returns-then-ends_as_apply
returns-then-ends_as_apply c = λ messages read.
    let closed : any_open messages ≡ false = sym (c.is_open.ensures messages read) ∙ c.if-is_open.false in
    ap done (c.whole-then-ends_as_apply.ensures messages read ∙ ap (λ (t : Tally). whole_with c.args.mode false t.completed messages) read.tally)
    ∙ sym (ends_well c.args.mode c.args.self.now messages read closed (sym c.ends_as_plan.ensures ∙ c.if-ends_as_plan.false) (sym (c.leaves_planned.ensures messages read) ∙ c.if-leaves_planned.false) (sym c.ends_as_apply.ensures ∙ c.if-ends_as_apply.true))

pub returns : goal.returns
returns c = λ messages read.
    let closed : any_open messages ≡ false = sym (c.is_open.ensures messages read) ∙ c.if-is_open.false in
    ap faulty c.why_no_end.ensures
    ∙ sym (ends_badly c.args.mode c.args.self.now messages read closed (sym c.ends_as_plan.ensures ∙ c.if-ends_as_plan.false) (sym (c.leaves_planned.ensures messages read) ∙ c.if-leaves_planned.false) (sym c.ends_as_apply.ensures ∙ c.if-ends_as_apply.false))
