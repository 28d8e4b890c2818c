-- How long a step within the limits takes.
use Rattle.std.proofs.Common.{◌≡◌, ℕ, ◌+◌, ◌≤◌, Bool, true, false, not, ◌&&◌, List, [], ◌∷◌, Option, Some, None, cond, arith, ⊎_elim}
use Rattle.std.specs.Prelude.{IfSome}
use Rattle.std.specs.List.{list_any}
use Rattle.std.proofs.lemmas.Bool.{cases_Bool}
use Rattle.std.proofs.lemmas.List.Sums.{sum_by-cons}
use Rattle.apply_model.specs.declared.plan.step_kind.StepKind.{StepKind}
use Rattle.apply_model.specs.declared.plan.step_kind.StepKind.TheVariants.{Delete}
use Rattle.apply_model.specs.declared.script.outcome.Outcome.{Outcome}
use Rattle.apply_model.specs.declared.script.provisioner.Provisioner.{Provisioner}
use Rattle.apply_model.specs.Plan.StepKind.{is_kind}
use Rattle.apply_model.specs.Script.Limits.{max_seconds}
use Rattle.apply_model.specs.Script.Outcome.{IsBounded, makes_fail, ran, seconds_of_all, took}

ran_takes : (provisioners : List Provisioner) → seconds_of_all (ran provisioners) ≤ seconds_of_all provisioners
ran_takes [] = omega arith
ran_takes (p ∷ ps) =
    let f = λ (p : Provisioner). p.seconds in
    ⊎_elim
    (λ (yes : makes_fail p ≡ true). rw yes (omega (arith, sum_by-cons f p [], sum_by-cons f p ps)))
    (λ (no : makes_fail p ≡ false). rw no (omega (arith, sum_by-cons f p (ran ps), sum_by-cons f p ps, ran_takes ps)))
    (cases_Bool (makes_fail p))

-- wherever the provider takes its time, or where it takes none
takes : (first stopped : Bool) (own ran all : ℕ) → ran ≤ all → cond first 0 own + ran + cond (first && not stopped) own 0 ≤ own + all
takes true true own ran all less = omega arith
takes true false own ran all less = omega arith
takes false stopped own ran all less = omega arith

-- a step within the limits takes a day at most
pub in_time : (answer : Option Outcome) → IfSome answer IsBounded → IfSome answer (λ outcome. (kind : StepKind) → took kind outcome ≤ max_seconds)
in_time None bounded = tt
in_time (Some outcome) bounded = λ kind.
    let all = takes (is_kind Delete kind) (list_any makes_fail outcome.provisioners) outcome.seconds (seconds_of_all (ran outcome.provisioners)) (seconds_of_all outcome.provisioners) (ran_takes outcome.provisioners) in
    let short = bounded.short in omega arith
