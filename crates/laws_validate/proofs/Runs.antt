-- There is an error if and only if a run refuses.
use Rattle.std.proofs.Common.{◌≡◌, ℕ, List, [], ◌∷◌, ◌++◌, Bool, true, false, cond, not, ◌&&◌, ◌||◌, is_err, is_ok, Option, Some, None, Result, Ok, Err, refl, ap, ◌∙◌}
use Rattle.std.proofs.lemmas.List.Folds.{list_any-append}
use Rattle.apply_model.specs.Plan.ResourceChange.{ResourceChange}
use Rattle.apply_model.specs.Plan.SavedPlan.{SavedPlan}
use Rattle.apply_model.specs.Script.OutcomeMap.{OutcomeMap}
use Rattle.apply_model.specs.Script.Waits.{has_waits}
use Rattle.apply_plan.specs.declared.plan.plan_error.PlanError.{PlanError}
use Rattle.apply_plan.specs.declared.script.script_error.ScriptError.{ScriptError}
use Rattle.apply_plan.specs.Plan.SavedPlan.{plan_of}
use Rattle.apply_plan.specs.Script.NeverBeginning.{never_beginning_of}
use Rattle.apply_plan.specs.Script.OutcomeMap.{script_of}
use Rattle.input_validate.specs.declared.findings.finding.Finding.{Finding}
use Rattle.input_validate.specs.declared.findings.problem.Problem.{Problem}
use Rattle.input_validate.specs.declared.findings.problem.Problem.TheVariants.{ForPlan}
use Rattle.input_validate.specs.Findings.{is_refusal, is_refusal_of}
use Rattle.laws_validate.specs.Laws.{has_refusal, refuses_given, refuses_read, run_refuses}
use Rattle.input_validate.specs.Whole.{after_first, refusals_against_plan, entry_of_refusal, given_findings, placed, plan_findings, refusals_of, refused_for, script_findings, stuck_entries, waits_without_lanes}
use Rattle.laws_validate.proofs.Plans.{refusals_of_plan}
use Rattle.laws_validate.proofs.Refused.{accepted_script}

placed_refuses : (n : Option ℕ) (problem : Problem) → is_refusal_of problem ≡ true → has_refusal (placed n problem) ≡ true
placed_refuses None problem is = rw is refl
placed_refuses (Some n) problem is = rw is refl

by_waits : (b : Bool) (x : Finding) → is_refusal x ≡ true → has_refusal (cond b (x ∷ []) []) ≡ b
by_waits true x is = rw is refl
by_waits false x is = refl

-- after one error, further findings change nothing
refused_first : (xs ys zs : List Finding) → has_refusal xs ≡ true → has_refusal (xs ++ ys ++ zs) ≡ true
refused_first xs ys zs is =
    list_any-append is_refusal (xs ++ ys) zs
    ∙ ap (λ (b : Bool). b || has_refusal zs) (list_any-append is_refusal xs ys ∙ ap (λ (b : Bool). b || has_refusal ys) is)

refusals_are : (lanes : Bool) (changes : List ResourceChange) (bytes : List ℕ) (q : Result OutcomeMap ScriptError) (stuck : Result (List ℕ) ScriptError)
    → has_refusal (refusals_of lanes changes bytes q stuck) ≡ refuses_read lanes q
refusals_are lanes changes bytes (Ok script) stuck = by_waits (not lanes && has_waits script) _ refl
refusals_are lanes changes bytes (Err refusal) stuck =
    refused_first (refused_for refusal) (stuck_entries (after_first stuck)) (waits_without_lanes lanes (Some changes) bytes)
    (placed_refuses (entry_of_refusal refusal) (ForPlan refusal) refl)

-- a script that has an error without a plan is refused
own_refused : (lanes : Bool) (changes : List ResourceChange) (bytes : List ℕ) (q : Result OutcomeMap ScriptError) (stuck : Result (List ℕ) ScriptError) (own : Bool)
    → (is_ok q ≡ true → own ≡ false)
    → (own || has_refusal (cond own (waits_without_lanes lanes (Some changes) bytes) (refusals_of lanes changes bytes q stuck))) ≡ refuses_read lanes q
own_refused lanes changes bytes q stuck false accepted = refusals_are lanes changes bytes q stuck
own_refused lanes changes bytes (Ok script) stuck true accepted = absurd (let e : true ≡ false = accepted refl in cc)
own_refused lanes changes bytes (Err refusal) stuck true accepted = refl

of_script : (lanes : Bool) (plan : SavedPlan) (bytes : List ℕ)
    → has_refusal (script_findings (Some plan.changes) bytes ++ refusals_against_plan lanes plan bytes) ≡ refuses_read lanes (script_of plan bytes)
of_script lanes plan bytes =
    list_any-append is_refusal (script_findings (Some plan.changes) bytes) (refusals_against_plan lanes plan bytes)
    ∙ own_refused lanes plan.changes bytes (script_of plan bytes) (never_beginning_of plan bytes)
    (has_refusal (script_findings (Some plan.changes) bytes)) (accepted_script plan bytes)

of_given : (lanes : Bool) (r : Result SavedPlan PlanError) (script : Option (List ℕ))
    → (is_err r || has_refusal (given_findings lanes r script)) ≡ refuses_given lanes r script
of_given lanes (Err refusal) script = refl
of_given lanes (Ok plan) None = refl
of_given lanes (Ok plan) (Some bytes) = of_script lanes plan bytes

pub refusals_of_run : (lanes : Bool) (plan : List ℕ) (script : Option (List ℕ))
    → (has_refusal (plan_findings plan) || has_refusal (given_findings lanes (plan_of plan) script)) ≡ run_refuses lanes plan script
refusals_of_run lanes plan script =
    ap (λ (b : Bool). b || has_refusal (given_findings lanes (plan_of plan) script)) (refusals_of_plan plan) ∙ of_given lanes (plan_of plan) script

-- if a script alone has no error: warnings, then a run's refusal, then further entries and waits
pub refusal_among : (lanes : Bool) (plan : SavedPlan) (bytes : List ℕ) (refusal : ScriptError) → has_refusal (script_findings (Some plan.changes) bytes) ≡ false
    → script_of plan bytes ≡ Err refusal → given_findings lanes (Ok plan) (Some bytes)
    ≡ script_findings (Some plan.changes) bytes
    ++ (refused_for refusal ++ stuck_entries (after_first (never_beginning_of plan bytes)) ++ waits_without_lanes lanes (Some plan.changes) bytes)
refusal_among lanes plan bytes refusal none is =
    ap (λ (xs : List Finding). script_findings (Some plan.changes) bytes ++ xs)
    (rw none (ap (λ (q : Result OutcomeMap ScriptError). refusals_of lanes plan.changes bytes q (never_beginning_of plan bytes)) is))
