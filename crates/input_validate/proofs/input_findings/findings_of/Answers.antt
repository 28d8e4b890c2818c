use Rattle.std.proofs.Common.{◌≡◌, ◌||◌, Bool, List, ap, ◌∙◌}
use Rattle.std.specs.List.{list_any}
use Rattle.std.specs.Option.{option_copied}
use Rattle.input_validate.specs.declared.findings.finding.Finding.{Finding}
use Rattle.input_validate.specs.Findings.{is_refusal, reported}
use Rattle.input_validate.specs.InForm.{doubts_unless, extras_for, findings_before_doubts, is_refused}
use Rattle.input_validate.specs.Whole.{plan_findings}
use Rattle.input_validate.proofs.Collected.{refuses_is}
use Rattle.input_validate.proofs.input_findings.findings_of.Goals as goal

pub returns-clause-script : goal.returns-clause-script
returns-clause-script c =
    let form = c.args.form in
    let lanes = c.args.lanes in
    let plan = c.args.plan.now in
    let script = option_copied c.args.script in
    let before : List Finding = findings_before_doubts form lanes plan script in
    let all_is : c.in_ok-all.all ≡ reported before =
    c.in_ok-all.ensures _ _ c.in_ok-of_script.ensures
    (c.in_ok-extras.ensures
    ∙ ap (λ (refused : Bool). reported (extras_for form refused plan script))
    (c.refuses.ensures ∙ refuses_is c.in_ok-of_plan.of_plan (plan_findings plan) c.in_ok-of_plan.ensures)) in
    let refused : c.is_either-is_refused.result ≡ is_refused form lanes plan script =
    c.is_either-is_refused.ensures
    ∙ ap (λ (b : Bool). b || c.refuses-3.result) (c.refuses-2.ensures ∙ refuses_is c.in_ok-of_plan.of_plan (plan_findings plan) c.in_ok-of_plan.ensures)
    ∙ ap (λ (b : Bool). list_any is_refusal (plan_findings plan) || b) (c.refuses-3.ensures ∙ refuses_is c.in_ok-all.all before all_is) in
    c.in_ok-then.ensures before _ all_is
    (c.in_ok-doubts.ensures ∙ ap (λ (b : Bool). reported (doubts_unless b form lanes plan script)) refused)
