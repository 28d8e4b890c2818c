use Rattle.std.proofs.Common.{◌≡◌, Bool, Some, ap, ◌∙◌, if◌then◌else◌}
use Rattle.apply_plan.specs.Script.NeverBeginning.{never_beginning_of}
use Rattle.apply_plan.specs.Script.OutcomeMap.{script_of}
use Rattle.input_validate.specs.Findings.{reported}
use Rattle.input_validate.specs.Whole.{refusals_against_plan, refusals_of, script_findings, waits_without_lanes}
use Rattle.input_validate.proofs.Collected.{refuses_is}
use Rattle.input_validate.proofs.input_findings.findings_against_plan.Goals as goal

pub returns : goal.returns
returns c =
    let plan = c.args.plan.now in
    let bytes = c.args.bytes.now in
    let refusals : c.in_ok-refusals.refusals ≡ reported (refusals_against_plan c.args.lanes plan bytes) =
    c.in_ok-refusals.ensures
    ∙ ap (λ (b : Bool). reported (if b then waits_without_lanes c.args.lanes (Some plan.changes) bytes else refusals_of c.args.lanes plan.changes bytes (script_of plan bytes) (never_beginning_of plan bytes)))
    (c.refuses.ensures ∙ refuses_is c.in_ok-findings.findings (script_findings (Some plan.changes) bytes) c.in_ok-findings.ensures) in
    c.in_ok-all.ensures _ _ c.in_ok-findings.ensures refusals
