use Rattle.apply_plan.specs.declared.script.script_error.ScriptError.TheVariants.{Memory}
use Rattle.apply_plan.proofs.Results.{gives_refusal}
use Rattle.apply_plan.proofs.Scripts.NeverBeginning.{script_read, script_refused}
use Rattle.apply_plan.proofs.script.reading.read_script.Goals as goal

pub returns-in_err-read_entries-clause-defined : goal.returns-in_err-read_entries-clause-defined
returns-in_err-read_entries-clause-defined c =
    let refusal = c.in_err-read_entries.field-0.0 in
    gives_refusal Memory _ c.from_residual.result refusal _ c.from_residual.ensures.1 (λ known. script_refused c.args.plan.now c.args.bytes.now refusal (c.in_err-read_entries.ensures.err known))

pub returns-clause-defined : goal.returns-clause-defined
returns-clause-defined c =
    let ok = c.in_ok-read_entries.ensures.ok in
    rw (script_read c.args.plan.now c.args.bytes.now ok.1 ok.2) (rw ok.0 at (c.script.ensures ok.1 ok.3))
