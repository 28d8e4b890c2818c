use Rattle.std.proofs.Common.{◌∙◌, ℕ, List, Option, None, Some, ap, sym, subst, true≢false, arith}
use Rattle.std.specs.Io.KnownBytes.{Keeps}
use Rattle.std.specs.Option.{option_copied}
use Rattle.std.proofs.KnownBytes.{Keeps-refl}
use Rattle.apply_hooks.specs.Registry.{rules_of}
use Rattle.apply_run.specs.Run.{SinkState}
use Rattle.apply_cli.specs.Command.{sink_state}
use Rattle.apply_cli.proofs.ScriptFile.{ended_as_asked}
use Rattle.apply_cli.proofs.Statuses.{not_applied}
use Rattle.apply_cli.proofs.program.follow_invocation.Goals as goal

-- a hook was refused
pub returns-in_default : goal.returns-in_default
returns-in_default g c =
    let output : SinkState = sink_state g.W.Write.contents c.args.output in
    record {
      ended = not_applied (g.R.Read.remaining c.args.input) _ _ c.args.invocation.now.settings.halts.items output output _ _ c.report_hook.result c.report_hook.ensures.bad (Keeps-refl output.bytes);
      gone = λ no yes. absurd (true≢false (sym yes ∙ no));
    }

pub returns-in_default-new : goal.returns-in_default-new
returns-in_default-new g c =
    let output : SinkState = sink_state g.W.Write.contents c.args.output in
    record {
      ended = not_applied (g.R.Read.remaining c.args.input) _ _ c.args.invocation.now.settings.halts.items output output _ _ c.report_hook-in_default-new.result c.report_hook-in_default-new.ensures.bad (Keeps-refl output.bytes);
      gone = λ no yes. absurd (true≢false (sym yes ∙ no));
    }

pub returns-in-Err : goal.returns-in-Err
returns-in-Err g c =
    let output : SinkState = sink_state g.W.Write.contents c.args.output in
    record {
      ended = not_applied (g.R.Read.remaining c.args.input) _ _ c.args.invocation.now.settings.halts.items output output _ _ c.report_hook-in-Err.result c.report_hook-in-Err.ensures.bad (Keeps-refl output.bytes);
      gone = λ no yes. absurd (true≢false (sym yes ∙ no));
    }

-- or the script's file
pub returns-in-Err-script_of : goal.returns-in-Err-script_of
returns-in-Err-script_of g c =
    let output : SinkState = sink_state g.W.Write.contents c.args.output in
    record {
      ended = not_applied (g.R.Read.remaining c.args.input) _ _ c.args.invocation.now.settings.halts.items output output _ _ c.in-Err-script_of.status c.in-Err-script_of.ensures.err (Keeps-refl output.bytes);
      gone = λ no yes. absurd (true≢false (sym yes ∙ no));
    }

-- the run's own clauses, since nothing was reported before
pub returns-in-Some : goal.returns-in-Some
returns-in-Some g c =
    let silent = ap g.E.Write.contents (c.in-Ok-script_of.ensures.quiet ∙ c.loop-halt.invariant.1) in
    record {
      ended = ended_as_asked g.F.File.Read.remaining c.args.invocation.now (g.R.Read.remaining c.args.input) (option_copied c.as_deref-script.result) _ (rules_of c.loop-halt.registry) c.loop-halt.halt-index (Some c.in-Some.lanes)
          (sink_state g.W.Write.contents c.args.output) (sink_state g.W.Write.contents c.run_job_in_lanes.result.0) (g.E.Write.contents c.args.faults.now) _ (g.E.Write.contents c.run_job_in_lanes.new.faults)
          c.run_job_in_lanes.result.1 c.in-Ok-script_of.ensures.ok c.as_deref-script.ensures.value c.loop-halt.invariant.0 (omega (arith, c.loop-halt-test.false)) c.in-Some.is silent c.run_job_in_lanes.ensures.ended;
      gone = λ _ yes. subst (λ (faults : Option (List ℕ)). Keeps faults (g.E.Write.contents c.run_job_in_lanes.new.faults)) silent (c.run_job_in_lanes.ensures.gone yes);
    }

pub returns : goal.returns
returns g c =
    let silent = ap g.E.Write.contents (c.in-Ok-script_of.ensures.quiet ∙ c.loop-halt.invariant.1) in
    record {
      ended = ended_as_asked g.F.File.Read.remaining c.args.invocation.now (g.R.Read.remaining c.args.input) (option_copied c.as_deref-script.result) _ (rules_of c.loop-halt.registry) c.loop-halt.halt-index None
          (sink_state g.W.Write.contents c.args.output) (sink_state g.W.Write.contents c.run_job.result.0) (g.E.Write.contents c.args.faults.now) _ (g.E.Write.contents c.run_job.new.faults)
          c.run_job.result.1 c.in-Ok-script_of.ensures.ok c.as_deref-script.ensures.value c.loop-halt.invariant.0 (omega (arith, c.loop-halt-test.false)) c.in-None.is silent c.run_job.ensures.ended;
      gone = λ _ yes. subst (λ (faults : Option (List ℕ)). Keeps faults (g.E.Write.contents c.run_job.new.faults)) silent (c.run_job.ensures.gone yes);
    }
