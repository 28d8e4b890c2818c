use Rattle.std.proofs.Common.{◌≡◌, ◌∙◌, ap, refl, sym, Err}
use Rattle.stream_check.specs.declared.messages.timed_stage.TimedStage.TheVariants.{Progress}
use Rattle.stream_check.specs.Course.{after}
use Rattle.stream_check.specs.AddressState.{pending_at}
use Rattle.stream_check.proofs.Progress.{progress_faulty}
use Rattle.stream_check.proofs.rules.address_state.note_progress.Goals as goal

pub returns-in-Err : goal.returns-in-Err
returns-in-Err c =
    let e : after c.args.action (Progress c.args.seconds) c.args.line (pending_at c.args.action c.args.state.now) ≡ Err c.in-Err.fault =
    ap (after c.args.action (Progress c.args.seconds) c.args.line) (sym c.pending_of.ensures) ∙ sym c.after.ensures ∙ c.in-Err.is in
    record {
      stepped = sym (progress_faulty c.args.action c.args.seconds c.args.line c.args.state.now c.in-Err.fault e);
      «open» = tt;
      preserved = refl;
    }
