-- From the bytes that were read to those of the input.
use Rattle.std.proofs.Common.{◌≡◌, ℕ, ◌+◌, ◌≤◌, inl, inr, ⊎_elim, List, take, Vec, Global, Option, IfSome, Result, Ok, Err, IfOk, IfErr, subst, sym, arith}
use Rattle.std.specs.Io.KnownBytes.{Keeps}
use Rattle.apply_plan.specs.Bytes.{max_bytes}
use Rattle.apply_hooks.specs.declared.rule.Rule.{Rule}
use Rattle.apply_run.specs.Bytes.{Inputs}
use Rattle.apply_run.specs.FromBytes.{Reading}
use Rattle.apply_run.specs.Run.{SinkState}
use Rattle.apply_cli_args.specs.declared.halt.Halt.{Halt}
use Rattle.apply_cli_args.specs.declared.settings.Settings.{Settings}
use Rattle.apply_cli.specs.Ended.{HasEnded, HasEndedOn}
use Rattle.apply_cli.specs.Invocation.{HasAppliedAsAsked, HasBegunAsAsked}
use Rattle.apply_cli.specs.Status.{input_status_of}
use Rattle.apply_cli.specs.Unmatched.{unmatched_of}
use Rattle.apply_cli.specs.declared.input_fault.InputFault.{InputFault}
use Rattle.apply_cli.specs.declared.input_fault.InputFault.TheVariants as input
use Rattle.apply_cli.proofs.Front.{whole}
use Rattle.apply_cli.proofs.Readings.{IsSound}
use Rattle.apply_cli.proofs.Reports.{reported_kept}

-- with 2 and 3 all is said if the output is as it was
pub not_applied : (known : Option (List ℕ)) (Applied Begun : List ℕ → Type 0) (halts : List Halt) (before after : SinkState) (faults faults' : Option (List ℕ)) (status : ℕ)
    → (2 ≤ status) × (status ≤ 3) → Keeps before.bytes after.bytes → HasEndedOn known Applied Begun halts before after faults faults' status
not_applied known Applied Begun halts before after faults faults' status bad unchanged = record {
  applied = λ good. absurd (omega (arith, bad.0, good));
  refused = λ _. unchanged;
  cut_off = λ _. inl unchanged;
  reported = λ good. absurd (omega (arith, bad.0, good));
  statuses = bad.1;
}

bad_input : (fault : InputFault) → (2 ≤ input_status_of fault) × (input_status_of fault ≤ 3)
bad_input input.Read = (omega arith, omega arith)
bad_input input.Memory = (omega arith, omega arith)

module _ (known script : Option (List ℕ)) (hooks : List (List Rule)) (settings : Settings) (parallelism : Option ℕ) (reading : Reading) (sound : IsSound reading) (before after : SinkState)
    (faults faults' faults'' : Option (List ℕ)) (status : ℕ) where
  abbrev given : List ℕ → Inputs
  given plan = record { plan = plan; script = script; hooks = hooks }

  -- what holds of bytes that were read and are a plan holds of the input. Nothing is reported after the run
  pub ended_on_input : (read : Result (Vec ℕ Global) InputFault) → IfOk read (λ bytes. IfSome known (λ all. bytes.items ≡ take (max_bytes + 1) all))
      → IfOk read (λ bytes. HasEnded (given bytes.items) settings parallelism reading before after faults faults' status)
      → IfErr read (λ fault. (status ≡ input_status_of fault) × Keeps before.bytes after.bytes) → Keeps faults' faults''
      → HasEndedOn known (λ plan. HasAppliedAsAsked (given plan) settings parallelism reading before after status)
      (λ plan. HasBegunAsAsked (given plan) settings parallelism reading before after) settings.halts.items before after faults faults'' status
  unfolding HasAppliedAsAsked HasBegunAsAsked
  ended_on_input (Ok bytes) front h unread kept =
      let all : (read : reading.Read) → reading.IsRead (given bytes.items) read → IfSome known (λ all. all ≡ bytes.items) =
      λ read is. let plan = sound.plan_read (given bytes.items) read is in whole known bytes.items plan.0 front plan.1 in
      record {
        applied = λ good. let done = h.applied good in (bytes.items, done, all done.applied.read done.applied.is_read);
        refused = h.unchanged;
        cut_off = λ bad. ⊎_elim
            (λ (unchanged : Keeps before.bytes after.bytes). inl unchanged)
            (λ (part : HasBegunAsAsked (given bytes.items) settings parallelism reading before after). inr (bytes.items, part, all part.read part.is_read))
            (h.cut_off bad);
        reported = λ good. let done = h.applied good in (
          bytes.items,
          reported_kept (unmatched_of bytes.items settings.halts.items) faults faults' faults'' (h.reported good) kept,
          all done.applied.read done.applied.is_read,
        );
        statuses = h.statuses;
      }
  ended_on_input (Err fault) front h unread kept =
      not_applied known (λ plan. HasAppliedAsAsked (given plan) settings parallelism reading before after status) (λ plan. HasBegunAsAsked (given plan) settings parallelism reading before after)
      settings.halts.items before after faults faults'' status (subst (λ n. (2 ≤ n) × (n ≤ 3)) (sym unread.0) (bad_input fault)) unread.1
