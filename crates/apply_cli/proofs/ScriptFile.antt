-- From the bytes that were read of a script's file to all of the file.
use Rattle.std.proofs.Common.{◌≡◌, ℕ, ◌+◌, ◌≤◌, inl, inr, ⊎_elim, List, length, take, Option, None, Some, IfSome, ap, ◌∙◌, refl, subst, sym, take_all}
use Rattle.std.specs.Io.KnownBytes.{Keeps}
use Rattle.apply_plan.specs.Bytes.{max_bytes}
use Rattle.apply_hooks.specs.declared.rule.Rule.{Rule}
use Rattle.apply_run.specs.Bytes.{Inputs}
use Rattle.apply_run.specs.FromBytes.{Reading}
use Rattle.apply_run.specs.Run.{SinkState}
use Rattle.apply_cli_args.specs.Halt.{hooks_of_halts}
use Rattle.apply_cli_args.specs.declared.invocation.Invocation.{Invocation}
use Rattle.apply_cli_args.specs.declared.settings.Settings.{Settings}
use Rattle.apply_cli.specs.Command.{AreOfName, IsFrontOfFile, OfFile, OfInput}
use Rattle.apply_cli.specs.Ended.{HasEndedOn}
use Rattle.apply_cli.specs.Invocation.{HasAppliedAsAsked, HasBegunAsAsked, WasFollowed, WasFollowedInPart, given_of, reading_for}
use Rattle.apply_cli.proofs.Front.{whole_by}
use Rattle.apply_cli.proofs.Readings.{IsSound, sound_for}

-- where a script was applied, or a part of it, there are not too many bytes
applied_fits : (given : Inputs) (bytes : List ℕ) (settings : Settings) (parallelism : Option ℕ) (reading : Reading) (sound : IsSound reading) (before after : SinkState) (status : ℕ)
    → given.script ≡ Some bytes → HasAppliedAsAsked given settings parallelism reading before after status → length bytes ≤ max_bytes
unfolding HasAppliedAsAsked
applied_fits given bytes settings parallelism reading sound before after status is h = sound.script_fits given bytes h.applied.read is h.applied.is_read

begun_fits : (given : Inputs) (bytes : List ℕ) (settings : Settings) (parallelism : Option ℕ) (reading : Reading) (sound : IsSound reading) (before after : SinkState)
    → given.script ≡ Some bytes → HasBegunAsAsked given settings parallelism reading before after → length bytes ≤ max_bytes
unfolding HasBegunAsAsked
begun_fits given bytes settings parallelism reading sound before after is h = sound.script_fits given bytes h.read is h.is_read

-- so nothing of the file was left
whole_file : (known : Option (List ℕ)) (bytes : List ℕ) → length bytes ≤ max_bytes
    → IfSome known (λ all. bytes ≡ take (max_bytes + 1) all) → IfSome known (λ all. all ≡ bytes)
whole_file None bytes short front = tt
whole_file (Some all) bytes short front = whole_by max_bytes all bytes front short

-- and what is so of the bytes that were read is so of the file
of_file : {File : Type 0} (remaining : File → Option (List ℕ)) (name script : Option (List ℕ)) (P : Option (List ℕ) → Type 0)
    → ((bytes : List ℕ) → P (Some bytes) → length bytes ≤ max_bytes)
    → AreOfName (IsFrontOfFile remaining) name script → P script → OfFile remaining name P
of_file remaining None None P fits are h = (None, h, tt)
of_file remaining None (Some bytes) P fits are h = absurd are
of_file remaining (Some name) None P fits are h = absurd are
of_file remaining (Some name) (Some bytes) P fits are h = (Some bytes, h, (are.0, whole_file (remaining are.0) bytes (fits bytes h) are.1))

-- a job of the invocation was done, with the script that was read and a hook for each halt: so the
-- invocation was followed
pub ended_as_asked : {File : Type 0} (remaining : File → Option (List ℕ)) (invocation : Invocation) (input script read : Option (List ℕ)) (hooks : List (List Rule)) (n : ℕ)
    (parallelism : Option ℕ) (before after : SinkState) (faults silent faults' : Option (List ℕ)) (status : ℕ)
    → AreOfName (IsFrontOfFile remaining) invocation.settings.script read → script ≡ read
    → hooks ≡ hooks_of_halts (take n invocation.settings.halts.items) → length invocation.settings.halts.items ≤ n → invocation.parallelism ≡ parallelism → silent ≡ faults
    → HasEndedOn input (λ plan. HasAppliedAsAsked (record { plan = plan; script = script; hooks = hooks }) invocation.settings parallelism (reading_for invocation.form invocation.command invocation.refresh parallelism) before after status)
    (λ plan. HasBegunAsAsked (record { plan = plan; script = script; hooks = hooks }) invocation.settings parallelism (reading_for invocation.form invocation.command invocation.refresh parallelism) before after)
    invocation.settings.halts.items before after silent faults' status
    → HasEndedOn input (WasFollowed remaining invocation before after status) (WasFollowedInPart remaining invocation before after)
    invocation.settings.halts.items before after faults faults' status
ended_as_asked remaining invocation input script read hooks n parallelism before after faults silent faults' status are script_is hooks_are all parallelism_is silent_is h =
    let settings = invocation.settings in
    let reading : Option ℕ → Reading = reading_for invocation.form invocation.command invocation.refresh in
    let sound = sound_for invocation.form invocation.command invocation.refresh invocation.parallelism in
    let done : List (List Rule) → Option ℕ → Option (List ℕ) → List ℕ → Type 0 =
    λ hooks lanes bytes plan. HasAppliedAsAsked (record { plan = plan; script = bytes; hooks = hooks }) settings lanes (reading lanes) before after status in
    let begun : List (List Rule) → Option ℕ → Option (List ℕ) → List ℕ → Type 0 =
    λ hooks lanes bytes plan. HasBegunAsAsked (record { plan = plan; script = bytes; hooks = hooks }) settings lanes (reading lanes) before after in
    let halts = hooks_of_halts settings.halts.items in let asked = invocation.parallelism in
    let ended : List (List Rule) → Option ℕ → Option (List ℕ) → Option (List ℕ) → Type 0 =
    λ hooks lanes bytes start. HasEndedOn input (done hooks lanes bytes) (begun hooks lanes bytes) settings.halts.items before after start faults' status in
    let ended : ended halts asked read faults =
    subst (ended halts asked read) silent_is (subst (λ bytes. ended halts asked bytes silent) script_is (subst (λ lanes. ended halts lanes script silent) (sym parallelism_is)
    (subst (λ hooks. ended hooks parallelism script silent) (hooks_are ∙ ap hooks_of_halts (take_all n settings.halts.items all)) h))) in
    record {
      applied = λ good. let run = ended.applied good in (
        run.0,
        of_file remaining settings.script read (λ bytes. done halts asked bytes run.0)
            (λ bytes whole. applied_fits (given_of settings run.0 (Some bytes)) bytes settings asked (reading asked) sound before after status refl whole) are run.1,
        run.2,
      );
      refused = ended.refused;
      cut_off = λ bad. ⊎_elim
          (λ (unchanged : Keeps before.bytes after.bytes). inl unchanged)
          (λ (run : OfInput input (begun halts asked read)). inr (
            run.0,
            of_file remaining settings.script read (λ bytes. begun halts asked bytes run.0)
                (λ bytes part. begun_fits (given_of settings run.0 (Some bytes)) bytes settings asked (reading asked) sound before after refl part) are run.1,
            run.2,
          ))
          (ended.cut_off bad);
      reported = ended.reported;
      statuses = ended.statuses;
    }
