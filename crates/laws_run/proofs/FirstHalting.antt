-- The first hook that halts a call halts it, and no hook before it does.
use Rattle.std.proofs.Common.{◌≡◌, ℕ, ◌<◌, List, [], length, Some, true, false, refl, ap, arith}
use Rattle.std.specs.List.{position_or_len}
use Rattle.std.proofs.lemmas.Grind.{common_steps}
use Rattle.std.proofs.lemmas.List.Quantifiers.{position-Some}
use Rattle.std.proofs.lemmas.List.Sums.{position_or_len_is}
use Rattle.apply_hooks.specs.HookCall.{Call}
use Rattle.apply_hooks.specs.Hooks.{IsFirstHalting, first_halting}
use Rattle.apply_hooks.specs.Rules.{verdict_of}
use Rattle.apply_hooks.specs.Verdict.{is_halt}
use Rattle.apply_hooks.specs.declared.rule.Rule.{Rule}
use Rattle.apply_hooks.specs.declared.verdict.Verdict.{Verdict}
use Rattle.apply_hooks.specs.declared.verdict.Verdict.TheVariants.{Continue, Halt}

halt-from_true : (verdict : Verdict) → is_halt verdict ≡ true → verdict ≡ Halt
halt-from_true Halt h = refl
halt-from_true Continue h = cc

continue-from_false : (verdict : Verdict) → is_halt verdict ≡ false → verdict ≡ Continue
continue-from_false Halt h = cc
continue-from_false Continue h = refl

pub is_first_halting : (hooks : List (List Rule)) (call : Call) (number : ℕ) → first_halting hooks call ≡ Some number → IsFirstHalting hooks call number
is_first_halting hooks call number named =
    let first = position-Some (λ rules. is_halt (verdict_of rules call)) hooks number [] named in
    record { below = first.0; halts = halt-from_true _ first.1; before = λ earlier low. continue-from_false _ (first.2 earlier low) }

-- a place that passes and has none before it that does is where the search stops
pub first_halting_is : (hooks : List (List Rule)) (call : Call) (number : ℕ) → IsFirstHalting hooks call number → first_halting hooks call ≡ Some number
first_halting_is hooks call number first =
    let halting = λ (rules : List Rule). is_halt (verdict_of rules call) in
    let below : number < length hooks = first.below in
    let at : position_or_len halting hooks ≡ number = position_or_len_is halting hooks number [] (omega arith) (λ earlier low. ap is_halt (first.before earlier low)) (λ _. ap is_halt first.halts) in
    grind (arith, common_steps)
