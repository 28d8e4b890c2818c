use Rattle.std.proofs.Common.{◌≡◌, ap, arith}
use Rattle.std.specs.Prelude.{Result, Err}
use Rattle.std.proofs.lemmas.List.{length-map}
use Rattle.apply_hooks.specs.FnHook.{rules_of_hook}
use Rattle.apply_hooks.specs.declared.hook_error.HookError.{HookError}
use Rattle.apply_hooks.specs.declared.hook_error.HookError.TheVariants.{Full, Memory}
use Rattle.apply_hooks.proofs.registry.Registry.add.Goals as goal

-- refused memory is not reported as a full registry
differ : {T H : Type 0} (hook other : H) → ◌≡◌ {A = Result T (HookError × H)} (Err (Memory, hook)) (Err (Full, other)) → ⊥
differ {T} {H} hook other e =
    let both : ◌≡◌ {A = HookError × H} (Memory, hook) (Full, other) = cc in
    let same : Memory ≡ Full = ap (λ (refusal : HookError × H). refusal.0) both in absurd cc

pub returns-in-Err-clause-full : goal.returns-in-Err-clause-full
returns-in-Err-clause-full g c = (
  λ refusal. absurd (differ _ _ refusal),
  λ most. absurd (omega (arith, length-map c.args.self.now.hooks.items rules_of_hook, c.args.self.now.hooks.ok.0)),
)
