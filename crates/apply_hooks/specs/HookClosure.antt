-- Closures that answer calls.
use Rattle.std.specs.Prelude.{◌≡◌, List}
use Rattle.std.specs.Borrow.{Bor}
use Rattle.apply_hooks.specs.HookCall.{call_of}
use Rattle.apply_hooks.specs.Rules.{verdict_of}
use Rattle.apply_hooks.specs.declared.hook_call.HookCall.{HookCall}
use Rattle.apply_hooks.specs.declared.rule.Rule.{Rule}
use Rattle.apply_hooks.specs.declared.verdict.Verdict.{Verdict}

-- The closure answers as the rules do: it accepts every call, and each answer that it may give is
-- the verdict of the rules. `pre` states which calls the closure accepts, and `post` which answers
-- it may give.
pub record AnswersAs (pre : Bor HookCall → Type 0) (post : Bor HookCall → Verdict → Type 0) (rules : List Rule)
    : Type 0 where
  pub callable : (call : Bor HookCall) → pre call
  pub answers : (call : Bor HookCall) (verdict : Verdict) → post call verdict
      → verdict ≡ verdict_of rules (call_of call.now)
