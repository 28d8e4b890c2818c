-- The call of a hook.
use Rattle.std.specs.Prelude.{ℕ, List}
use Rattle.apply_model.specs.declared.plan.step_kind.StepKind.{StepKind}
use Rattle.apply_hooks.specs.declared.hook_call.HookCall.{HookCall}
use Rattle.apply_hooks.specs.declared.phase.Phase.{Phase}

-- A call with the bytes of its address, so that definitions can make calls.
pub record Call : Type 0 where
  pub phase : Phase
  pub kind : StepKind
  -- The bytes of the address.
  pub address : List ℕ

-- The call, by the bytes of its address.
abbrev pub call_of : HookCall → Call
call_of call = record { phase = call.phase; kind = call.kind; address = call.address.now }
