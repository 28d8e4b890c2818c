-- What stands open at the addresses so far does not matter.
use Rattle.std.proofs.Common.{◌≡◌, false, All, unwrap_or}
use Rattle.std.specs.BTreeMap.{get_by_text}
use Rattle.std.specs.String.{string_bytes}
use Rattle.stream_check.specs.Open.{stands_open}
use Rattle.stream_check.specs.AddressState.{idle}
use Rattle.stream_check.proofs.rules.open_steps.OpenSteps.has_open.Given as goal

abbrev pub invariant-loop-address : goal.invariant-loop-address
invariant-loop-address l = All (λ e. stands_open l.criteria.refreshes l.criteria.failures (unwrap_or (get_by_text l.self.states (string_bytes e.0.now)) idle) ≡ false) l.yielded
