-- What stands open at the addresses so far.
use Rattle.std.proofs.Common.{◌≡◌, map, unwrap_or}
use Rattle.std.specs.BTreeMap.{get_by_text}
use Rattle.std.specs.List.{flat_map}
use Rattle.std.specs.String.{string_bytes}
use Rattle.stream_check.specs.AddressState.{idle}
use Rattle.stream_check.specs.Unended.{opened, opens_of}
use Rattle.stream_check.proofs.rules.open_steps.OpenSteps.open_entries.Given as goal

abbrev pub invariant-loop-address : goal.invariant-loop-address
invariant-loop-address l =
    map opened l.entries.items
    ≡ flat_map (λ address. opens_of l.criteria.refreshes l.criteria.failures address (unwrap_or (get_by_text l.self.states address) idle))
    (map (λ e. string_bytes e.0.now) l.yielded)
