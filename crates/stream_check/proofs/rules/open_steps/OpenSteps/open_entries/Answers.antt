use Rattle.std.proofs.Common.{ℕ, List, ◌++◌, map, ap, ◌∙◌, unwrap_or}
use Rattle.std.specs.BTreeMap.{get_by_text, keys}
use Rattle.std.specs.String.{string_bytes}
use Rattle.stream_check.specs.AddressState.{idle}
use Rattle.stream_check.specs.Unended.{Opened, opened, opens_of}
use Rattle.stream_check.proofs.OpenEntries.{grows, in_order_too}
use Rattle.stream_check.proofs.rules.open_steps.OpenSteps.open_entries.Goals as goal

pub loop-address-preserved : goal.loop-address-preserved
loop-address-preserved c =
    let f = λ (a : List ℕ). opens_of c.args.criteria.refreshes c.args.criteria.failures a (unwrap_or (get_by_text c.args.self.now.states a) idle) in
    grows f (λ e. string_bytes e.0.now) c.loop-address.yielded (c.in-Some.address, c.in-Some.field-0-1) _ _ c.loop-address.invariant
    (c.in_ok-push_entries.ensures
    ∙ ap (λ (l : List Opened). map opened c.loop-address.entries.items ++ l)
    (ap (opens_of c.args.criteria.refreshes c.args.criteria.failures c.as_str-address.result.now) c.at.ensures ∙ ap f c.as_str-address.ensures.value))

pub returns-clause-in_order : goal.returns-clause-in_order
returns-clause-in_order c = in_order_too (keys c.args.self.now.states) c.iter-address-items.ensures.ordered
