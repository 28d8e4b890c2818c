use Rattle.std.proofs.Common.{◌≡◌, ℕ, ◌∷◌, ◌∙◌, ap, cond, refl, true, Some}
use Rattle.std.specs.BTreeMap.{get_by_text}
use Rattle.std.specs.Str.{bytes_eq}
use Rattle.stream_check.specs.declared.rules.address_state.AddressState.{AddressState}
use Rattle.stream_check.specs.Message.{diagnostic}
use Rattle.stream_check.specs.AddressState.{failures_cleared, state_of, unless_idle}
use Rattle.stream_check.specs.Tallied.{with_error_at}
use Rattle.stream_check.specs.Tally.{failure_count}
use Rattle.stream_check.proofs.Continuing.{error_read, looked_up}
use Rattle.stream_check.proofs.rules.checker.Checker.error_at.Goals as goal

pub returns : goal.returns
returns c = λ messages read.
    let a = c.args.address.now in
    let before : c.at-state.result ≡ state_of a messages = looked_up c.args.self.now messages a c.at-state.result read c.at-state.ensures in
    let there : c.failures_cleared.result ≡ failures_cleared true (state_of a messages) = c.failures_cleared.ensures ∙ ap (failures_cleared true) before in
    let count : c.failure_count-count.result ≡ failure_count (state_of a messages).failures = c.failure_count-count.ensures ∙ ap (λ (s : AddressState). failure_count s.failures) before in (
      diagnostic true (Some a) ∷ messages,
      refl,
      error_read c.args.self.now _ messages a read
          (λ b. c.in-Ok.ensures.ok b ∙ ap (λ (s : AddressState). cond (bytes_eq a b) (unless_idle s) (get_by_text c.args.self.now.pending.states b)) there)
          (λ b. refl)
          (c.with_error_at-self.ensures.value ∙ ap (λ (n : ℕ). with_error_at n c.args.self.now.tally) count),
    )

pub invariant_of-self : goal.invariant_of-self
invariant_of-self c = record { small = c.args.self.now.small }

pub with_error_at-self-requires : goal.with_error_at-self-requires
with_error_at-self-requires c = record {
  few = c.requires;
  small = c.args.self.now.small;
}

pub invariant_of-self-2 : goal.invariant_of-self-2
invariant_of-self-2 c = record { small = c.with_error_at-self.ensures.small }
