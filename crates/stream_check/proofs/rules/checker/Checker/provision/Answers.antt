use Rattle.std.proofs.Common.{◌≡◌, ◌+◌, ◌∷◌, ◌∙◌, length, refl, Ok}
use Rattle.stream_check.specs.Message.{provision}
use Rattle.stream_check.specs.AddressState.{provision_on, state_of}
use Rattle.stream_check.proofs.Continuing.{after_summary, no_summary, with_one, provision_after, provision_read}
use Rattle.stream_check.proofs.Summing.{provision_faulty, provision_fits}
use Rattle.stream_check.proofs.rules.checker.Checker.provision.Goals as goal

pub returns-in-Err : goal.returns-in-Err
returns-in-Err c = λ messages read. (
  read,
  λ memory. provision_faulty messages c.args.address.now c.args.stage c.in-Err.fault (no_summary c.args.self.now messages read c.in_default.not-Some)
      (provision_after c.args.self.now messages c.args.address.now c.args.stage c.at.result c.provision_on.result read c.at.ensures c.provision_on.ensures ∙ c.in-Err.is),
)

pub returns : goal.returns
returns c = λ messages read.
    let a = c.args.address.now in
    let e : provision_on c.args.stage (length messages + 1) (state_of a messages) ≡ Ok c.in-Ok.state =
    provision_after c.args.self.now messages a c.args.stage c.at.result c.provision_on.result read c.at.ensures c.provision_on.ensures ∙ c.in-Ok.is in (
      provision a c.args.stage ∷ messages,
      provision_fits messages a c.args.stage c.in-Ok.state (no_summary c.args.self.now messages read c.in_default.not-Some) e,
      provision_read c.args.self.now _ messages a c.args.stage c.in-Ok.state read c.in-Ok-set.ensures.ok (λ b. refl) c.with_line-self.ensures.value e,
    )

pub returns-in-Some : goal.returns-in-Some
returns-in-Some c = λ messages read. after_summary c.args.self.now messages c.in-Some.line _ read c.in-Some.is

pub overflow_add-self : goal.overflow_add-self
overflow_add-self c = with_one c.args.self.now.tally.lines c.requires

pub invariant_of-self : goal.invariant_of-self
invariant_of-self c = record { small = c.args.self.now.small }

pub with_line-self-requires : goal.with_line-self-requires
with_line-self-requires c = record {
  few = c.requires;
  small = c.args.self.now.small;
}

pub invariant_of-self-2 : goal.invariant_of-self-2
invariant_of-self-2 c = record { small = c.with_line-self.ensures.small }
