use Rattle.std.proofs.Common.{◌≡◌, sym, true, false, Some, None, rules}
use Rattle.std.specs.String.{string_bytes}
use Rattle.std.proofs.lemmas.Map.Text.{btree_map_updates_text}
use Rattle.stream_check.specs.AddressState.{is_idle}
use Rattle.stream_check.proofs.rules.open_steps.OpenSteps.set.Goals as goal

pub returns-then-is_idle : goal.returns-then-is_idle
returns-then-is_idle c = record {
  ok = λ other.
      let nothing : is_idle c.args.state ≡ true = sym c.if-is_idle.ensures in
      rw nothing (btree_map_updates_text c.args.address.now c.args.self.now.states c.remove.new.self None c.remove.ensures.updates other);
  err = tt;
}

pub returns-in-Some : goal.returns-in-Some
returns-in-Some c = record {
  ok = λ other.
      let something : is_idle c.args.state ≡ false = sym c.if-is_idle.ensures in
      let updates = (c.get_mut.follows.holds c.args.state).3 (search rules) in
      rw something (btree_map_updates_text c.args.address.now c.args.self.now.states (c.get_mut.follows.lender c.args.state) (Some c.args.state) updates other);
  err = tt;
}

pub returns-in_ok-insert : goal.returns-in_ok-insert
returns-in_ok-insert c = record {
  ok = λ other.
      let something : is_idle c.args.state ≡ false = sym c.if-is_idle.ensures in
      let put = btree_map_updates_text (string_bytes c.in_ok-key.key) c.get_mut.follows.lender-at-none c.insert.new.self (Some c.args.state) c.in_ok-insert.ensures.updates other in
      rw (something, ← c.in_ok-key.ensures.ok) (rw c.get_mut.follows.holds-at-none at put);
  err = tt;
}
