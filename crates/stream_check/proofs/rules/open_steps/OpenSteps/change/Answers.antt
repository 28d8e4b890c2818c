use Rattle.std.proofs.Common.{◌≡◌, List, ℕ, cond, sym, ap, ◌∙◌, ⊎_elim, refl, true, false, Option, Some, None, rules}
use Rattle.std.specs.BTreeMap.{get_by_text}
use Rattle.std.specs.Option.{option_and_then}
use Rattle.std.specs.Str.{bytes_eq}
use Rattle.std.proofs.lemmas.Bool.{cases_Bool}
use Rattle.std.proofs.lemmas.Slice.Eq.{bytes_eq-Decides}
use Rattle.std.proofs.lemmas.Map.Text.{btree_map_updates_text}
use Rattle.stream_check.specs.declared.rules.address_state.AddressState.{AddressState}
use Rattle.stream_check.specs.AddressState.{is_idle}
use Rattle.stream_check.proofs.rules.open_steps.OpenSteps.change.Goals as goal

none_then : (o : Option AddressState) → (let nothing : Option AddressState = None in option_and_then (λ (x : AddressState). nothing) o) ≡ None
none_then None = refl
none_then (Some x) = refl

-- what is missing may be unset
unset : (stored : List ℕ → Option AddressState) (a b : List ℕ) → stored a ≡ None → stored b ≡ cond (bytes_eq a b) None (stored b)
unset stored a b missing =
    ⊎_elim (λ (yes : bytes_eq a b ≡ true). rw yes (ap stored (sym ((bytes_eq-Decides a b).0 yes)) ∙ missing)) (λ (apart : bytes_eq a b ≡ false). rw apart refl) (cases_Bool (bytes_eq a b))

pub returns-then-is_idle : goal.returns-then-is_idle
returns-then-is_idle c = λ other.
    let nothing : is_idle c.args.state ≡ true = sym c.if-is_idle.ensures in
    rw (nothing, none_then (get_by_text c.args.self.now.states c.args.address.now)) (btree_map_updates_text c.args.address.now c.args.self.now.states c.remove.new.self None c.remove.ensures.updates other)

pub returns-in-Some : goal.returns-in-Some
returns-in-Some c = λ other.
    let something : is_idle c.args.state ≡ false = sym c.if-is_idle.ensures in
    let there : get_by_text c.args.self.now.states c.args.address.now ≡ Some c.in-Some.kept.now = sym c.in-Some.ensures.value in
    let updates = (c.get_mut.follows.holds c.args.state).3 (search rules) in
    rw (something, there) (btree_map_updates_text c.args.address.now c.args.self.now.states (c.get_mut.follows.lender c.args.state) (Some c.args.state) updates other)

pub returns-in_default : goal.returns-in_default
returns-in_default c = λ other.
    let missing : get_by_text c.args.self.now.states c.args.address.now ≡ None = sym c.in_default.ensures.value in
    rw (c.get_mut.follows.holds-at-none, missing) (unset (λ a. get_by_text c.args.self.now.states a) c.args.address.now other missing)
