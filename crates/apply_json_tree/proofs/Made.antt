-- A value that is given if a read succeeded. Otherwise the fault of the read is given.
use Rattle.std.proofs.Common.{◌≡◌, Result, Ok, Err, subst, sym, ap}
use Rattle.std.specs.Prelude.{IfOk, MatchResult, OnOk}
use Rattle.serde_json.specs.declared.value.Value.{Value}
use Rattle.apply_json.specs.declared.read_fault.ReadFault.{ReadFault}
use Rattle.apply_json.specs.declared.read_fault.ReadFault.TheVariants.{NotJson}

pub made_if : {P : Type 0} (Q : Value → Type 0) (read : Result (Unit {0}) ReadFault) (r : Result Value ReadFault) (whole : Value) → MatchResult read (λ _. r ≡ Ok whole) (λ fault. r ≡ Err fault) → (P → Q whole) → OnOk read P → IfOk r Q
made_if Q (Ok done) r whole is f p = subst (λ x. IfOk x Q) (sym is) (f p)
made_if Q (Err fault) r whole is f p = subst (λ x. IfOk x Q) (sym is) tt

pub made_on : {P Q : Type 0} (read : Result (Unit {0}) ReadFault) (r : Result Value ReadFault) (whole : Value) → MatchResult read (λ _. r ≡ Ok whole) (λ fault. r ≡ Err fault) → (P → Q) → OnOk read P → OnOk r Q
made_on {Q = Q} (Ok done) r whole is f p = subst (λ x. OnOk x Q) (sym is) (f p)
made_on {Q = Q} (Err fault) r whole is f p = subst (λ x. OnOk x Q) (sym is) tt

pub made_refused : (read : Result (Unit {0}) ReadFault) (r : Result Value ReadFault) (whole : Value) → MatchResult read (λ _. r ≡ Ok whole) (λ fault. r ≡ Err fault) → r ≡ Err NotJson → read ≡ Err NotJson
made_refused (Ok done) r whole is refused = absurd cc
made_refused (Err fault) r whole is refused = let same : fault ≡ NotJson = cc in ap Err same
