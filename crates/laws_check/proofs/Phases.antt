-- The phases of a change: which events may come, one after another.
use Rattle.std.proofs.Common.{◌≡◌, ◌≢◌, ℕ, ◌<◌, ◌≤◌, ◌==◌, ◌⊎◌, List, [], ◌∷◌, Bool, true, false, cond, filter, Option, Some, None, refl, ap, bytes_eq, eq-eqb, ne_eqb}
use Rattle.stream_check.specs.declared.messages.action.Action.{Action}
use Rattle.stream_check.specs.declared.messages.action.Action.TheVariants.{Create, Delete, Read}
use Rattle.stream_check.specs.Words.{same_action}
use Rattle.apply_events.specs.declared.what.What.{What}
use Rattle.apply_events.specs.declared.what.What.TheVariants.{Start, Progress, Complete, Errored, ErrorNote, WarnNote, Halted, ProvisionStart, ProvisionOutput, ProvisionComplete, ProvisionErrored}

-- where a change is: between two steps; in a step, with its last elapsed seconds, and with a
-- provisioner under way or none; or after a step whose failure no error has explained. A step that
-- only warns has no end, so the change stays in it.
pub data Phase : Type 0 where
  between : Phase
  under_way : Action → (elapsed : ℕ) → (provisions : Bool) → Phase
  unexplained : Phase

-- provisioners run within creates and deletes
abbrev pub HoldsProvisioners : Action → Type 0
HoldsProvisioners k = (k ≡ Create) ⊎ (k ≡ Delete)

-- a provisioner may run within that action of a change that may have provisioners, if it may
abbrev pub MayRun : (may : Type 0) → Action → Type 0
MayRun may k = may × HoldsProvisioners k

-- An event of a step with that action leads the change from the first phase to the second. The
-- change may have provisioners or not.
abbrev pub Turns : (may : Type 0) → Phase → Action → What → Phase → Type 0
Turns may between k Start q = q ≡ under_way k 0 false
Turns may between k ErrorNote q = q ≡ between
Turns may between k WarnNote q = q ≡ between
Turns may between k (Halted phase hook) q = q ≡ between
Turns may (under_way l t b) k (Progress s) q = (l ≡ k) × (t < s) × (q ≡ under_way k s b)
Turns may (under_way l t b) k (Complete s) q = (l ≡ k) × (b ≡ false) × (t ≤ s) × (q ≡ between)
Turns may (under_way l t b) k (Errored s) q = (l ≡ k) × (b ≡ false) × (t ≤ s) × (q ≡ unexplained)
Turns may (under_way l t b) k (ProvisionStart i) q = (l ≡ k) × MayRun may k × (b ≡ false) × (q ≡ under_way k t true)
Turns may (under_way l t b) k (ProvisionOutput i line) q = (l ≡ k) × MayRun may k × (b ≡ true) × (q ≡ under_way k t true)
Turns may (under_way l t b) k (ProvisionComplete i) q = (l ≡ k) × MayRun may k × (b ≡ true) × (q ≡ under_way k t false)
Turns may (under_way l t b) k (ProvisionErrored i) q = (l ≡ k) × MayRun may k × (b ≡ true) × (q ≡ under_way k t false)
Turns may (under_way l t b) k WarnNote q = q ≡ under_way l t b
Turns may (under_way l t b) k (Halted phase hook) q = q ≡ under_way l t b
Turns may unexplained k ErrorNote q = q ≡ between
Turns may unexplained k WarnNote q = q ≡ unexplained
Turns may unexplained k (Halted phase hook) q = q ≡ between
Turns may _ _ _ _ = ⊥

-- what happens to a step of a change
pub record Deed : Type 0 where
  pub change : ℕ
  pub action : Action
  pub what : What

-- These events may happen one after another to a change in the first phase, and leave the change in
-- the last.
abbrev pub Follows : (may : Type 0) → Phase → List Deed → Phase → Type 0
Follows may p [] r = p ≡ r
Follows may p (d ∷ ds) r = (q : Phase) × Turns may p d.action d.what q × Follows may q ds r

-- no step of the change is under way, but for a read, which may stay open
abbrev pub IsAtRest : Phase → Type 0
IsAtRest between = Unit {0}
IsAtRest (under_way k elapsed b) = k ≡ Read
IsAtRest unexplained = ⊥

-- what happens to one change
abbrev pub of_change : (c : ℕ) → List Deed → List Deed
of_change c ds = filter (λ d. d.change == c) ds

-- ---- several changes

-- the phases of all changes, with another one of change c
abbrev pub put : (ℕ → Phase) → (c : ℕ) → Phase → ℕ → Phase
put phases c p b = cond (b == c) p (phases b)

pub put_here : (phases : ℕ → Phase) (c : ℕ) (p : Phase) → put phases c p c ≡ p
put_here phases c p = ap (λ t. cond t p (phases c)) (eq-eqb c c refl)

pub put_elsewhere : (phases : ℕ → Phase) (c : ℕ) (p : Phase) (b : ℕ) → b ≢ c → put phases c p b ≡ phases b
put_elsewhere phases c p b apart = ap (λ t. cond t p (phases b)) (ne_eqb b c apart)

-- the last elapsed seconds of an action, if it is under way
abbrev pub seconds_in : Action → Phase → Option ℕ
seconds_in k between = None
seconds_in k (under_way l elapsed b) = cond (same_action l k) (Some elapsed) None
seconds_in k unexplained = None

-- a provisioner of a create or of a delete is under way
abbrev pub IsProvisioning : Phase → Type 0
IsProvisioning p = (t : ℕ) × (k : Action) × (p ≡ under_way k t true) × HoldsProvisioners k

-- the last elapsed seconds of the action at the address, if change c has it under way
abbrev pub shown : (addresses : ℕ → List ℕ) → (ℕ → Phase) → (a : List ℕ) → Action → (c : ℕ) → Option ℕ
shown addresses phases a k c = cond (bytes_eq (addresses c) a) (seconds_in k (phases c)) None

pub shown_same : (addresses : ℕ → List ℕ) (old new : ℕ → Phase) (a : List ℕ) (k : Action) (c : ℕ) → new c ≡ old c → shown addresses new a k c ≡ shown addresses old a k c
shown_same addresses old new a k c e = ap (λ (p : Phase). cond (bytes_eq (addresses c) a) (seconds_in k p) None) e
