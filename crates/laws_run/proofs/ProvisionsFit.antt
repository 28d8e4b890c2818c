-- Each event between a step's start and its end can happen.
use Rattle.std.proofs.Common.{◌≡◌, ℕ, zero, suc, ◌+◌, ◌≤◌, All, nat_eq, nat_lt, Bool, true, false, not, List, [], ◌∷◌, ◌++◌, cond, drop, get_or, length, Some, refl, ap, arith, ⊎_elim, lt-ltb, add-one}
use Rattle.std.specs.Prelude.{IsTrue, slice_get}
use Rattle.std.specs.List.{list_any}
use Rattle.std.proofs.lemmas.Bool.Decides.{eqb_tells}
use Rattle.std.proofs.lemmas.List.Elements.{All-append, All-cons, All-filter, All-map, All-nil}
use Rattle.std.proofs.lemmas.List.Folds.{list_any_at}
use Rattle.apply_model.specs.declared.plan.step_kind.StepKind.{StepKind}
use Rattle.apply_model.specs.declared.script.outcome.Outcome.{Outcome}
use Rattle.apply_model.specs.declared.script.provisioner.Provisioner.{Provisioner}
use Rattle.apply_model.specs.declared.script.timed_text.TimedText.{TimedText}
use Rattle.apply_model.specs.Script.Outcome.{has_failed, ran, seconds_before, took}
use Rattle.apply_events.specs.declared.what.What.{What}
use Rattle.apply_events.specs.declared.what.What.TheVariants.{Progress, ProvisionComplete, ProvisionErrored, ProvisionOutput, ProvisionStart}
use Rattle.apply_events.specs.Fits.{can_happen, runs}
use Rattle.apply_events.specs.ProgressTimes.{progress_times}
use Rattle.apply_events.specs.Provisions.{along, output_at, progress, provision_end, times_within, emitted_by}

itself : (n : ℕ) → nat_eq n n ≡ true
itself n = ⊎_elim (λ e. e.0) (λ e. absurd (e.1 refl)) (eqb_tells n n)

-- what happens can happen to a step of that kind with that outcome
abbrev pub CanHappenTo : StepKind → Outcome → ℕ × What → Type 0
CanHappenTo kind outcome x = IsTrue (can_happen kind outcome x.1)

-- ---- progress

all-members : (times : List ℕ) → All (λ p. IsTrue (list_any (λ time. nat_eq time p) times)) times
all-members times k d less = list_any_at (λ time. nat_eq time (get_or times k d)) times k d less (itself (get_or times k d))

progress_happens : (kind : StepKind) (outcome : Outcome) (a b : ℕ) → All (CanHappenTo kind outcome) (progress (took kind outcome) a b)
progress_happens kind outcome a b =
    All-map (CanHappenTo kind outcome) (λ (t : ℕ). (t, Progress t)) (times_within (took kind outcome) a b)
    (All-filter _ (λ p. IsTrue (list_any (λ time. nat_eq time p) (progress_times (took kind outcome)))) (progress_times (took kind outcome)) (all-members (progress_times (took kind outcome))))

-- ---- provisioners

pub found_at : {X : Type 0} (xs : List X) (i : ℕ) (x : X) (rest : List X) → drop i xs ≡ x ∷ rest → slice_get xs i ≡ Some x
found_at [] zero x rest h = cc
found_at [] (suc i) x rest h = cc
found_at (y ∷ xs) zero x rest h = let same : y ≡ x = cc in rw same refl
found_at (y ∷ xs) (suc i) x rest h = found_at xs i x rest h

pub next_located : {X : Type 0} (xs : List X) (i : ℕ) (x : X) (rest : List X) → drop i xs ≡ x ∷ rest → drop (suc i) xs ≡ rest
next_located [] zero x rest h = cc
next_located [] (suc i) x rest h = cc
next_located (y ∷ xs) zero x rest h = cc
next_located (y ∷ xs) (suc i) x rest h = next_located xs i x rest h

passes : (outcome : Outcome) (i : ℕ) (p : Provisioner) (test : Provisioner → Bool) → slice_get (ran outcome.provisioners) i ≡ Some p → test p ≡ true → runs outcome i test ≡ true
passes outcome i p test located is = rw (located, is) refl

end_happens : (kind : StepKind) (outcome : Outcome) (i until : ℕ) (p : Provisioner) → slice_get (ran outcome.provisioners) i ≡ Some p → CanHappenTo kind outcome (until, provision_end i p)
end_happens kind outcome i until p located =
    elim (has_failed p) as (λ b. has_failed p ≡ b → IsTrue (can_happen kind outcome (cond b (ProvisionErrored i) (ProvisionComplete i)))) [
      | true ↦ λ is. passes outcome i p has_failed located is
      | false ↦ λ is. passes outcome i p (λ provisioner. not (has_failed provisioner)) located (ap not is)
    ] refl

-- these outputs are the outputs of provisioner i from some number on
emitted_happens : (kind : StepKind) (outcome : Outcome) (after i j since until : ℕ) (p : Provisioner) (outputs : List TimedText) → slice_get (ran outcome.provisioners) i ≡ Some p → j + length outputs ≤ length p.output
    → All (CanHappenTo kind outcome) (emitted_by (took kind outcome) after i j since until (provision_end i p) outputs)
emitted_happens kind outcome after i j since until p [] located le =
    let P = CanHappenTo kind outcome in
    All-append P (progress (took kind outcome) after until) ((until, provision_end i p) ∷ []) (progress_happens kind outcome after until)
    (All-cons P (until, provision_end i p) [] (end_happens kind outcome i until p located) (All-nil P))
emitted_happens kind outcome after i j since until p (o ∷ os) located le =
    let P = CanHappenTo kind outcome in
    let at = output_at after since until o in
    let rest = emitted_by (took kind outcome) at i (j + 1) since until (provision_end i p) os in
    All-append P (progress (took kind outcome) after at) ((at, ProvisionOutput i j) ∷ rest) (progress_happens kind outcome after at)
    (All-cons P (at, ProvisionOutput i j) rest (passes outcome i p (λ provisioner. nat_lt j (length provisioner.output)) located (lt-ltb j (length p.output) (omega arith)))
    (emitted_happens kind outcome at i (j + 1) since until p os located (omega arith)))

along_from : (kind : StepKind) (outcome : Outcome) (after i since : ℕ) (ps : List Provisioner) → drop i (ran outcome.provisioners) ≡ ps
    → All (CanHappenTo kind outcome) (along (took kind outcome) after i since ps)
along_from kind outcome after i since [] here = progress_happens kind outcome after (took kind outcome)
along_from kind outcome after i since (p ∷ ps) here =
    let P = CanHappenTo kind outcome in
    let d = took kind outcome in
    let located = found_at (ran outcome.provisioners) i p ps here in
    let until = since + p.seconds in
    let emitted : List (ℕ × What) = emitted_by d since i 0 since until (provision_end i p) p.output in
    let rest = along d until (i + 1) until ps in
    All-append P (progress d after since) ((since, ProvisionStart i) ∷ (emitted ++ rest))
    (progress_happens kind outcome after since)
    (All-cons P (since, ProvisionStart i) (emitted ++ rest) (passes outcome i p (λ provisioner. true) located refl)
    (All-append P emitted rest
    (emitted_happens kind outcome since i 0 since until p p.output located (omega arith))
    (along_from kind outcome until (i + 1) until ps (rw add-one (next_located (ran outcome.provisioners) i p ps here)))))

pub along_happens : (kind : StepKind) (outcome : Outcome) → All (CanHappenTo kind outcome) (along (took kind outcome) 0 0 (seconds_before kind outcome) (ran outcome.provisioners))
along_happens kind outcome = along_from kind outcome 0 0 (seconds_before kind outcome) (ran outcome.provisioners) refl
