-- What holds of the events of each worker holds of all events of a run.
use Rattle.std.proofs.Common.{◌≡◌, ℕ, ◌<◌, ◌==◌, All, List, [], ◌∷◌, cond, Bool, true, false, refl, eq-eqb}
use Rattle.std.specs.List.{AllByRecursion}
use Rattle.std.proofs.lemmas.List.Elements.{All-head, All-tail}
use Rattle.apply_events.specs.declared.event.Event.{Event}
use Rattle.apply_events.specs.OfWorker.{of_worker}

module _ (P : Event → Type 0) where
  here : (e : Event) (es : List Event) → AllByRecursion P (of_worker e.worker (e ∷ es)) → P e
  here e es h = of_test (e.worker == e.worker) (eq-eqb e.worker e.worker refl) h
    where
      of_test : (b : Bool) → b ≡ true → AllByRecursion P (cond b (e ∷ of_worker e.worker es) (of_worker e.worker es)) → P e
      of_test true is h = h.0
      of_test false is h = absurd cc

  later : (w : ℕ) (e : Event) (es : List Event) → AllByRecursion P (of_worker w (e ∷ es)) → AllByRecursion P (of_worker w es)
  later w e es h = of_test (e.worker == w) h
    where
      of_test : (b : Bool) → AllByRecursion P (cond b (e ∷ of_worker w es) (of_worker w es)) → AllByRecursion P (of_worker w es)
      of_test true h = h.1
      of_test false h = h

  pub of_parts : (workers : ℕ) (es : List Event) → All (λ event. event.worker < workers) es → ((w : ℕ) → w < workers → AllByRecursion P (of_worker w es)) → AllByRecursion P es
  of_parts workers [] named parts = tt
  of_parts workers (e ∷ es) named parts = (
    here e es (parts e.worker (All-head (λ (event : Event). event.worker < workers) e es named)),
    of_parts workers es (All-tail (λ (event : Event). event.worker < workers) e es named) (λ w less. later w e es (parts w less)),
  )
