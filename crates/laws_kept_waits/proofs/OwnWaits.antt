-- A graph states no wait of a step for itself.
use Rattle.std.proofs.Common.{◌≡◌, ◌≤◌, ◌<◌, ℕ, List, [], get_or, length, None, Some, refl, subst, ⊎_elim}
use Rattle.std.specs.Prelude.{slice_get}
use Rattle.std.specs.List.{Contains}
use Rattle.std.proofs.lemmas.List.{get_or_past}
use Rattle.std.proofs.lemmas.Option.{get_or_from_slice_get, slice_get_cases}
use Rattle.apply_model.specs.Plan.ResourceChange.{ResourceChange}
use Rattle.stream_record_waits.specs.Graph.{waits_at}
use Rattle.stream_record_cli.specs.Graphs.{AreGraphWaits}
use Rattle.laws_waits.proofs.Increasing.{nothing_in}

pub never_itself : (changes : List ResourceChange) (bytes : List ℕ) (waits : List (List ℕ)) → AreGraphWaits changes bytes waits
    → (step : ℕ) → Contains (waits_at waits step) step → ⊥
never_itself changes bytes waits are step has = ⊎_elim
    (λ (there : (x : List ℕ) × (step < length waits) × (slice_get waits step ≡ Some x) × (get_or waits step x ≡ x)).
    let same : waits_at waits step ≡ there.0 = get_or_from_slice_get waits step there.0 [] there.2 in
    (((are.are.waits step there.0 there.2).sound step (subst (λ ns. Contains ns step) same has)).differs) refl)
    (λ (past : (length waits ≤ step) × (slice_get waits step ≡ None)).
    nothing_in step (subst (λ ns. Contains ns step) (get_or_past waits step [] past.0) has))
    (slice_get_cases waits step).1
