-- Claims and drawers as contracts see them.
use Rattle.std.specs.Prelude.{◌≡◌, ℕ, ◌≤◌, zero, suc, Bool, true, false, List, [], ◌∷◌, ◌++◌, All, map}
use Rattle.atomic_table.specs.Seated.{TableId}
use Rattle.apply_events.specs.Partition.{IsPartition, NamesEachWorkerOnce}

-- some claims, told from all others by their table; the numbers are those below the limit, and each
-- worker has a drawer
pub record ClaimsName : Type 0 where
  pub table : TableId
  pub limit : ℕ
  pub workers : ℕ

-- a drawer: its claims, its worker, the numbers that it has drawn, and whether a draw has met the
-- end
pub record Drawing : Type 0 where
  pub claims : ClaimsName
  pub worker : ℕ
  pub drawn : List ℕ
  pub met_none : Bool

-- claims, and those of their drawers that were joined
pub record JoinedDrawers : Type 0 where
  pub claims : ClaimsName
  pub drawings : List Drawing

-- the drawers of the first n workers, before any draw
abbrev pub new_drawers : ClaimsName → (n : ℕ) → List Drawing
new_drawers claims zero = []
new_drawers claims (suc n) =
    new_drawers claims n ++ record { claims = claims; worker = n; drawn = []; met_none = false } ∷ []

-- the numbers that each has drawn
abbrev pub lists_drawn : List Drawing → List (List ℕ)
lists_drawn drawings = map (λ drawing. drawing.drawn) drawings

abbrev pub workers_of : List Drawing → List ℕ
workers_of drawings = map (λ drawing. drawing.worker) drawings

-- one drawer of these claims for each worker
pub record IsOneForEach (claims : ClaimsName) (drawings : List Drawing) : Type 0 where
  pub of_claims : All (λ drawing. drawing.claims ≡ claims) drawings
  pub each : NamesEachWorkerOnce claims.workers (workers_of drawings)

-- the lists share out the numbers below m; if a drawer has met the end, m is the limit
pub record IsDealtOut (claims : ClaimsName) (drawings : List Drawing) (m : ℕ) : Type 0 where
  pub within : m ≤ claims.limit
  pub partition : IsPartition claims.workers m (lists_drawn drawings)
  pub complete : All (λ drawing. drawing.met_none ≡ true → m ≡ claims.limit) drawings
